-- The initialiser of a declarator behind a vector type: there is none, or it is a vector of that type.
use Rattle.std.proofs.Common.{◌≡◌, ℕ, suc, ◌≤◌, List, [], Option, None, Some, Bool, true, false, not, ◌&&◌, refl}
use Rattle.std.proofs.Common.{if◌then◌else◌, ap, sym, ◌∙◌, subst, arith, inl, inr, ◌⊎◌}
use Rattle.std.proofs.lemmas.Bool.{false≢true}
use Rattle.std.proofs.lemmas.Option.{none-some}
use Rattle.cl_model.specs.declared.program.Space.{Space}
use Rattle.cl_tree.specs.declared.tree.Form.TheVariants as forms
use Rattle.cl_tree.specs.Syntax.{Syntax, node, Forest, none, more, first_of, last_of}
use Rattle.cl_meaning.specs.Spelling.{is_set, is_const}
use Rattle.cl_meaning.specs.declared.kind.Role.TheVariants as roles
use Rattle.cl_meaning.specs.Environment.{Env}
use Rattle.cl_meaning.specs.Declarations.{is_star, form_of, word_of, star_in, behind_star, name_token, listed, last_one}
use Rattle.cl_meaning.specs.Declarations.{declarator_in}
use Rattle.cl_meaning.specs.Visible.{Before, is_front, behind, behind_parts, kind_of}
use Rattle.cl_meaning.specs.Faults.{Asked}
use Rattle.cl_check_sound.specs.Shape.{IsExpressionOf, AreExpressionsOf, IsListOf, AreLengthsOf, IsDeclaratorOf}
use Rattle.cl_check_sound.specs.Sound.{SoundTree, SoundParts}
use Rattle.cl_check_sound.proofs.Neutral.{neutral}
use Rattle.cl_short_vec.specs.declared.types.Vector.{Vector}
use Rattle.cl_short_vec.specs.declared.kinds.Reach.TheVariants.{Value}
use Rattle.cl_short_vec.specs.declared.kinds.Kind.TheVariants.{Vectors}
use Rattle.cl_short_vec.specs.declared.roles.Around.{Around}
use Rattle.cl_short_vec.specs.declared.roles.Around.TheVariants as around
use Rattle.cl_short_vec.specs.declared.roles.Role.{Role}
use Rattle.cl_short_vec.specs.declared.roles.Role.TheVariants.{Free, Used, Barred}
use Rattle.cl_short_vec.specs.Kinds.{Names, is_variable, is_vector}
use Rattle.cl_short_vec.specs.Kinds as kinds
use Rattle.cl_short_vec.specs.Marks.{Mark, Marks, tree_at, kind_at, back, marked, marked_parts}
use Rattle.cl_short_vec.specs.Marks.{kind_or_other}
use Rattle.cl_short_vec.specs.Roles.{role_of, initial_role, initial_at, form_or_unit}
use Rattle.cl_short_vec.specs.Faults.{agrees, is_list, set_wrongly, misplaced, refusals, refusals_in, is_initial}
use Rattle.cl_short_vec.specs.Unit.{initialiser_by, initialiser}
use Rattle.cl_short_vec_faults.specs.PlainForm.{plain_of, plains_of}
use Rattle.cl_short_vec_faults.specs.Plainly.{NoPoint, NoPoints}
use Rattle.cl_short_vec_faults.proofs.Ordered.{Ordered, OrderedIn, ordered_le}
use Rattle.cl_short_vec_faults.proofs.Refused.{none_of, node_none, kind_placed, expression_names}
use Rattle.cl_short_vec_faults.proofs.PlainForms.{plain_made}
use Rattle.cl_short_vec_faults.proofs.HolderParts.{declarator_holds, list_holds, list_behind, made_no_star}
use Rattle.cl_short_vec_faults.proofs.PlainDeclarations.{tree_is}
use Rattle.cl_short_vec_faults.proofs.VectorStays.{declaring, Stays, not_false, and_false}

-- ---- plain parts

-- the plain form of an expression or of a list leaves what is visible, and is no star
plain_expressions : (env : Env) (front : Bool) (ps : Forest) → AreExpressionsOf true ps →
    behind_parts env forms.ListNode front (plains_of ps) ≡ env
unfolding behind_parts plains_of
plain_expressions env front none h = refl
plain_expressions env front (more p ps) h =
    ap (λ z. behind_parts z forms.ListNode false (plains_of ps))
    (list_holds.next (behind env (plain_of p)) front (plain_of p) (kind_of env (plain_of p)) ∙
    neutral env (plain_of p) (plain_made p h.0)) ∙ plain_expressions env false ps h.1

plain_list : (env : Env) (t : Syntax) → IsListOf true t → (behind env (plain_of t) ≡ env) ×
    (is_star (plain_of t) ≡ false)
unfolding plain_of
plain_list env (node forms.ListNode w f l ps) h =
    (list_behind env w f l (plains_of ps) (plain_expressions env true ps h), refl)
plain_list env t h = absurd h

plain_part : (env : Env) (t : Syntax) → IsExpressionOf true t ⊎ IsListOf true t →
    (behind env (plain_of t) ≡ env) × (is_star (plain_of t) ≡ false)
plain_part env t (inl h) = let m = plain_made t h in (neutral env (plain_of t) m, (made_no_star (plain_of t) m).0)
plain_part env t (inr h) = plain_list env t h

front_part : (p : Syntax) (ps : Forest) → AreLengthsOf true (more p ps) → IsExpressionOf true p ⊎ IsListOf true p
front_part p none h = h
front_part p (more q qs) h = inl h.0

pub plains_leave : (env : Env) (front : Bool) (ps : Forest) → AreLengthsOf true ps →
    behind_parts env forms.DeclaratorNode front (plains_of ps) ≡ env
unfolding behind_parts plains_of
plains_leave env front none h = refl
plains_leave env front (more p none) h =
    declarator_holds.next (behind env (plain_of p)) front (plain_of p) (kind_of env (plain_of p)) ∙
    (plain_part env p h).0
plains_leave env front (more p (more q qs)) h =
    ap (λ z. behind_parts z forms.DeclaratorNode false (plains_of (more q qs)))
    (declarator_holds.next (behind env (plain_of p)) front (plain_of p) (kind_of env (plain_of p)) ∙
    (plain_part env p (inl h.0)).0) ∙ plains_leave env false (more q qs) h.1

pub plains_star : (env : Env) (ps : Forest) → AreLengthsOf true ps → star_in (plains_of ps) ≡ None
unfolding plains_of
plains_star env none h = refl
plains_star env (more p ps) h = ap (λ b. if b then Some (is_const (word_of (plain_of p))) else None)
    (plain_part env p (front_part p ps h)).1

-- behind no star
pub starless_lengths : (w : List ℕ) (f l : ℕ) (ps : Forest) → IsDeclaratorOf true (node forms.DeclaratorNode w f l ps) →
    star_in ps ≡ None → AreLengthsOf true ps
starless_lengths w f l none h s = h
starless_lengths w f l (more (node forms.StarNode w' f' l' none) ps) h s = absurd (none-some (is_const w') (sym s))
starless_lengths w f l (more (node form w' f' l' qs) ps) h s = h

-- the token of the name
star_false : (p : Syntax) (b : Bool) → (if b then Some (is_const (word_of p)) else None) ≡ None → b ≡ false
star_false p true e = absurd (none-some (is_const (word_of p)) (sym e))
star_false p false e = refl

pub first_token : (f : ℕ) (ps : Forest) → star_in ps ≡ None → name_token f ps ≡ f
first_token f none s = refl
first_token f (more p ps) s = ap (λ b. if b then suc (last_of p) else f) (star_false p (is_star p) s)

-- ---- the last part

record Last (asked : Asked) (p : Env) (names : Names) (r : Role) (n m : ℕ) (ps : Forest) (ms : Marks) : Type 0 where
  value : Syntax
  at : back ms ≡ Some (marked names value)
  is : IsExpressionOf true value ⊎ IsListOf true value
  stays : refusals r (marked names value) ≡ []
  no_point : NoPoint value
  sound : SoundTree asked p roles.Other (plain_of value)
  ordered : Ordered value
  from : n ≤ first_of value
  to : suc (last_of value) ≤ m

last_part : (asked : Asked) (env : Env) (r : Role) (ps : Forest) (p : Syntax) (names : Names) (all : Forest)
    (role : Role) (whole : Mark) (front : Bool) (b : Before) (n m : ℕ) → AreLengthsOf true (more p ps) →
    NoPoints (more p ps) → OrderedIn n (more p ps) m → ((x : Bool) (q : Mark) → role_of role whole x true q ≡ r) →
    refusals_in role whole front (marked_parts forms.DeclaratorNode all names front (more p ps)) ≡ [] →
    SoundParts asked env forms.DeclaratorNode b (plains_of (more p ps)) →
    Last asked env names r n m (more p ps) (marked_parts forms.DeclaratorNode all names front (more p ps))
unfolding marked_parts refusals_in plains_of
last_part asked env r none p names all role whole front b n m h np o g e so =
    let mp = marked names p in record {
      value = p;
      at = refl;
      is = h;
      stays = subst (λ z. refusals z mp ≡ []) (g front mp) (none_of (refusals (role_of role whole front true mp) mp) []
          e).0;
      no_point = np.0;
      sound = so.0;
      ordered = o.1;
      from = o.0;
      to = o.2;
    }
last_part asked env r (more q qs) p names all role whole front b n m h np o g e so =
    let mp = marked names p in
    let i : kinds.behind names p ≡ names = expression_names names p h.0 in
    let d = none_of (refusals (role_of role whole front false mp) mp) (refusals_in role whole false
    (marked_parts forms.DeclaratorNode all (kinds.behind names p) false (more q qs))) e in
    let e' = subst (λ z. refusals_in role whole false (marked_parts forms.DeclaratorNode all z false (more q qs)) ≡ [])
    i
    d.1 in
    let so' = subst (λ z. SoundParts asked z forms.DeclaratorNode (Some (last_of (plain_of p))) (plains_of (more q qs)))
    (declarator_holds.next (behind env (plain_of p)) (is_front b) (plain_of p) (kind_of env (plain_of p)) ∙
    neutral env (plain_of p) (plain_made p h.0)) so.1 in
    let x = last_part asked env r qs q names all role whole false (Some (last_of (plain_of p))) (suc (last_of p)) m h.1
    np.1 o.2 g e' so' in
    let le = ordered_le p o.1 in
    let c = o.0 in
    let from' = x.from in
    record {
      value = x.value;
      at = subst (λ z. back (marked_parts forms.DeclaratorNode all z false (more q qs)) ≡ Some (marked names x.value))
          (sym i) x.at;
      is = x.is;
      stays = x.stays;
      no_point = x.no_point;
      sound = x.sound;
      ordered = x.ordered;
      from = (omega arith);
      to = x.to;
    }

-- ---- what it is

initial_role_is : (a : Around) (v : Vector) (space : Option Space) (names : Names) (w : List ℕ) (f l : ℕ) (ps : Forest)
    →
    is_variable w ps ≡ true → is_set w ≡ true → (y : Bool) (q : Mark) →
    role_of (declaring a v space) (marked names (node forms.DeclaratorNode w f l ps)) y true q ≡ initial_at a
unfolding role_of marked
initial_role_is a v space names w f l ps va se y q =
    ap (λ z. if z then initial_role (declaring a v space) (is_variable w ps) else Free) se ∙
    ap (λ z. initial_role (declaring a v space) z) va

expression_no_list : (e : Syntax) → IsExpressionOf true e → is_list (form_of e) ≡ false
expression_no_list (node forms.ListNode w f l ps) h = absurd h
expression_no_list (node form w f l ps) h = refl

first_holds : (b d : Bool) → b && d ≡ true → b ≡ true
first_holds true d h = refl
first_holds false d h = absurd (false≢true h)

same_by : (v : Vector) (names : Names) (ms : Marks) (e : Syntax) → back ms ≡ Some (marked names e) →
    IsExpressionOf true e → set_wrongly around.Block (Some v) ms ≡ false →
    agrees (Vectors v Value) (kind_at (marked names e)) ≡ true
same_by v names ms e b h s =
    let y = subst (λ z. (not (is_list (form_or_unit z)) && not (agrees (Vectors v Value) (kind_or_other z))) ≡ false) b
    s in
    not_false (agrees (Vectors v Value) (kind_at (marked names e)))
    (and_false (not (is_list (form_of (tree_at (marked names e)))))
    (not (agrees (Vectors v Value) (kind_at (marked names e))))
    (ap (λ z. not (is_list (form_of z))) (tree_is names e) ∙ ap not (expression_no_list e h)) y)

-- a list is refused there
refused_list : (r : Role) → is_initial r ≡ true → (names : Names) (e : Syntax) →
    IsExpressionOf true e ⊎ IsListOf true e → refusals r (marked names e) ≡ [] → IsExpressionOf true e
unfolding marked misplaced
refused_list r i names e (inl h) s = h
refused_list r i names (node forms.ListNode w f l ps) (inr h) s =
    let t = node forms.ListNode w f l ps in
    absurd (false≢true (sym (node_none r t (kind_at (marked names t)) (marked_parts forms.ListNode ps names true ps)
    s).1 ∙
    i))
refused_list r i names e (inr h) s = absurd h

-- in the head of a `for` it is a vector
head_by : (v : Vector) (names : Names) (ms : Marks) (e : Syntax) → back ms ≡ Some (marked names e) →
    IsExpressionOf true e → set_wrongly around.Head (Some v) ms ≡ false → is_vector (kind_at (marked names e)) ≡ true
head_by v names ms e b h s =
    let k = kind_at (marked names e) in
    let y = subst (λ z. (not (is_list (form_or_unit z)) && not (is_vector (kind_or_other z) &&
    agrees (Vectors v Value) (kind_or_other z))) ≡ false) b s in
    first_holds (is_vector k) (agrees (Vectors v Value) k)
    (not_false (is_vector k && agrees (Vectors v Value) k)
    (and_false (not (is_list (form_of (tree_at (marked names e))))) (not (is_vector k && agrees (Vectors v Value) k))
    (ap (λ z. not (is_list (form_of z))) (tree_is names e) ∙ ap not (expression_no_list e h)) y))

-- a vector of that type that stands behind a variable's name
pub record InitialPart (asked : Asked) (p : Env) (v : Vector) (names : Names) (w : List ℕ) (f l : ℕ) (ps : Forest)
    (value : Syntax) : Type 0 where
  pub at : initialiser (marked names (node forms.DeclaratorNode w f l ps)) ≡ Some (marked names value)
  pub set' : is_set w ≡ true
  pub shape : IsExpressionOf true value
  pub no_point : NoPoint value
  pub stays : refusals Used (marked names value) ≡ []
  pub same : agrees (Vectors v Value) (kind_at (marked names value)) ≡ true
  pub sound : SoundTree asked p roles.Other (plain_of value)
  pub ordered : Ordered (node forms.DeclaratorNode w f l (more value none))

module _ (asked : Asked) (p : Env) (v : Vector) (space : Option Space) (names : Names) (w : List ℕ) (f l : ℕ) where
  abbrev NoInitial : Forest → Type 0
  NoInitial ps = (initialiser (marked names (node forms.DeclaratorNode w f l ps)) ≡ None) ×
      ((declarator_in w f (plains_of ps)).init ≡ None)

  no_parts : NoInitial none
  unfolding marked marked_parts plains_of
  no_parts = (by (is_set w), none_by (is_set w))
    where
      by : (b : Bool) → initialiser_by b None ≡ None
      by true = refl
      by false = refl

      none_by : (b : Bool) → (if b then last_one [] else None) ≡ None
      none_by true = refl
      none_by false = refl

  not_set : (ps : Forest) → is_set w ≡ false → NoInitial ps
  unfolding marked
  not_set ps e = (
    ap (λ b. initialiser_by b (back (marked_parts forms.DeclaratorNode ps names true ps))) e,
    ap (λ b. if b then last_one (listed (behind_star (plains_of ps))) else None) e,
  )

  the_last : (a : Around) (q : Syntax) (qs : Forest) → AreLengthsOf true (more q qs) → NoPoints (more q qs) →
      Ordered (node forms.DeclaratorNode w f l (more q qs)) → Stays a v space names w f l (more q qs) →
      is_variable w (more q qs) ≡ true → is_set w ≡ true →
      SoundParts asked p forms.DeclaratorNode None (plains_of (more q qs)) →
      Last asked p names (initial_at a) f (suc l) (more q qs)
      (marked_parts forms.DeclaratorNode (more q qs) names true (more q qs))
  the_last a q qs h np o st va se so =
      last_part asked p (initial_at a) qs q names (more q qs) (declaring a v space)
      (marked names (node forms.DeclaratorNode w f l (more q qs))) true None f (suc l) h np o
      (initial_role_is a v space names w f l (more q qs) va se) st.parts so

  initial_at_end : (ps : Forest) → is_set w ≡ true → (e : Syntax) →
      back (marked_parts forms.DeclaratorNode ps names true ps) ≡ Some (marked names e) →
      initialiser (marked names (node forms.DeclaratorNode w f l ps)) ≡ Some (marked names e)
  unfolding marked
  initial_at_end ps s e b =
      ap (λ z. initialiser_by z (back (marked_parts forms.DeclaratorNode ps names true ps))) s ∙ b

  -- in a block
  pub initial_cases : (ps : Forest) → IsDeclaratorOf true (node forms.DeclaratorNode w f l ps) → NoPoints ps →
      Ordered (node forms.DeclaratorNode w f l ps) → Stays around.Block v space names w f l ps →
      is_variable w ps ≡ true → star_in ps ≡ None → SoundParts asked p forms.DeclaratorNode None (plains_of ps) →
      NoInitial ps ⊎ ((e : Syntax) × InitialPart asked p v names w f l ps e)
  initial_cases none h np o st va ss so = inl no_parts
  initial_cases (more q qs) h np o st va ss so = by (is_set w) refl
    where
      by : (b : Bool) → is_set w ≡ b →
          NoInitial (more q qs) ⊎ ((e : Syntax) × InitialPart asked p v names w f l (more q qs) e)
      by false e = inl (not_set (more q qs) e)
      by true e =
          let ms = marked_parts forms.DeclaratorNode (more q qs) names true (more q qs) in
          let hl = starless_lengths w f l (more q qs) h ss in
          let x = the_last around.Block q qs hl np o st va e so in
          let is = refused_list Used refl names x.value x.is x.stays in
          let from' = x.from in
          let to' = x.to in
          inr (
            x.value,
            record {
              at = initial_at_end (more q qs) e x.value x.at;
              set' = e;
              shape = is;
              no_point = x.no_point;
              stays = x.stays;
              same = same_by v names ms x.value x.at is (st.right va e);
              sound = x.sound;
              ordered = (from', x.ordered, to');
            },
          )

  -- in the head of a `for`
  pub head_initial : (ps : Forest) → IsDeclaratorOf true (node forms.DeclaratorNode w f l ps) → NoPoints ps →
      Ordered (node forms.DeclaratorNode w f l ps) → Stays around.Head v space names w f l ps →
      is_variable w ps ≡ true → star_in ps ≡ None → SoundParts asked p forms.DeclaratorNode None (plains_of ps) →
      NoInitial ps
  head_initial none h np o st va ss so = no_parts
  head_initial (more q qs) h np o st va ss so = by (is_set w) refl
    where
      by : (b : Bool) → is_set w ≡ b → NoInitial (more q qs)
      by false e = not_set (more q qs) e
      by true e =
          let ms = marked_parts forms.DeclaratorNode (more q qs) names true (more q qs) in
          let hl = starless_lengths w f l (more q qs) h ss in
          let x = the_last around.Head q qs hl np o st va e so in
          let is = refused_list Barred refl names x.value x.is x.stays in
          let v' = head_by v names ms x.value x.at is (st.right va e) in
          absurd (false≢true (sym (kind_placed Barred x.value names is x.stays) ∙ v'))
