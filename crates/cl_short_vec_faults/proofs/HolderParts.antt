-- The parts of a declarator or of a list of initialisers: what stands for each is at fault at no node where its plain
-- form is not, and has the same kind and the same constants.
use Rattle.std.proofs.Common.{◌≡◌, ℕ, List, [], ◌∷◌, Option, None, Some, Bool, true, false, refl, ap, sym, ◌∙◌}
use Rattle.std.proofs.Common.{subst, ◌⊎◌, inl, inr}
use Rattle.std.proofs.lemmas.Bool.{false≢true}
use Rattle.cl_tree.specs.declared.tree.Form.{Form}
use Rattle.cl_tree.specs.declared.tree.Form.TheVariants as forms
use Rattle.cl_tree.specs.Syntax.{Syntax, node, Forest, none, more, last_of}
use Rattle.cl_meaning.specs.declared.fault.Fault.{Fault}
use Rattle.cl_meaning.specs.declared.fault.Fault.TheVariants as faults
use Rattle.cl_meaning.specs.Constants.{constant_of}
use Rattle.cl_meaning.specs.declared.kind.Kind.{Kind}
use Rattle.cl_meaning.specs.declared.kind.Role.{Role}
use Rattle.cl_meaning.specs.declared.kind.Role.TheVariants as roles
use Rattle.cl_meaning.specs.Environment.{Env}
use Rattle.cl_meaning.specs.Kinds.{list_kind, kind_step}
use Rattle.cl_meaning.specs.Declarations.{is_star, is_list, listed, parts_of}
use Rattle.cl_meaning.specs.Visible.{Before, is_front, role_of, inside, later, restored, left, closed, behind}
use Rattle.cl_meaning.specs.Visible.{behind_parts, kind_of, kinds_of}
use Rattle.cl_meaning.specs.Faults.{Asked, at_fault, looked_at, misfits}
use Rattle.cl_check_sound.specs.Shape.{is_expression, IsExpressionOf, AreExpressionsOf, IsListOf, AreLengthsOf}
use Rattle.cl_check_sound.specs.Shape.{OfExpressions}
use Rattle.cl_check_sound.specs.Sound.{SoundTree, SoundParts}
use Rattle.cl_check_sound.proofs.Neutral.{closed_same, neutral}
use Rattle.cl_short_vec.specs.declared.roles.Role.TheVariants.{Free}
use Rattle.cl_short_vec.specs.declared.kinds.Kind.TheVariants.{Other}
use Rattle.cl_short_vec.specs.Kinds as kinds
use Rattle.cl_short_vec.specs.Kinds.{Names}
use Rattle.cl_short_vec.specs.Marks.{kind_by, marked, marked_parts}
use Rattle.cl_short_vec.specs.Roles as placing
use Rattle.cl_short_vec.specs.Faults.{refusals}
use Rattle.cl_short_vec.specs.Scalar.{scalar, scalars}
use Rattle.cl_short_vec_faults.specs.PlainForm.{plain_of, plains_of}
use Rattle.cl_short_vec_faults.specs.Plainly.{NoPoint, NoPoints, Plainly}
use Rattle.cl_short_vec_faults.specs.Law.{ExpressionsFollow, Called}
use Rattle.cl_short_vec_faults.specs.SoundBut.{SoundBut, AllSoundBut}
use Rattle.cl_short_vec_faults.proofs.Refused.{AllStay, parts_stay, free_apart, free_no_vector, expression_names}
use Rattle.cl_short_vec_faults.proofs.PlainForms.{plain_made}
use Rattle.cl_short_vec_faults.proofs.ConstantsSame.{constants_same}
use Rattle.cl_short_vec_faults.proofs.ScalarMade.{scalar_made}

-- ---- trees without a fault

mutual
  pub sound_but : (asked : Asked) (env : Env) (role : Role) (t : Syntax) → SoundTree asked env role t →
      SoundBut asked env role t
  sound_but asked env role (node form w f l parts) s =
      (all_sound_but asked (inside env form w) form None parts s.0, ((λ k e. s.1.0 k), s.1.1))

  pub all_sound_but : (asked : Asked) (env : Env) (form : Form) (b : Before) (parts : Forest) →
      SoundParts asked env form b parts → AllSoundBut asked env form b parts
  all_sound_but asked env form b none s = tt
  all_sound_but asked env form b (more p ps) s = (
    sound_but asked env (role_of form b p) p s.0,
    all_sound_but asked (later (behind env p) form (is_front b) p (kind_of env p)) form (Some (last_of p)) ps s.1,
  )

-- ---- productions that hold such parts

-- what is visible goes on from part to part, and where a part stands does not matter
pub record Holds (form : Form) : Type 0 where
  pub next : (env : Env) (front : Bool) (p : Syntax) (k : Option Kind) → later env form front p k ≡ env
  pub place : (b : Before) (p : Syntax) → role_of form b p ≡ roles.Other

pub declarator_holds : Holds forms.DeclaratorNode
unfolding later
declarator_holds = record { next = λ env front p k. refl; place = λ b p. refl }

pub list_holds : Holds forms.ListNode
unfolding later
list_holds = record { next = λ env front p k. refl; place = λ b p. refl }

-- ---- parts

-- the constants of some trees
abbrev pub SameConstants : List Syntax → List Syntax → Type 0
SameConstants [] [] = Unit {0}
SameConstants (p ∷ ps) (s ∷ ss) = (constant_of s ≡ constant_of p) × SameConstants ps ss
SameConstants ps ss = ⊥

-- a part of the plain form, and what stands for it
pub record PartSame (asked : Asked) (plain form : Env) (p s : Syntax) : Type 0 where
  pub sound : SoundTree asked form roles.Other s
  pub kind : kind_of form s ≡ kind_of plain p
  pub plain' : behind plain p ≡ plain
  pub form' : behind form s ≡ form
  pub constant : constant_of s ≡ constant_of p
  pub no_star : (is_star p ≡ false) × (is_star s ≡ false)
  pub list : is_list (Some s) ≡ is_list (Some p)
  pub items : is_list (Some p) ≡ true → SameConstants (listed (parts_of p)) (listed (parts_of s))

abbrev pub Pairs : Asked → (plain form : Env) → Forest → Forest → Type 0
Pairs asked plain form none none = Unit {0}
Pairs asked plain form (more p ps) (more s ss) = PartSame asked plain form p s × Pairs asked plain form ps ss
Pairs asked plain form ps ss = ⊥

module _ (asked : Asked) (plain form : Env) (by : Form) (h : Holds by) where
  pub pairs_sound : (b : Before) (ps ss : Forest) → Pairs asked plain form ps ss → SoundParts asked form by b ss
  pairs_sound b none none x = tt
  pairs_sound b none (more s ss) x = absurd x
  pairs_sound b (more p ps) none x = absurd x
  pairs_sound b (more p ps) (more s ss) x = (
    subst (λ r. SoundTree asked form r s) (sym (h.place b s)) x.0.sound,
    subst (λ z. SoundParts asked z by (Some (last_of s)) ss)
        (sym (h.next (behind form s) (is_front b) s (kind_of form s) ∙ x.0.form'))
        (pairs_sound (Some (last_of s)) ps ss x.1),
  )

  pub pairs_kinds : (front front' : Bool) (ps ss : Forest) → Pairs asked plain form ps ss →
      kinds_of form by front ss ≡ kinds_of plain by front' ps
  unfolding kinds_of
  pairs_kinds front front' none none x = refl
  pairs_kinds front front' none (more s ss) x = absurd x
  pairs_kinds front front' (more p ps) none x = absurd x
  pairs_kinds front front' (more p ps) (more s ss) x =
      ap (λ z. z ∷ kinds_of (later (behind form s) by front s (kind_of form s)) by false ss) x.0.kind ∙
      (ap (λ z. kind_of plain p ∷ kinds_of z by false ss)
      (h.next (behind form s) front s (kind_of form s) ∙ x.0.form') ∙
      (ap (λ z. kind_of plain p ∷ z) (pairs_kinds false false ps ss x.1) ∙
      ap (λ z. kind_of plain p ∷ kinds_of z by false ps)
      (sym (h.next (behind plain p) front' p (kind_of plain p) ∙ x.0.plain'))))

  pub pairs_form : (front : Bool) (ps ss : Forest) → Pairs asked plain form ps ss →
      behind_parts form by front ss ≡ form
  unfolding behind_parts
  pairs_form front none none x = refl
  pairs_form front none (more s ss) x = absurd x
  pairs_form front (more p ps) none x = absurd x
  pairs_form front (more p ps) (more s ss) x =
      ap (λ z. behind_parts z by false ss) (h.next (behind form s) front s (kind_of form s) ∙ x.0.form') ∙
      pairs_form false ps ss x.1

  pub pairs_plain : (front : Bool) (ps ss : Forest) → Pairs asked plain form ps ss →
      behind_parts plain by front ps ≡ plain
  unfolding behind_parts
  pairs_plain front none none x = refl
  pairs_plain front none (more s ss) x = absurd x
  pairs_plain front (more p ps) none x = absurd x
  pairs_plain front (more p ps) (more s ss) x =
      ap (λ z. behind_parts z by false ps) (h.next (behind plain p) front p (kind_of plain p) ∙ x.0.plain') ∙
      pairs_plain false ps ss x.1

pub pairs_constants : (asked : Asked) (plain form : Env) (ps ss : Forest) → Pairs asked plain form ps ss →
    SameConstants (listed ps) (listed ss)
pairs_constants asked plain form none none x = tt
pairs_constants asked plain form none (more s ss) x = absurd x
pairs_constants asked plain form (more p ps) none x = absurd x
pairs_constants asked plain form (more p ps) (more s ss) x =
    (x.0.constant, pairs_constants asked plain form ps ss x.1)

-- ---- trees of expressions

expression_no_star : (form : Form) → is_expression form ≡ true → (w : List ℕ) (f l : ℕ) (ps : Forest) →
    (is_star (node form w f l ps) ≡ false) × (is_list (Some (node form w f l ps)) ≡ false)
expression_no_star forms.StarNode e w f l ps = absurd (false≢true e)
expression_no_star forms.ListNode e w f l ps = absurd (false≢true e)
expression_no_star _ e w f l ps = (refl, refl)

pub made_no_star : (t : Syntax) → OfExpressions t → (is_star t ≡ false) × (is_list (Some t) ≡ false)
made_no_star (node form w f l ps) h = expression_no_star form h.0 w f l ps

-- ---- lists

-- a list is at fault at its parts alone
pub list_sound : (asked : Asked) (env : Env) (w : List ℕ) (f l : ℕ) (ss : Forest) →
    SoundParts asked env forms.ListNode None ss → SoundTree asked env roles.Other (node forms.ListNode w f l ss)
unfolding inside misfits
list_sound asked env w f l ss s = (s, (by, tt))
  where
    by : (k : Fault) → at_fault asked (looked_at env roles.Other (node forms.ListNode w f l ss)) k ≡ false
    by faults.UnknownName = refl
    by _ = refl

pub list_behind : (env : Env) (w : List ℕ) (f l : ℕ) (ss : Forest) → behind_parts env forms.ListNode true ss ≡ env →
    behind env (node forms.ListNode w f l ss) ≡ env
unfolding behind left restored inside
list_behind env w f l ss e = ap (closed env) e ∙ closed_same env

list_kind_is : (env : Env) (w : List ℕ) (f l : ℕ) (ss : Forest) →
    kind_of env (node forms.ListNode w f l ss) ≡ list_kind (kinds_of env forms.ListNode true ss)
unfolding kind_of kind_step inside
list_kind_is env w f l ss = refl

pub list_constant : (w : List ℕ) (f l : ℕ) (ss : Forest) → constant_of (node forms.ListNode w f l ss) ≡ None
list_constant w f l none = refl
list_constant w f l (more a none) = refl
list_constant w f l (more a (more b none)) = refl
list_constant w f l (more a (more b (more c none))) = refl
list_constant w f l (more a (more b (more c (more d ss)))) = refl

-- what stands for a list, and for a declarator that declares no vectors
pub scalar_list : (names : Names) (w : List ℕ) (f l : ℕ) (ps : Forest) → scalar (marked names (node forms.ListNode w f l
    ps)) ≡ node forms.ListNode w f l (scalars (marked_parts forms.ListNode ps names true ps))
unfolding marked marked_parts scalar scalars
scalar_list names w f l none = refl
scalar_list names w f l (more a none) = refl
scalar_list names w f l (more a (more b none)) = refl
scalar_list names w f l (more a (more b (more c ps))) = refl

pub scalar_declarator : (names : Names) (w : List ℕ) (f l : ℕ) (ps : Forest) →
    scalar (marked names (node forms.DeclaratorNode w f l ps)) ≡
    node forms.DeclaratorNode w f l (scalars (marked_parts forms.DeclaratorNode ps names true ps))
unfolding marked marked_parts scalar scalars
scalar_declarator names w f l none = refl
scalar_declarator names w f l (more a none) = refl
scalar_declarator names w f l (more a (more b none)) = refl
scalar_declarator names w f l (more a (more b (more c ps))) = refl

-- ---- the walk

module _ (follow : ExpressionsFollow) (asked : Asked) (names : Names) (plain form : Env) (pl : Plainly names plain form)
    (gi : Called asked plain) where
  -- an expression at which no vector may stand
  pub part_expression : (t : Syntax) → IsExpressionOf true t → NoPoint t → refusals Free (marked names t) ≡ [] →
      SoundTree asked plain roles.Other (plain_of t) →
      PartSame asked plain form (plain_of t) (scalar (marked names t))
  part_expression t h np r so =
      let x = (follow asked names plain form Free roles.Other t h np pl gi r (free_apart t names h r) so).0 in
      let pm = plain_made t h in
      let sm = scalar_made names t h in
      let p = made_no_star (plain_of t) pm in
      let s = made_no_star (scalar (marked names t)) sm in
      record {
        sound = x.sound;
        kind = x.kind;
        plain' = neutral plain (plain_of t) pm;
        form' = neutral form (scalar (marked names t)) sm;
        constant = constants_same Free names t h r (free_no_vector t names h r);
        no_star = (p.0, s.0);
        list = s.1 ∙ sym p.1;
        items = λ e. absurd (false≢true (sym p.1 ∙ e));
      }

  -- the next parts, where names stand for the same
  module _ (by : Form) (hold : Holds by) (all : Forest)
      (stay : (ns : Names) (front : Bool) (p : Syntax) → kinds.later by all ns front p ≡ kinds.behind ns p) where
    expressions_next : (front : Bool) (p : Syntax) → IsExpressionOf true p → kinds.later by all names front p ≡ names
    expressions_next front p h = stay names front p ∙ expression_names names p h

    pub expression_pairs : (front : Bool) (b : Before) (ps : Forest) → AreExpressionsOf true ps → NoPoints ps →
        AllStay (marked_parts by all names front ps) → SoundParts asked plain by b (plains_of ps) →
        Pairs asked plain form (plains_of ps) (scalars (marked_parts by all names front ps))
    unfolding marked_parts plains_of scalars
    expression_pairs front b none h np r so = tt
    expression_pairs front b (more p ps) h np r so =
        let e = expressions_next front p h.0 in
        let x = part_expression p h.0 np.0 r.0
        (subst (λ z. SoundTree asked plain z (plain_of p)) (hold.place b (plain_of p)) so.0) in
        let so' = subst (λ z. SoundParts asked z by (Some (last_of (plain_of p))) (plains_of ps))
        (hold.next (behind plain (plain_of p)) (is_front b) (plain_of p) (kind_of plain (plain_of p)) ∙ x.plain') so.1
        in (
          x,
          subst (λ z. Pairs asked plain form (plains_of ps) (scalars (marked_parts by all z false ps))) (sym e)
              (expression_pairs false (Some (last_of (plain_of p))) ps h.1 np.1
              (subst (λ z. AllStay (marked_parts by all z false ps)) e r.1) so'),
        )

  -- a list of initialisers
  pub part_list : (t : Syntax) → IsListOf true t → NoPoint t → refusals Free (marked names t) ≡ [] →
      SoundTree asked plain roles.Other (plain_of t) →
      PartSame asked plain form (plain_of t) (scalar (marked names t))
  unfolding plain_of marked kind_by placing.role_of inside
  part_list (node forms.ListNode w f l ps) h np r so =
      let ms = marked_parts forms.ListNode ps names true ps in
      let q = parts_stay Free (node forms.ListNode w f l ps) (Other true) ms (λ x y p. refl) r in
      let x = expression_pairs forms.ListNode list_holds ps (λ ns front p. refl) true None ps h np.1 q so.0 in
      let P = plains_of ps in
      let S = scalars ms in
      subst (PartSame asked plain form (node forms.ListNode w f l P)) (sym (scalar_list names w f l ps)) (record {
        sound = list_sound asked form w f l S (pairs_sound asked plain form forms.ListNode list_holds None P S x);
        kind = list_kind_is form w f l S ∙
            (ap list_kind (pairs_kinds asked plain form forms.ListNode list_holds true true P S x) ∙
            sym (list_kind_is plain w f l P));
        plain' = list_behind plain w f l P (pairs_plain asked plain form forms.ListNode list_holds true P S x);
        form' = list_behind form w f l S (pairs_form asked plain form forms.ListNode list_holds true P S x);
        constant = list_constant w f l S ∙ sym (list_constant w f l P);
        no_star = (refl, refl);
        list = refl;
        items = λ e. pairs_constants asked plain form P S x;
      })
  part_list t h np r so = absurd h

  pub part_either : (t : Syntax) → IsExpressionOf true t ⊎ IsListOf true t → NoPoint t →
      refusals Free (marked names t) ≡ [] → SoundTree asked plain roles.Other (plain_of t) →
      PartSame asked plain form (plain_of t) (scalar (marked names t))
  part_either t (inl h) np r so = part_expression t h np r so
  part_either t (inr h) np r so = part_list t h np r so

  -- lengths, and an initialiser or none
  pub length_pairs : (all : Forest) (front : Bool) (b : Before) (ps : Forest) → AreLengthsOf true ps → NoPoints ps →
      AllStay (marked_parts forms.DeclaratorNode all names front ps) →
      SoundParts asked plain forms.DeclaratorNode b (plains_of ps) →
      Pairs asked plain form (plains_of ps) (scalars (marked_parts forms.DeclaratorNode all names front ps))
  unfolding marked_parts plains_of scalars
  length_pairs all front b none h np r so = tt
  length_pairs all front b (more p none) h np r so = (part_either p h np.0 r.0 so.0, tt)
  length_pairs all front b (more p (more q qs)) h np r so =
      let e : kinds.behind names p ≡ names = expression_names names p h.0 in
      let x = part_expression p h.0 np.0 r.0 so.0 in
      let ps = more q qs in
      let so' = subst (λ z. SoundParts asked z forms.DeclaratorNode (Some (last_of (plain_of p))) (plains_of ps))
      (declarator_holds.next (behind plain (plain_of p)) (is_front b) (plain_of p) (kind_of plain (plain_of p)) ∙
      x.plain') so.1 in (
        x,
        subst (λ z. Pairs asked plain form (plains_of ps)
            (scalars (marked_parts forms.DeclaratorNode all z false ps))) (sym e)
            (length_pairs all false (Some (last_of (plain_of p))) (more q qs) h.1 np.1
            (subst (λ z. AllStay (marked_parts forms.DeclaratorNode all z false ps)) e r.1) so'),
      )
