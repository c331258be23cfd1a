-- The initialiser of a declarator of vectors that is not refused: there is none, or it is a vector of that type.
use Rattle.std.proofs.Common.{◌≡◌, ℕ, nat_eq, List, [], Option, None, Some, Bool, true, false, not, ◌&&◌}
use Rattle.std.proofs.Common.{if◌then◌else◌, refl, ap, sym, ◌∙◌, subst, inl, inr, ◌⊎◌}
use Rattle.std.proofs.lemmas.Bool.{false≢true}
use Rattle.cl_model.specs.declared.program.Space.{Space}
use Rattle.cl_tree.specs.declared.tree.Form.TheVariants as forms
use Rattle.cl_tree.specs.Syntax.{Syntax, node, Forest, none, more}
use Rattle.cl_meaning.specs.Spelling.{dimensions_in, is_set}
use Rattle.cl_meaning.specs.Declarations.{form_of, word_of, parts_of, star_in}
use Rattle.cl_meaning.specs.Kinds.{is_some}
use Rattle.cl_check_sound.specs.Shape.{IsExpressionOf, IsListOf, AreLengthsOf, IsDeclaratorOf}
use Rattle.cl_short_vec.specs.declared.types.Vector.{Vector}
use Rattle.cl_short_vec.specs.declared.kinds.Reach.TheVariants.{Value}
use Rattle.cl_short_vec.specs.declared.kinds.Kind.TheVariants.{Vectors}
use Rattle.cl_short_vec.specs.declared.roles.Around.{Around}
use Rattle.cl_short_vec.specs.declared.roles.Around.TheVariants as around
use Rattle.cl_short_vec.specs.declared.roles.Role.{Role}
use Rattle.cl_short_vec.specs.declared.roles.Role.TheVariants.{Free, Used, Declared}
use Rattle.cl_short_vec.specs.Kinds.{Names, is_variable}
use Rattle.cl_short_vec.specs.Kinds as kinds
use Rattle.cl_short_vec.specs.Marks.{Mark, Marks, tree_at, kind_at, back, marked}
use Rattle.cl_short_vec.specs.Marks.{marked_parts}
use Rattle.cl_short_vec.specs.Roles.{role_of, initial_role, form_or_unit}
use Rattle.cl_short_vec.specs.Marks.{kind_or_other}
use Rattle.cl_short_vec.specs.Faults.{is_private_at, is_placed, agrees, is_list, set_wrongly, misplaced}
use Rattle.cl_short_vec.specs.Faults.{no_component, types_differ}
use Rattle.cl_short_vec.specs.Faults.{refusal_at, refusals, refusals_in}
use Rattle.cl_short_vec.specs.Unit.{initialiser_by, initialiser}
use Rattle.cl_short_vec_correct.specs.Sources.{Sourced}
use Rattle.cl_short_vec_correct.proofs.Forms.{not_nothing, nothing_front, nothing_behind, expression_names}
use Rattle.cl_short_vec_correct.proofs.Wholes.{least_nothing}
use Rattle.cl_short_vec_correct.proofs.Spoken.{both_hold}
use Rattle.cl_short_vec_correct.proofs.NamesSpelled.{HasWords, HaveWords, expression_sourced}

pub tree_is : (names : Names) (t : Syntax) → tree_at (marked names t) ≡ t
unfolding marked
tree_is names (node form w f l parts) = refl

-- a declaration of vectors
abbrev pub declaring : Around → Vector → Option Space → Role
declaring a v space = Declared (record { around = a; vector = Some v; space = space })

not_true : (b : Bool) → not b ≡ false → b ≡ true
not_true true h = refl
not_true false h = absurd (false≢true (sym h))

and_false : (a b : Bool) → a ≡ true → (a && b) ≡ false → b ≡ false
and_false true b e h = h
and_false false b e h = absurd (false≢true e)

-- a declarator with an initialiser declares a variable
placed_variable : (a : Around) (space : Option Space) (w : List ℕ) (ps : Forest) → is_placed a space w ps ≡ true →
    is_set w ≡ true → is_variable w ps ≡ true
placed_variable a space w ps h s =
    let x = both_hold (not (is_some (star_in ps))) _ h in by (nat_eq (dimensions_in w) 0) x.0 x.1
  where
    by : (b : Bool) → not (is_some (star_in ps)) ≡ true →
        (if b then is_private_at a space else nat_eq (dimensions_in w) 1 && not (is_set w)) ≡ true →
        (b && not (is_some (star_in ps))) ≡ true
    by true x y = x
    by false x y = absurd (false≢true (sym (ap not s) ∙ (both_hold (nat_eq (dimensions_in w) 1) (not (is_set w)) y).1))

-- what is not refused of a declarator
pub record Stays (a : Around) (v : Vector) (space : Option Space) (names : Names) (w : List ℕ) (f l : ℕ)
    (ps : Forest) : Type 0 where
  pub placed : is_placed a space w ps ≡ true
  pub right : is_variable w ps ≡ true → is_set w ≡ true →
      set_wrongly a (Some v) (marked_parts forms.DeclaratorNode ps names true ps) ≡ false
  pub parts : refusals_in (declaring a v space) (marked names (node forms.DeclaratorNode w f l ps)) true
      (marked_parts forms.DeclaratorNode ps names true ps) ≡ []

pub declarator_stays : (a : Around) (v : Vector) (space : Option Space) (names : Names) (w : List ℕ) (f l : ℕ)
    (ps : Forest) → refusals (declaring a v space) (marked names (node forms.DeclaratorNode w f l ps)) ≡ [] →
    Stays a v space names w f l ps
unfolding refusals marked misplaced types_differ
declarator_stays a v space names w f l ps r =
    let d = node forms.DeclaratorNode w f l ps in
    let role = declaring a v space in
    let m = marked names d in
    let ms = marked_parts forms.DeclaratorNode ps names true ps in
    let x = least_nothing f (misplaced role d (kind_at m)) (no_component role m) (types_differ role d (kind_at m) ms)
    (nothing_behind (refusals_in role m true ms) (refusal_at role m) r) in
    record {
      placed = not_true (is_placed a space w ps) x.0;
      right = λ va se. and_false (is_variable w ps && is_set w) (set_wrongly a (Some v) ms)
          (ap (λ z. z && is_set w) va ∙ se) x.2;
      parts = nothing_front (refusals_in role m true ms) (refusal_at role m) r;
    }

-- the last part, which is a value
record Last (names : Names) (ms : Marks) : Type 0 where
  value : Syntax
  at : back ms ≡ Some (marked names value)
  is : IsExpressionOf true value ⊎ IsListOf true value
  stays : refusals Used (marked names value) ≡ []
  words : HasWords value

last_part : (ps : Forest) (p : Syntax) (names : Names) (all : Forest) (role : Role) (m : Mark) (front : Bool) →
    AreLengthsOf true (more p ps) → HaveWords (more p ps) →
    ((x : Bool) (q : Mark) → role_of role m x true q ≡ Used) →
    refusals_in role m front (marked_parts forms.DeclaratorNode all names front (more p ps)) ≡ [] →
    Last names (marked_parts forms.DeclaratorNode all names front (more p ps))
unfolding marked_parts refusals_in
last_part none p names all role m front h so g r = record {
  value = p;
  at = refl;
  is = h;
  stays = subst (λ z. refusals z (marked names p) ≡ []) (g front (marked names p))
      (nothing_front (refusals (role_of role m front true (marked names p)) (marked names p)) [] r);
  words = so.0;
}
last_part (more q qs) p names all role m front h so g r =
    let e = expression_names names p h.0 in
    let x = last_part qs q (kinds.behind names p) all role m false h.1 so.1 g
    (nothing_behind (refusals (role_of role m front false
    (marked names p)) (marked names p)) _ r) in record {
      value = x.value;
      at = x.at ∙ ap (λ n. Some (marked n x.value)) e;
      is = x.is;
      stays = subst (λ n. refusals Used (marked n x.value) ≡ []) e x.stays;
      words = x.words;
    }

-- a list is refused there
no_list_value : (names : Names) (e : Syntax) → IsExpressionOf true e ⊎ IsListOf true e →
    refusals Used (marked names e) ≡ [] → IsExpressionOf true e
unfolding refusals marked misplaced
no_list_value names e (inl h) r = h
no_list_value names (node forms.ListNode w f l ps) (inr h) r =
    let m = marked names (node forms.ListNode w f l ps) in
    absurd (not_nothing _ [] (nothing_behind (refusals_in Used m true (marked_parts forms.ListNode ps names true ps))
    (refusal_at Used m) r))
no_list_value names e (inr h) r = absurd h

expression_no_list : (e : Syntax) → IsExpressionOf true e → is_list (form_of e) ≡ false
expression_no_list (node forms.ListNode w f l ps) h = absurd h
expression_no_list (node form w f l ps) h = refl

-- an initialiser
pub record Initial (v : Vector) (names : Names) (d e : Syntax) : Type 0 where
  pub at : initialiser (marked names d) ≡ Some (marked names e)
  pub variable : is_variable (word_of d) (parts_of d) ≡ true
  pub value : IsExpressionOf true e
  pub sourced : Sourced e
  pub same : agrees (Vectors v Value) (kind_at (marked names e)) ≡ true
  pub stays : refusals Used (marked names e) ≡ []

same_by : (v : Vector) (names : Names) (ms : Marks) (e : Syntax) → back ms ≡ Some (marked names e) →
    IsExpressionOf true e → set_wrongly around.Block (Some v) ms ≡ false →
    agrees (Vectors v Value) (kind_at (marked names e)) ≡ true
same_by v names ms e b h s =
    let y = subst (λ z. (not (is_list (form_or_unit z)) && not (agrees (Vectors v Value) (kind_or_other z))) ≡ false) b
    s in
    not_true (agrees (Vectors v Value) (kind_at (marked names e)))
    (and_false (not (is_list (form_of (tree_at (marked names e))))) _
    (ap (λ z. not (is_list (form_of z))) (tree_is names e) ∙ ap not (expression_no_list e h)) y)

-- behind a star is no variable
lengths_of : (w : List ℕ) (f l : ℕ) (p : Syntax) (ps : Forest) →
    IsDeclaratorOf true (node forms.DeclaratorNode w f l (more p ps)) → is_variable w (more p ps) ≡ true →
    AreLengthsOf true (more p ps)
lengths_of w f l (node forms.StarNode w' f' l' none) ps h v =
    absurd (false≢true (both_hold (nat_eq (dimensions_in w) 0) false v).1)
lengths_of w f l (node forms.StarNode w' f' l' (more q qs)) ps h v = h
lengths_of w f l (node form w' f' l' qs) ps h v = h

initial_role_is : (v : Vector) (space : Option Space) (names : Names) (w : List ℕ) (f l : ℕ) (ps : Forest) →
    is_variable w ps ≡ true → is_set w ≡ true → (y : Bool) (q : Mark) →
    role_of (declaring around.Block v space) (marked names (node forms.DeclaratorNode w f l ps)) y true q ≡ Used
unfolding role_of marked
initial_role_is v space names w f l ps va se y q =
    ap (λ z. if z then initial_role (declaring around.Block v space) (is_variable w ps) else Free) se ∙
    ap (λ z. initial_role (declaring around.Block v space) z) va

pub initial_cases : (v : Vector) (space : Option Space) (names : Names) (w : List ℕ) (f l : ℕ) (ps : Forest) →
    IsDeclaratorOf true (node forms.DeclaratorNode w f l ps) → HaveWords ps →
    Stays around.Block v space names w f l ps →
    (initialiser (marked names (node forms.DeclaratorNode w f l ps)) ≡ None) ⊎
    ((e : Syntax) × Initial v names (node forms.DeclaratorNode w f l ps) e)
unfolding marked marked_parts
initial_cases v space names w f l none h so s = inl (by (is_set w))
  where
    by : (b : Bool) → initialiser_by b None ≡ None
    by true = refl
    by false = refl
initial_cases v space names w f l (more p ps) h so s = by (is_set w) refl
  where
    d : Syntax
    d = node forms.DeclaratorNode w f l (more p ps)

    by : (b : Bool) → is_set w ≡ b → (initialiser (marked names d) ≡ None) ⊎ ((e : Syntax) × Initial v names d e)
    by false e =
        inl (ap (λ b. initialiser_by b (back (marked_parts forms.DeclaratorNode (more p ps) names true (more p ps)))) e)
    by true e =
        let ms = marked_parts forms.DeclaratorNode (more p ps) names true (more p ps) in
        let va = placed_variable around.Block space w (more p ps) s.placed e in
        let x = last_part ps p names (more p ps) (declaring around.Block v space) (marked names d) true
        (lengths_of w f l p ps h va) so (initial_role_is v space names w f l (more p ps) va e) s.parts in
        let is = no_list_value names x.value x.is x.stays in
        inr (
          x.value,
          record {
            at = ap (λ b. initialiser_by b (back ms)) e ∙ x.at;
            variable = va;
            value = is;
            sourced = expression_sourced x.value is x.words;
            same = same_by v names ms x.value x.at is (s.right va e);
            stays = x.stays;
          },
        )
