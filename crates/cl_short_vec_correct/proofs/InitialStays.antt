-- A declarator of a vector variable with its initialiser, in a block, of which nothing is refused: what it initialises
-- is a variable, and its initialiser is an expression of its type.
use Rattle.std.proofs.Common.{◌≡◌, ℕ, nat_eq, List, [], Option, Some, Bool, true, false, not, ◌&&◌}
use Rattle.std.proofs.Common.{if◌then◌else◌, refl, sym, ap, ◌∙◌, subst, inl, inr}
use Rattle.std.proofs.lemmas.Bool.{false≢true}
use Rattle.cl_model.specs.declared.program.Space.{Space}
use Rattle.cl_tree.specs.declared.tree.Form.TheVariants as forms
use Rattle.cl_tree.specs.Syntax.{Syntax, node, Forest, none, more}
use Rattle.cl_meaning.specs.Names.{dimensions_in, is_set}
use Rattle.cl_meaning.specs.Declarations.{form_of, star_in}
use Rattle.cl_meaning.specs.Kinds.{is_some}
use Rattle.cl_check_sound.specs.Shape.{IsExpressionOf, IsListOf, AreLengthsOf}
use Rattle.cl_short_vec.specs.declared.types.Vector.{Vector}
use Rattle.cl_short_vec.specs.declared.kinds.Reach.TheVariants.{Value}
use Rattle.cl_short_vec.specs.declared.kinds.Kind.{Kind}
use Rattle.cl_short_vec.specs.declared.kinds.Kind.TheVariants.{Vectors}
use Rattle.cl_short_vec.specs.declared.roles.Around.TheVariants as around
use Rattle.cl_short_vec.specs.declared.roles.Role.{Role}
use Rattle.cl_short_vec.specs.declared.roles.Role.TheVariants.{Free, Used, Declared}
use Rattle.cl_short_vec.specs.Kinds.{Names, is_variable}
use Rattle.cl_short_vec.specs.Kinds as kinds
use Rattle.cl_short_vec.specs.Marks.{Mark, mark, Marks, unmarked, marking, tree_at, kind_at, back, kind_by, marked}
use Rattle.cl_short_vec.specs.Marks.{marked_parts, kind_or_other}
use Rattle.cl_short_vec.specs.Roles.{role_of, form_or_unit}
use Rattle.cl_short_vec.specs.Faults.{misplaced, is_placed, is_private_at, types_differ, refusals, refusals_in}
use Rattle.cl_short_vec.specs.Faults.{is_list, agrees, set_wrongly}
use Rattle.cl_short_vec.specs.Unit.{initialiser, initialiser_by}
use Rattle.cl_short_vec_correct.proofs.Fits.{none_of, node_none, not_false}
use Rattle.cl_short_vec_correct.proofs.Forms.{expression_names}

-- of the last part nothing is refused, where it stands
back_none : (role : Role) (whole : Mark) (front : Bool) (ms : Marks) (m : Mark) → refusals_in role whole front ms ≡ [] →
    back ms ≡ Some m → (first : Bool) × (refusals (role_of role whole first true m) m ≡ [])
unfolding refusals_in
back_none role whole front unmarked m h e = absurd cc
back_none role whole front (marking p unmarked) m h e =
    let same : p ≡ m = cc in (
      front,
      subst (λ z. refusals (role_of role whole front true z) z ≡ []) same
          (none_of (refusals (role_of role whole front true p) p) (refusals_in role whole false unmarked) h).0,
    )
back_none role whole front (marking p (marking q qs)) m h e =
    back_none role whole false (marking q qs) m
    (none_of (refusals (role_of role whole front false p) p) (refusals_in role whole false (marking q qs)) h).1 e

-- an expression of which that is the mark
pub record IsMarkOf (names : Names) (m : Mark) : Type 0 where
  pub tree : Syntax
  pub expression : IsExpressionOf true tree
  pub is : marked names tree ≡ m

-- a list is the last part of a declarator, and every other part is an expression
no_list : (t : Syntax) (names : Names) → IsListOf true t → is_list (form_of (tree_at (marked names t))) ≡ false → ⊥
unfolding marked
no_list (node forms.ListNode w f l ps) names h e = false≢true (sym e)
no_list t names h e = h

back_tree : (all : Forest) (names : Names) (front : Bool) (ps : Forest) (m : Mark) → AreLengthsOf true ps →
    back (marked_parts forms.DeclaratorNode all names front ps) ≡ Some m → is_list (form_of (tree_at m)) ≡ false →
    IsMarkOf names m
unfolding marked_parts
back_tree all names front none m h e l = absurd cc
back_tree all names front (more p none) m (inl h) e l = record { tree = p; expression = h; is = cc }
back_tree all names front (more p none) m (inr h) e l =
    let same : marked names p ≡ m = cc in
    absurd (no_list p names h (subst (λ z. is_list (form_of (tree_at z)) ≡ false) (sym same) l))
back_tree all names front (more p (more q qs)) m h e l =
    subst (λ n. IsMarkOf n m) (expression_names names p h.0)
    (back_tree all (kinds.behind names p) false (more q qs) m h.1 e l)

-- a declarator with an initialiser and no fault of its own is one of a variable
variable_is : (star : Bool) (dims : ℕ) (private : Bool) →
    (not star && (if nat_eq dims 0 then private else nat_eq dims 1 && not true)) ≡ true →
    ((nat_eq dims 0 && not star) ≡ true) × (private ≡ true)
variable_is true dims private h = absurd (false≢true h)
variable_is false dims private h = by (nat_eq dims 0) (nat_eq dims 1) h
  where
    by : (b c : Bool) → (if b then private else c && not true) ≡ true → ((b && true) ≡ true) × (private ≡ true)
    by true c h = (refl, h)
    by false true h = absurd (false≢true h)
    by false false h = absurd (false≢true h)

-- an initialiser that may be a vector is no list
unlisted_where : (m : Mark) → refusals Used m ≡ [] → is_list (form_of (tree_at m)) ≡ false
unfolding misplaced
unlisted_where (mark (node forms.ListNode w f l ps) k ms) r =
    absurd (false≢true (sym (node_none Used (node forms.ListNode w f l ps) k ms r).1))
unlisted_where (mark (node form w f l ps) k ms) r = refl

-- what an initialiser of a vector variable is
pub record InitialStays (names : Names) (w : List ℕ) (ps : Forest) (v : Vector) (space : Option Space) (m : Mark) :
    Type 0 where
  pub variable : is_variable w ps ≡ true
  pub private : is_private_at around.Block space ≡ true
  pub value : IsMarkOf names m
  pub same : agrees (Vectors v Value) (kind_at m) ≡ true
  pub stays : refusals Used m ≡ []

pub initial_stays : (names : Names) (w : List ℕ) (f l : ℕ) (ps : Forest) (v : Vector) (space : Option Space)
    (m : Mark) → AreLengthsOf true ps → is_set w ≡ true →
    refusals (Declared (record { around = around.Block; vector = Some v; space = space }))
    (marked names (node forms.DeclaratorNode w f l ps)) ≡ [] →
    initialiser (marked names (node forms.DeclaratorNode w f l ps)) ≡ Some m → InitialStays names w ps v space m
unfolding marked misplaced types_differ role_of
initial_stays names w f l ps v space m h s r e = record {
  variable = variable.0;
  private = variable.1;
  value = back_tree ps names true ps m h last unlisted;
  same = not_false (agrees (Vectors v Value) (kind_at m))
      (subst (λ b. (not b && not (agrees (Vectors v Value) (kind_at m))) ≡ false) unlisted
      (subst (λ o. (not (is_list (form_or_unit o)) && not (agrees (Vectors v Value) (kind_or_other o))) ≡ false)
      last (subst (λ b. ((b && true) && set_wrongly around.Block (Some v) ms) ≡ false) variable.0
      (subst (λ b. ((is_variable w ps && b) && set_wrongly around.Block (Some v) ms) ≡ false) s shown.2))));
  stays = used;
}
  where
    ms : Marks
    ms = marked_parts forms.DeclaratorNode ps names true ps

    k : Kind
    k = kind_by names forms.DeclaratorNode w ms

    t : Syntax
    t = node forms.DeclaratorNode w f l ps

    role : Role
    role = Declared (record { around = around.Block; vector = Some v; space = space })

    shown : (refusals_in role (mark t k ms) true ms ≡ []) × (misplaced role t k ≡ false) ×
        (types_differ role t k ms ≡ false)
    shown = node_none role t k ms r

    last : back ms ≡ Some m
    last = ap (λ b. initialiser_by b (back ms)) (sym s) ∙ e

    variable : (is_variable w ps ≡ true) × (is_private_at around.Block space ≡ true)
    variable =
        let star = is_some (star_in ps) in
        let dims = dimensions_in w in
        let private = is_private_at around.Block space in
        variable_is star dims private (subst (λ b. (not star && (if nat_eq dims 0 then private else
        nat_eq dims 1 && not b)) ≡ true) s (not_false (is_placed around.Block space w ps) shown.1))

    used : refusals Used m ≡ []
    used =
        let b = back_none role (mark t k ms) true ms m shown.0 last in
        let same : role_of role (mark t k ms) b.0 true m ≡ Used =
        ap (λ z. if z then (if is_variable w ps && true then Used else Free) else Free) s ∙
        ap (λ z. if z && true then Used else Free) variable.0 in
        subst (λ z. refusals z m ≡ []) same b.1

    unlisted : is_list (form_of (tree_at m)) ≡ false
    unlisted = unlisted_where m used
