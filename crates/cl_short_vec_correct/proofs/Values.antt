-- What an assignment to a vector and an initialiser set is worth what they say, where nothing is refused of them and
-- the calls in it are seen.
use Rattle.std.proofs.Common.{◌≡◌, ℕ, zero, suc, ◌+◌, ◌<◌, nat_eq, List, [], length, Option, None, Some}
use Rattle.std.proofs.Common.{Bool, true, false, if◌then◌else◌, refl, ap, ◌∙◌, subst}
use Rattle.std.proofs.lemmas.Bool.{false≢true}
use Rattle.std.proofs.lemmas.List.{length-map}
use Rattle.std.specs.Prelude.{slice_index}
use lib.Pointwise.{pointwise}
use Rattle.wg_num.specs.declared.types.IntType.{IntType}
use Rattle.wg_num.specs.declared.types.Bin.{Bin}
use Rattle.wg_num.specs.Wrap.{is_bool}
use Rattle.cl_tree.specs.declared.tree.Form.TheVariants as forms
use Rattle.cl_tree.specs.Syntax.{Syntax, node, none, more}
use Rattle.cl_meaning.specs.Conversions.{is_comparison}
use Rattle.cl_meaning.specs.Operators.{postfix_in, settings, setting_in}
use Rattle.cl_meaning.specs.declared.operators.Postfix.{Postfix}
use Rattle.cl_meaning.specs.declared.operators.Setting.{Setting}
use Rattle.cl_meaning.specs.declared.operators.Setting.TheVariants as setting
use Rattle.cl_meaning.specs.Environment.{Env}
use Rattle.cl_meaning.specs.Kinds.{is_some}
use Rattle.cl_check_sound.specs.Shape.{IsExpressionOf}
use Rattle.cl_short_vec.specs.declared.types.Vector.{Vector}
use Rattle.cl_short_vec.specs.declared.kinds.Reach.{Reach}
use Rattle.cl_short_vec.specs.declared.kinds.Reach.TheVariants.{Value}
use Rattle.cl_short_vec.specs.declared.kinds.Kind.{Kind}
use Rattle.cl_short_vec.specs.declared.kinds.Kind.TheVariants.{Vectors, Pointer, Other}
use Rattle.cl_short_vec.specs.declared.roles.Role.TheVariants.{Used}
use Rattle.cl_short_vec.specs.Types.{vector, numbers, selected, selection_in, picked}
use Rattle.cl_short_vec.specs.Kinds.{Names, within, is_vector, several, selection_of, postfix_kind}
use Rattle.cl_short_vec.specs.Marks.{Mark, mark, Marks, unmarked, kind_at, kind_by, marked, marked_parts}
use Rattle.cl_short_vec.specs.Faults.{all_of, chosen, picked_by, components_of, agrees, right_fits}
use Rattle.cl_short_vec.specs.Faults.{refusals}
use Rattle.cl_short_vec.specs.Order.{type_in, count_in, under, operator_in, old_steps, steps_of}
use Rattle.cl_short_vec.specs.Parts.{assigned_part}
use Rattle.cl_short_vec.specs.Unit.{assigned_of}
use Rattle.cl_short_vec.proofs.Rows.{found}
use Rattle.cl_short_vec_correct.specs.Emits.{Known}
use Rattle.cl_short_vec_correct.specs.Values.{Leaves}
use Rattle.cl_short_vec_correct.proofs.Worths.{set_worth}
use Rattle.cl_short_vec_correct.specs.Each.{initial_of}
use Rattle.cl_short_vec_correct.proofs.Whole.{WholeKind, WholeNames, mark_whole, marked_whole}
use Rattle.cl_short_vec_correct.proofs.Trees.{Typed}
use Rattle.cl_short_vec_correct.proofs.Seen.{Seen}
use Rattle.cl_short_vec_correct.proofs.Fitting.{IsOperand, Fitting}
use Rattle.cl_short_vec_correct.proofs.Components.{All}
use Rattle.cl_short_vec_correct.proofs.Fits.{Suits, same_parts, FitsAlone, operand_fits}
use Rattle.cl_short_vec_correct.proofs.FittingTrees.{suits_same, good}
use Rattle.cl_short_vec_correct.proofs.Assigned.{OperatorFits, assigned_typed, setting_typed}

-- ---- the components of a target

numbers_many : (first by n : ℕ) → length (numbers first by n) ≡ n
numbers_many first by zero = refl
numbers_many first by (suc n) = ap suc (numbers_many (first + by) by n)

all_many : (k : Kind) → is_vector k ≡ true → length (all_of k) ≡ count_in k
all_many (Vectors v r) h = numbers_many 0 1 v.count
all_many (Pointer s c v) h = absurd (false≢true h)
all_many (Other b) h = absurd (false≢true h)

several_many : (v : Vector) (r : Reach) (o : Option (List ℕ)) (ks : List ℕ) → is_vector (several v r o) ≡ true →
    length (chosen o ks) ≡ count_in (several v r o)
several_many v r None ks h = absurd (false≢true h)
several_many v r (Some js) ks h = by (nat_eq (length js) 1) h
  where
    by : (b : Bool) → is_vector (if b then (Other true) else Vectors (vector v.of (length js)) r) ≡ true →
        length (picked ks js) ≡ count_in (if b then (Other true) else Vectors (vector v.of (length js)) r)
    by true g = absurd (false≢true g)
    by false g = length-map js (λ j. slice_index ks j)

selected_many : (s : Option (List ℕ)) (o : Option Postfix) (j : Kind) (ks : List ℕ) →
    is_vector (postfix_kind s o j) ≡ true →
    length (picked_by s (postfix_kind s o j) j ks) ≡ count_in (postfix_kind s o j)
selected_many None o j ks h = all_many (postfix_kind None o j) h
selected_many (Some name) o (Vectors v r) ks h = several_many v r (selected v.count name) ks h
selected_many (Some name) o (Pointer s c v) ks h = absurd (false≢true h)
selected_many (Some name) o (Other b) ks h = absurd (false≢true h)

-- a target that is a vector stands for as many components as it has
components_many : (t : Syntax) (names : Names) → is_vector (kind_at (marked names t)) ≡ true →
    length (components_of (marked names t)) ≡ count_in (kind_at (marked names t))
unfolding marked marked_parts kind_by components_of
components_many (node form w f l none) names h = all_many (kind_by names form w unmarked) h
components_many (node forms.ParenNode w f l (more p ps)) names h = components_many p names h
components_many (node forms.PostfixNode w f l (more p ps)) names h =
    selected_many (selection_in w) (postfix_in w) (kind_at (marked names p)) (components_of (marked names p)) h
components_many (node form w f l (more p ps)) names h =
    all_many (kind_by names form w (marked_parts form (more p ps) (within form w names) true (more p ps))) h

-- ---- the type of a target

selection_type : (k : Kind) (name : List ℕ) → is_vector (selection_of k name) ≡ true →
    (is_vector k ≡ true) × (type_in k ≡ type_in (selection_of k name))
selection_type (Pointer s c v) name h = absurd (false≢true h)
selection_type (Other y) name h = absurd (false≢true h)
selection_type (Vectors v r) name h = (refl, by (selected v.count name) h)
  where
    one : (b : Bool) (n : ℕ) → is_vector (if b then (Other true) else Vectors (vector v.of n) r) ≡ true →
        v.of ≡ type_in (if b then (Other true) else Vectors (vector v.of n) r)
    one true n g = absurd (false≢true g)
    one false n g = refl

    by : (o : Option (List ℕ)) → is_vector (several v r o) ≡ true → v.of ≡ type_in (several v r o)
    by None g = absurd (false≢true g)
    by (Some ks) g = one (nat_eq (length ks) 1) (length ks) g

through_type : (s : Option (List ℕ)) (o : Option Postfix) (m : Mark) (t : Syntax) (ms : Marks) →
    (is_vector (kind_at m) ≡ true → type_in (kind_at (under m)) ≡ type_in (kind_at m)) →
    is_vector (postfix_kind s o (kind_at m)) ≡ true →
    type_in (kind_at (if is_some s then under m else mark t (postfix_kind s o (kind_at m)) ms)) ≡
    type_in (postfix_kind s o (kind_at m))
through_type None o m t ms g h = refl
through_type (Some name) o m t ms g h = let q = selection_type (kind_at m) name h in g q.0 ∙ q.1

-- a target that is a vector is of the type of the variable or element of which it selects
under_type : (t : Syntax) (names : Names) → is_vector (kind_at (marked names t)) ≡ true →
    type_in (kind_at (under (marked names t))) ≡ type_in (kind_at (marked names t))
unfolding marked marked_parts kind_by under
under_type (node form w f l none) names h = refl
under_type (node forms.ParenNode w f l (more p ps)) names h = under_type p names h
under_type (node forms.PostfixNode w f l (more p ps)) names h =
    through_type (selection_in w) (postfix_in w) (marked names p) (node forms.PostfixNode w f l (more p ps))
    (marked_parts forms.PostfixNode (more p ps) names true (more p ps)) (λ g. under_type p names g) h
under_type (node form w f l (more p ps)) names h = refl

-- ---- the operator and the right side

abbrev NoComparison : Option Bin → Type 0
NoComparison None = Unit {0}
NoComparison (Some op) = is_comparison op ≡ false

setting_operator : (w : List ℕ) → NoComparison (operator_in (setting_in w))
unfolding setting_in
setting_operator w = found (λ (o : Option Setting). NoComparison (operator_in o)) (pointwise nat_eq w) settings tt
    (tt, (refl, (refl, (refl, (refl, (refl, (refl, (refl, (refl, (refl, (refl, tt)))))))))))

operator_fits : (o : Option Bin) (of : IntType) → NoComparison o → is_bool of ≡ false → OperatorFits o of
operator_fits None of h g = tt
operator_fits (Some op) of h g = (h, g)

right_suits : (s : Option Setting) (v : Vector) (r : Reach) (k : Kind) → right_fits s (Vectors v r) k ≡ true → Suits v k
right_suits (Some (setting.With op)) v r (Vectors u q) h = same_parts v u h
right_suits (Some (setting.With op)) v r (Pointer s c u) h = tt
right_suits (Some (setting.With op)) v r (Other b) h = tt
right_suits s v r k h = suits_same v r k h

-- an operand that fits so many components of a type
abbrev IsOf : IntType → ℕ → Mark → Type 0
IsOf of n m = IsOperand (Fitting false of m) false of (λ c. c) n m

right_is : (s : Option Setting) (k : Kind) (m : Mark) → is_vector k ≡ true → right_fits s k (kind_at m) ≡ true →
    FitsAlone m → IsOf (type_in k) (count_in k) m
right_is s (Vectors v r) m h g f = operand_fits m v (right_suits s v r (kind_at m) g) f
right_is s (Pointer p c v) m h g f = absurd (false≢true h)
right_is s (Other b) m h g f = absurd (false≢true h)

whole_type : (k : Kind) → is_vector k ≡ true → WholeKind k → is_bool (type_in k) ≡ false
whole_type (Vectors v r) h i = i
whole_type (Pointer s c v) h i = absurd (false≢true h)
whole_type (Other b) h i = absurd (false≢true h)

-- ---- what is set

module _ (env : Env) (known : List Known) (leaves : Leaves) (no_flags : env.flags ≡ false) where
  -- By an assignment with these own words to a vector, where names stand for these in its target, and for those in its
  -- value: each value is of the target's type, and worth what the assignment says.
  pub setting_worth : (names after : Names) (w : List ℕ) (ta tb : Syntax) (j : ℕ) → WholeNames names →
      WholeNames after → IsExpressionOf true tb → is_vector (kind_at (marked names ta)) ≡ true →
      right_fits (setting_in w) (kind_at (marked names ta)) (kind_at (marked after tb)) ≡ true →
      refusals Used (marked after tb) ≡ [] →
      All env known leaves no_flags (old_steps (operator_in (setting_in w)) (under (marked names ta))
      (components_of (marked names ta))) →
      All env known leaves no_flags (steps_of (type_in (kind_at (marked names ta))) (marked after tb)) →
      j < length (components_of (marked names ta)) →
      Seen env (assigned_part (assigned_of (operator_in (setting_in w)) (marked names ta) (marked after tb)) j) →
      Typed env known (assigned_part (assigned_of (operator_in (setting_in w)) (marked names ta) (marked after tb)) j)
      (type_in (kind_at (marked names ta)))
      (set_worth (assigned_of (operator_in (setting_in w)) (marked names ta) (marked after tb)) leaves j)
  setting_worth names after w ta tb j n i e h g r old ready l q =
      let a = marked names ta in
      let b = marked after tb in
      let o = operator_in (setting_in w) in
      let x = right_is (setting_in w) (kind_at a) b h g (good tb after e i (Used, r)).operand in
      setting_typed env known leaves no_flags o a b j (record {
        fits = x.0;
        typed = x.1;
        operator = operator_fits o (type_in (kind_at a)) (setting_operator w)
            (whole_type (kind_at a) h (mark_whole a (marked_whole ta names n)));
      }) (under_type ta names h) old ready l (x.2 j (subst (λ z. j < z) (components_many ta names h) l)) q

  -- by an initialiser of a vector variable
  pub initial_worth : (names : Names) (v : Vector) (d : Mark) (te : Syntax) (j : ℕ) → WholeNames names →
      IsExpressionOf true te → agrees (Vectors v Value) (kind_at (marked names te)) ≡ true →
      refusals Used (marked names te) ≡ [] →
      All env known leaves no_flags (steps_of v.of (marked names te)) → j < v.count →
      Seen env (assigned_part (initial_of v d (marked names te)) j) →
      Typed env known (assigned_part (initial_of v d (marked names te)) j) v.of
      (set_worth (initial_of v d (marked names te)) leaves j)
  initial_worth names v d te j n e g r ready l q =
      let m = marked names te in
      let x = operand_fits m v (suits_same v Value (kind_at m) g) (good te names e n (Used, r)).operand in
      assigned_typed env known leaves no_flags (initial_of v d m) j (record {
        fits = x.0;
        typed = x.1;
        operator = tt;
      }) ready tt (x.2 j l) q
