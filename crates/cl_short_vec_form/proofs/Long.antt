-- The array that stands for an array of vectors has so many times as many elements as a vector has components.
use Rattle.std.proofs.Common.{◌≡◌, ℕ, ◌*◌, ◌≤◌, nat_eq, nat_le, List, [], ◌∷◌, length, Option, Some, None, Bool, true}
use Rattle.std.proofs.Common.{false, ◌&&◌, if◌then◌else◌, refl, sym, ap, ◌∙◌, subst, arith, inl, inr, ◌⊎◌}
use Rattle.std.proofs.Math.Nat.{one-le-mul}
use Rattle.std.proofs.lemmas.Bool.Decides.{nat_tests}
use Rattle.cl_tree.specs.declared.tree.Form.{Form}
use Rattle.cl_tree.specs.declared.tree.Form.TheVariants as forms
use Rattle.cl_tree.specs.Syntax.{Syntax, node, Forest, none, more}
use Rattle.cl_meaning.specs.Spelling.{name_in, dimensions_in, is_set}
use Rattle.cl_meaning.specs.declared.constant.Constant.{Constant}
use Rattle.cl_meaning.specs.Constants.{constant_of}
use Rattle.cl_meaning.specs.Declarations.{form_of, is_star, star_in, behind_star, listed, but_last, last_one}
use Rattle.cl_meaning.specs.Declarations.{name_token, declarator_in, natural, is_length, length_of_constant, length_in}
use Rattle.cl_meaning.specs.Declarations.{with_length, lengths_in, allowed, dims_of}
use Rattle.cl_check_sound.specs.Shape.{IsExpressionOf, IsListOf, AreLengthsOf, IsDeclaratorOf}
use Rattle.cl_short_vec.specs.declared.types.Vector.{Vector}
use Rattle.cl_short_vec.specs.Kinds.{Names, later}
use Rattle.cl_short_vec.specs.Marks.{tree_at, marked, marked_parts}
use Rattle.cl_short_vec.specs.Scalar.{scalar, scalars}
use Rattle.cl_short_vec.specs.Unit.{length_at, is_length_form, length_or_part, lengths_at}
use Rattle.cl_short_vec_form.specs.Stored.{multiplied, elements_by}
use Rattle.cl_short_vec_form.specs.Law.{FormsLong}
use Rattle.cl_short_vec_form.proofs.Counts.{IsCount, vector_counts}
use Rattle.cl_short_vec_form.proofs.Lengths.{times, length_times}
use Rattle.cl_short_vec_form.proofs.Neat.{expression_form}
use Rattle.cl_short_vec_form.proofs.Roots.{tree_is, may_measure, list_root, front_value, no_star_in, no_star_at}

-- ---- the elements of an array of one dimension

-- it is a length, if there is one
abbrev Fits : Option ℕ → Type 0
Fits None = Unit {0}
Fits (Some n) = is_length n ≡ true

tested : (n : ℕ) (b : Bool) → is_length n ≡ b → Fits (if b then Some n else None)
tested n true e = e
tested n false e = tt

length_fits : (t : Syntax) → Fits (length_in t)
length_fits t = by (constant_of t)
  where
    by : (o : Option Constant) → Fits (length_of_constant o)
    by None = tt
    by (Some c) = tested (natural c.value) (is_length (natural c.value)) refl

times_fits : (k : ℕ) (o : Option ℕ) → Fits (times k o)
times_fits k None = tt
times_fits k (Some n) = tested (n * k) (is_length (n * k)) refl

-- as many as the length says
one_element : (o : Option ℕ) → Fits o → elements_by (allowed (with_length o (Some []))) ≡ o
one_element None h = refl
one_element (Some n) h =
    let few : nat_le 1 3 && nat_le (n * 1) 1048576 ≡ true = grind (arith, nat_tests) in
    let same : n * 1 ≡ n = omega arith in
    ap (λ b. elements_by (if b then Some (n ∷ []) else None)) few ∙ ap Some same

-- so many times a length, where it is one, is as many as an array can have
times_multiplied : (k : ℕ) (o : Option ℕ) → 1 ≤ k → Fits o → times k o ≡ multiplied k o
times_multiplied k None h f = refl
times_multiplied k (Some n) h f =
    let some : 1 ≤ n = grind (arith, nat_tests) in
    let more : 1 ≤ n * k = one-le-mul some h in
    let same : is_length (n * k) ≡ nat_le (n * k) 1048576 = grind (arith, nat_tests) in
    ap (λ b. if b then Some (n * k) else None) same

single : (k : ℕ) (o : Option ℕ) → 1 ≤ k → Fits o → elements_by (allowed (with_length (times k o) (Some []))) ≡
    multiplied k (elements_by (allowed (with_length o (Some []))))
single k o h f =
    one_element (times k o) (times_fits k o) ∙
    (times_multiplied k o h f ∙ ap (multiplied k) (sym (one_element o f)))

-- ---- the lengths of a declarator

-- the lengths in the brackets, where they are one
abbrev one_length : List Syntax → Option (List ℕ)
one_length ts = if nat_eq (length ts) 1 then allowed (lengths_in ts) else None

-- those of a declarator of one dimension without an initialiser
measured : (w : List ℕ) (f : ℕ) (ps : Forest) → dimensions_in w ≡ 1 → is_set w ≡ false →
    dims_of (declarator_in w f ps) ≡ one_length (listed (behind_star ps))
measured w f ps d s =
    let ts = listed (behind_star ps) in
    ap (λ n. dims_of (record {
      name = name_in w;
      token = name_token f ps;
      star = star_in ps;
      dimensions = n;
      lengths = if is_set w then but_last ts else ts;
      init = if is_set w then last_one ts else None;
    })) d ∙
    ap (λ b. dims_of (record {
      name = name_in w;
      token = name_token f ps;
      star = star_in ps;
      dimensions = 1;
      lengths = if b then but_last ts else ts;
      init = if b then last_one ts else None;
    })) s

-- no array of one dimension has more lengths than one
several : (s t : Syntax) (ts : List Syntax) → one_length (s ∷ (t ∷ ts)) ≡ None
several s t ts =
    let other : nat_eq (length (s ∷ (t ∷ ts))) 1 ≡ false = grind (arith, nat_tests) in
    ap (λ b. if b then allowed (lengths_in (s ∷ (t ∷ ts))) else None) other

-- where no star is in front, all parts are behind it
all_behind : (x : Syntax) (xs : Forest) → is_star x ≡ false → behind_star (more x xs) ≡ more x xs
all_behind x xs e = ap (λ b. if b then xs else more x xs) e

-- a list is no length
list_constant : (form : Form) (w : List ℕ) (f l : ℕ) (ps : Forest) → form ≡ forms.ListNode →
    constant_of (node form w f l ps) ≡ None
list_constant form w f l ps e = subst (λ z. constant_of (node z w f l ps) ≡ None) (sym e) (by ps)
  where
    by : (ps : Forest) → constant_of (node forms.ListNode w f l ps) ≡ None
    by none = refl
    by (more a none) = refl
    by (more a (more b none)) = refl
    by (more a (more b (more c none))) = refl
    by (more a (more b (more c (more d ds)))) = refl

list_length : (t : Syntax) → form_of t ≡ forms.ListNode → length_in t ≡ None
list_length (node form w f l ps) e = ap length_of_constant (list_constant form w f l ps e)

-- ---- what stands for them

-- how many elements an array of these lengths has
abbrev elements_in : Forest → Option ℕ
elements_in ps = elements_by (one_length (listed ps))

module _ (v : Vector) (count : IsCount v.count) where
  -- of one length, or of a list, which is none
  one_value : (t : Syntax) (names : Names) → IsExpressionOf true t ⊎ IsListOf true t →
      elements_in (more (length_or_part v (marked names t)) none) ≡
      multiplied v.count (elements_in (more (scalar (marked names t)) none))
  unfolding marked
  one_value t names (inl h) =
      let m = marked names t in
      let long : is_length_form (form_of (tree_at m)) ≡ true =
      ap (λ z. is_length_form (form_of z)) (tree_is names t) ∙ may_measure t (expression_form t h) in
      ap (λ b. elements_in (more (if b then length_at v (scalar m) else scalar m) none)) long ∙
      (ap (λ o. elements_by (allowed (with_length o (Some [])))) (length_times v (scalar m) count) ∙
      single v.count (length_in (scalar m)) count.some (length_fits (scalar m)))
  one_value (node forms.ListNode w f l ps) names (inr h) =
      let t = node forms.ListNode w f l ps in
      let no = list_length (scalar (marked names t)) (list_root w f l ps names) in
      ap (λ o. elements_by (allowed (with_length o (Some [])))) no ∙
      ap (λ o. multiplied v.count (elements_by (allowed (with_length o (Some []))))) (sym no)
  one_value t names (inr h) = absurd h

  -- of any number of lengths
  values : (form : Form) (all : Forest) (names : Names) (front : Bool) (ps : Forest) → AreLengthsOf true ps →
      elements_in (lengths_at v (marked_parts form all names front ps)) ≡
      multiplied v.count (elements_in (scalars (marked_parts form all names front ps)))
  unfolding marked_parts scalars
  values form all names front none h = refl
  values form all names front (more p none) h = one_value p names h
  values form all names front (more p (more q qs)) h =
      let n = later form all names front p in
      let others = marked_parts form all (later form all n false q) false qs in
      ap elements_by (several (length_or_part v (marked names p)) (length_or_part v (marked n q))
      (listed (lengths_at v others))) ∙
      ap (λ z. multiplied v.count (elements_by z)) (sym (several (scalar (marked names p)) (scalar (marked n q))
      (listed (scalars others))))

  -- of the lengths behind a star, if there is one
  behind_stars : (w : List ℕ) (f l : ℕ) (all : Forest) (names : Names) (ps : Forest) →
      IsDeclaratorOf true (node forms.DeclaratorNode w f l ps) →
      elements_in (behind_star (lengths_at v (marked_parts forms.DeclaratorNode all names true ps))) ≡
      multiplied v.count (elements_in (behind_star (scalars (marked_parts forms.DeclaratorNode all names true ps))))
  unfolding marked marked_parts scalar scalars
  behind_stars w f l all names none h = refl
  behind_stars w f l all names (more (node forms.StarNode w' f' l' none) qs) h =
      values forms.DeclaratorNode all
      (later forms.DeclaratorNode all names true (node forms.StarNode w' f' l' none)) false qs h
  behind_stars w f l all names (more q qs) h =
      let others = marked_parts forms.DeclaratorNode all (later forms.DeclaratorNode all names true q) false qs in
      let x = front_value q qs h in
      ap elements_in (all_behind (length_or_part v (marked names q)) (lengths_at v others) (no_star_at v q names x)) ∙
      (values forms.DeclaratorNode all names true (more q qs) h ∙
      ap (λ ps. multiplied v.count (elements_in ps)) (sym (all_behind (scalar (marked names q)) (scalars others)
      (no_star_in q names x))))

pub forms_long : FormsLong
unfolding marked
forms_long names type (node forms.DeclaratorNode w f l ps) v e h d s =
    let ms = marked_parts forms.DeclaratorNode ps names true ps in
    ap elements_by (measured w f (lengths_at v ms) d s) ∙
    (behind_stars v (vector_counts type v e) w f l ps names ps h ∙
    ap (λ z. multiplied v.count (elements_by z)) (sym (measured w f (scalars ms) d s)))
forms_long names type d v e h k s = absurd h
