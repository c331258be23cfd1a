-- How wide the vectors in a marked tree are: none is wider than the widest, and no place has more components.
use Rattle.std.proofs.Common.{◌≡◌, ℕ, suc, ◌≤◌, max, nat_eq, List, [], ◌∷◌, map, length, Option, Some, None}
use Rattle.std.proofs.Common.{Bool, true, false, if◌then◌else◌, refl, ap, eqb-true, arith}
use Rattle.std.specs.Prelude.{slice_index}
use Rattle.cl_tree.specs.declared.tree.Form.{Form}
use Rattle.cl_tree.specs.declared.tree.Form.TheVariants as forms
use Rattle.cl_tree.specs.Syntax.{Syntax, node, none, more}
use Rattle.cl_meaning.specs.declared.operators.Postfix.{Postfix}
use Rattle.cl_meaning.specs.Spelling.{postfix_in}
use Rattle.cl_short_vec.specs.declared.types.Vector.{Vector}
use Rattle.cl_short_vec.specs.declared.kinds.Reach.{Reach}
use Rattle.cl_short_vec.specs.declared.kinds.Kind.{Kind}
use Rattle.cl_short_vec.specs.declared.kinds.Kind.TheVariants.{Vectors, Pointer, Other}
use Rattle.cl_short_vec.specs.Types.{vector, vector_type, selection_in, selected, picked}
use Rattle.cl_short_vec.specs.Kinds.{Names, within, later, several, postfix_kind}
use Rattle.cl_short_vec.specs.Marks.{Mark, mark, Marks, unmarked, marking, front_kind, kind_by, marked}
use Rattle.cl_short_vec.specs.Marks.{marked_parts}
use Rattle.cl_short_vec.specs.Faults.{all_of, chosen, picked_by, components_by, components_of}
use Rattle.cl_short_vec.specs.Order.{count_in}
use Rattle.cl_short_vec_form.specs.Sizes.{named_width, kind_width, widest, widest_among}
use Rattle.cl_short_vec_form.proofs.Counting.{numbers_length}

-- ---- what is inside is not wider

mutual
  unfolding widest widest_among

  pub one_wide : (m : Mark) → 1 ≤ widest m
  one_wide (mark t k parts) =
      let h = among_wide parts in
      omega arith

  pub among_wide : (ms : Marks) → 1 ≤ widest_among ms
  among_wide unmarked = omega arith
  among_wide (marking m ms) =
      let h = among_wide ms in
      omega arith

pub parts_wide : (t : Syntax) (k : Kind) (parts : Marks) (c : ℕ) → widest (mark t k parts) ≤ c →
    widest_among parts ≤ c
unfolding widest
parts_wide t k parts c h = omega arith

pub kind_wide : (t : Syntax) (k : Kind) (parts : Marks) (c : ℕ) → widest (mark t k parts) ≤ c → kind_width k ≤ c
unfolding widest
kind_wide t k parts c h = omega arith

pub type_wide : (t : Syntax) (k : Kind) (parts : Marks) (c : ℕ) → widest (mark t k parts) ≤ c →
    named_width (vector_type t) ≤ c
unfolding widest
type_wide t k parts c h = omega arith

pub first_wide : (m : Mark) (ms : Marks) (c : ℕ) → widest_among (marking m ms) ≤ c → widest m ≤ c
unfolding widest_among
first_wide m ms c h = omega arith

pub others_wide : (m : Mark) (ms : Marks) (c : ℕ) → widest_among (marking m ms) ≤ c → widest_among ms ≤ c
unfolding widest_among
others_wide m ms c h = omega arith

pub count_wide : (k : Kind) (c : ℕ) → 1 ≤ c → kind_width k ≤ c → count_in k ≤ c
count_wide (Vectors v r) c h i = i
count_wide (Pointer s d v) c h i = h
count_wide (Other b) c h i = h

-- ---- the components of a place

all_wide : (k : Kind) → length (all_of k) ≤ kind_width k
all_wide (Vectors v r) =
    let h = numbers_length 0 1 v.count in
    omega arith
all_wide (Pointer s c v) = omega arith
all_wide (Other b) = omega arith

pub map_length : (f : ℕ → ℕ) (js : List ℕ) → length (map f js) ≡ length js
map_length f [] = refl
map_length f (j ∷ js) = ap suc (map_length f js)

left_most : (x a b : ℕ) → x ≤ a → x ≤ max a b
left_most x a b h = omega arith

right_most : (x a b : ℕ) → x ≤ b → x ≤ max a b
right_most x a b h = omega arith

several_wide : (o : Option (List ℕ)) (v : Vector) (r : Reach) (ks : List ℕ) (b : ℕ) → length ks ≤ b →
    length (chosen o ks) ≤ max (kind_width (several v r o)) b
several_wide None v r ks b h = right_most (length ks) 1 b h
several_wide (Some js) v r ks b h = by (nat_eq (length js) 1) refl
  where
    by : (z : Bool) → nat_eq (length js) 1 ≡ z → length (picked ks js) ≤
        max (kind_width (if z then (Other true) else Vectors (vector v.of (length js)) r)) b
    by true e =
        let i = map_length (λ j. slice_index ks j) js in
        let n = eqb-true (length js) 1 e in
        left_most (length (picked ks js)) 1 b (omega arith)
    by false e =
        let i = map_length (λ j. slice_index ks j) js in
        left_most (length (picked ks js)) (length js) b (omega arith)

selection_wide : (s : Option (List ℕ)) (p : Option Postfix) (j : Kind) (ks : List ℕ) (b : ℕ) → length ks ≤ b →
    length (picked_by s (postfix_kind s p j) j ks) ≤ max (kind_width (postfix_kind s p j)) b
selection_wide None p j ks b h =
    left_most (length (all_of (postfix_kind None p j))) (kind_width (postfix_kind None p j)) b
    (all_wide (postfix_kind None p j))
selection_wide (Some name) p (Vectors v r) ks b h = several_wide (selected v.count name) v r ks b h
selection_wide (Some name) p (Pointer s c v) ks b h = right_most (length ks) 1 b h
selection_wide (Some name) p (Other y) ks b h = right_most (length ks) 1 b h

by_wide : (names : Names) (form : Form) (w : List ℕ) (ms : Marks) (ks : List ℕ) (b : ℕ) → length ks ≤ b →
    length (components_by form w (kind_by names form w ms) (front_kind ms) ks) ≤
    max (kind_width (kind_by names form w ms)) b
unfolding kind_by
by_wide names forms.ParenNode w ms ks b h = right_most (length ks) (kind_width (front_kind ms)) b h
by_wide names forms.PostfixNode w ms ks b h = selection_wide (selection_in w) (postfix_in w) (front_kind ms) ks b h
by_wide names form w ms ks b h =
    left_most (length (all_of (kind_by names form w ms))) (kind_width (kind_by names form w ms)) b
    (all_wide (kind_by names form w ms))

pub components_wide : (t : Syntax) (names : Names) → length (components_of (marked names t)) ≤ widest (marked names t)
unfolding components_of marked marked_parts widest widest_among
components_wide (node form w f l none) names =
    let h = all_wide (kind_by names form w unmarked) in
    omega arith
components_wide (node form w f l (more a others)) names =
    let inner = within form w names in
    let rest = marked_parts form (more a others) (later form (more a others) inner true a) false others in
    let h = by_wide names form w (marking (marked inner a) rest) (components_of (marked inner a))
    (widest (marked inner a)) (components_wide a inner) in
    omega arith
