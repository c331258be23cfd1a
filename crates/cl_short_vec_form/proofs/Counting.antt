-- How many nodes trees and marked trees have.
use Rattle.std.proofs.Common.{◌≡◌, ℕ, zero, suc, ◌+◌, ◌*◌, ◌≤◌, length, Bool, true, false}
use Rattle.std.proofs.Common.{if◌then◌else◌, refl, ap, arith}
use Rattle.cl_tree.specs.declared.tree.Form.{Form}
use Rattle.cl_tree.specs.Syntax.{Syntax, node, Forest, none, more, joined}
use Rattle.cl_limits.specs.Limits.{count_nodes, count_forest}
use Rattle.cl_short_vec.specs.Types.{numbers}
use Rattle.cl_short_vec.specs.Kinds.{Names, within, later}
use Rattle.cl_short_vec.specs.Marks.{Mark, mark, Marks, unmarked, marking, marked, marked_parts}
use Rattle.cl_short_vec.specs.Nodes.{with_parts}

-- ---- numbers

pub grows : (n c : ℕ) → 1 ≤ c → n ≤ n * c
grows n zero h = omega arith
grows n (suc c) h = omega arith

-- ---- trees

pub with_count : (t : Syntax) (parts : Forest) → count_nodes (with_parts t parts) ≡ suc (count_forest parts)
with_count (node form w f l ps) parts = refl

pub joined_count : (a b : Forest) → count_forest (joined a b) ≡ count_forest a + count_forest b
joined_count none b = omega arith
joined_count (more t ts) b =
    let h = joined_count ts b in
    sums (count_nodes t) (count_forest ts) (count_forest b) (count_forest (joined ts b)) h
  where
    sums : (x y z s : ℕ) → s ≡ y + z → x + s ≡ (x + y) + z
    sums x y z s h = omega arith

pub either_count : (z : Bool) (s t : Syntax) (n : ℕ) → count_nodes s ≤ n → count_nodes t ≤ n →
    count_nodes (if z then s else t) ≤ n
either_count true s t n h k = h
either_count false s t n h k = k

-- ---- marked trees

abbrev mutual
  -- how many nodes a marked tree has, its root included
  pub size : Mark → ℕ
  size (mark t k parts) = suc (sizes parts)

  pub sizes : Marks → ℕ
  sizes unmarked = 0
  sizes (marking m ms) = size m + sizes ms

mutual
  unfolding marked marked_parts

  -- as many as the tree
  pub marked_size : (t : Syntax) (names : Names) → size (marked names t) ≡ count_nodes t
  marked_size (node form w f l ps) names = ap suc (parts_size form ps (within form w names) true ps)

  pub parts_size : (form : Form) (all : Forest) (names : Names) (front : Bool) (ps : Forest) →
      sizes (marked_parts form all names front ps) ≡ count_forest ps
  parts_size form all names front none = refl
  parts_size form all names front (more p ps) =
      let n = later form all names front p in
      both_equal (size (marked names p)) (sizes (marked_parts form all n false ps)) (count_nodes p) (count_forest ps)
      (marked_size p names) (parts_size form all n false ps)
    where
      both_equal : (x y u v : ℕ) → x ≡ u → y ≡ v → x + y ≡ u + v
      both_equal x y u v h k = omega arith

-- ---- components

pub numbers_length : (first by n : ℕ) → length (numbers first by n) ≡ n
numbers_length first by zero = refl
numbers_length first by (suc n) = ap suc (numbers_length (first + by) by n)
