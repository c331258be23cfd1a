-- How many nodes the line of a step has, and how many lines together.
use Rattle.std.proofs.Common.{◌≡◌, ℕ, suc, ◌+◌, ◌*◌, ◌≤◌, List, [], ◌∷◌, ◌++◌, length, Option, Some, None}
use Rattle.std.proofs.Common.{arith}
use Rattle.wg_num.specs.declared.types.IntType.{IntType}
use Rattle.cl_tree.specs.Syntax.{Syntax}
use Rattle.cl_limits.specs.Limits.{count_nodes, count_forest}
use Rattle.cl_short_vec.specs.declared.nodes.Span.{Span}
use Rattle.cl_short_vec.specs.declared.kinds.Reach.TheVariants.{Element}
use Rattle.cl_short_vec.specs.declared.kinds.Kind.{Kind}
use Rattle.cl_short_vec.specs.declared.kinds.Kind.TheVariants.{Vectors}
use Rattle.cl_short_vec.specs.Marks.{Mark, tree_at, kind_at}
use Rattle.cl_short_vec.specs.Order.{Named, Step, loads, copies, stores, sets}
use Rattle.cl_short_vec.specs.Parts.{Assigned, assigned_part}
use Rattle.cl_short_vec.specs.Nodes.{span_of}
use Rattle.cl_short_vec.specs.Scalar.{scalar}
use Rattle.cl_short_vec.specs.Unit.{pointed_at, offset_line, number_line, copy_line, load_line, set_line, store_line}
use Rattle.cl_short_vec.specs.Unit.{line_of, lines_of}
use Rattle.cl_short_vec_form.proofs.Counting.{size}
use Rattle.cl_short_vec_form.proofs.ScalarCounts.{scalar_count}

-- the type behind which components are declared is a word, with an address space or without one
abbrev pub IsShort : Option Mark → Type 0
IsShort None = Unit {0}
IsShort (Some type) = count_nodes (scalar type) ≤ 2

-- ---- one line

pointed_count : (k : Kind) (s : Span) → count_nodes (pointed_at k s) ≤ 2
pointed_count (Vectors v (Element space constant)) s = omega arith
pointed_count k s = omega arith

pub offset_count : (m : Mark) → count_nodes (offset_line m) ≤ 6 + 8 * size m
offset_count m =
    let h = pointed_count (kind_at m) (span_of (tree_at m)) in
    let k = scalar_count m in
    omega arith

pub number_count : (of : IntType) (m : Mark) → count_nodes (number_line of m) ≤ 3 + 8 * size m
number_count of m =
    let k = scalar_count m in
    omega arith

pub set_count : (type : Option Mark) (x : Named) (c : ℕ) (value : Syntax) → IsShort type →
    count_nodes (set_line type x c value) ≤ 5 + count_nodes value
set_count None x c value h = omega arith
set_count (Some type) x c value h = omega arith

pub store_count : (m : Mark) (c : ℕ) (value : Syntax) → count_nodes (store_line m c value) ≤ 5 + count_nodes value
store_count m c value = omega arith

-- ---- lines together

pub append_count : (type : Option Mark) (a : Assigned) (ss rs : List Step) →
    count_forest (lines_of type a (ss ++ rs)) ≡ count_forest (lines_of type a ss) + count_forest (lines_of type a rs)
append_count type a [] rs = omega arith
append_count type a (s ∷ ss) rs =
    let h = append_count type a ss rs in
    sums (count_nodes (line_of type a s)) (count_forest (lines_of type a ss)) (count_forest (lines_of type a rs))
    (count_forest (lines_of type a (ss ++ rs))) h
  where
    sums : (x y z s : ℕ) → s ≡ y + z → x + s ≡ (x + y) + z
    sums x y z s h = omega arith

loaded : (x n y : ℕ) → x ≤ 6 → y ≤ 6 * n → x + y ≤ 6 * suc n
loaded x n y h k = omega arith

load_count : (m : Mark) (c : ℕ) → count_nodes (load_line m c) ≤ 6
load_count m c = omega arith

copy_count : (of : IntType) (x : Named) (c : ℕ) → count_nodes (copy_line of x c) ≤ 6
copy_count of x c = omega arith

pub loads_count : (type : Option Mark) (a : Assigned) (m : Mark) (cs : List ℕ) →
    count_forest (lines_of type a (loads m cs)) ≤ 6 * length cs
loads_count type a m [] = omega arith
loads_count type a m (c ∷ cs) =
    loaded (count_nodes (load_line m c)) (length cs) (count_forest (lines_of type a (loads m cs))) (load_count m c)
    (loads_count type a m cs)

pub copies_count : (type : Option Mark) (a : Assigned) (of : IntType) (x : Named) (cs : List ℕ) →
    count_forest (lines_of type a (copies of x cs)) ≤ 6 * length cs
copies_count type a of x [] = omega arith
copies_count type a of x (c ∷ cs) =
    loaded (count_nodes (copy_line of x c)) (length cs) (count_forest (lines_of type a (copies of x cs)))
    (copy_count of x c) (copies_count type a of x cs)

-- ---- what is set, where each value has at most that many nodes

filled : (x v b n y : ℕ) → x ≤ 5 + v → v ≤ b → y ≤ n * (5 + b) → x + y ≤ suc n * (5 + b)
filled x v b n y h k i = omega arith

pub stores_count : (type : Option Mark) (a : Assigned) (m : Mark) (cs : List ℕ) (j b : ℕ) →
    ((i : ℕ) → count_nodes (assigned_part a i) ≤ b) →
    count_forest (lines_of type a (stores m cs j)) ≤ length cs * (5 + b)
stores_count type a m [] j b h = omega arith
stores_count type a m (c ∷ cs) j b h =
    filled (count_nodes (store_line m c (assigned_part a j))) (count_nodes (assigned_part a j)) b (length cs)
    (count_forest (lines_of type a (stores m cs (suc j)))) (store_count m c (assigned_part a j)) (h j)
    (stores_count type a m cs (suc j) b h)

pub sets_count : (type : Option Mark) (a : Assigned) (x : Named) (cs : List ℕ) (j b : ℕ) → IsShort type →
    ((i : ℕ) → count_nodes (assigned_part a i) ≤ b) →
    count_forest (lines_of type a (sets x cs j)) ≤ length cs * (5 + b)
sets_count type a x [] j b s h = omega arith
sets_count type a x (c ∷ cs) j b s h =
    filled (count_nodes (set_line type x c (assigned_part a j))) (count_nodes (assigned_part a j)) b (length cs)
    (count_forest (lines_of type a (sets x cs (suc j)))) (set_count type x c (assigned_part a j) s) (h j)
    (sets_count type a x cs (suc j) b s h)
