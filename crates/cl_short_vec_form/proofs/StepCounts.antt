-- How many nodes the lines of a vector statement have: those for the leaves of its value at most 20 for each node of
-- the value and each component of its widest vector, and all together at most 64 for each node of the statement.
use Rattle.std.proofs.Common.{◌≡◌, ℕ, suc, ◌+◌, ◌*◌, ◌≤◌, List, [], ◌∷◌, ◌++◌, length, Option, Some, None}
use Rattle.std.proofs.Common.{Bool, true, false, if◌then◌else◌, arith}
use Rattle.wg_num.specs.declared.types.IntType.{IntType}
use Rattle.wg_num.specs.declared.types.Bin.{Bin}
use Rattle.cl_tree.specs.Syntax.{Syntax}
use Rattle.cl_meaning.specs.Declarations.{form_of}
use Rattle.cl_limits.specs.Limits.{count_nodes, count_forest}
use Rattle.cl_short_vec.specs.declared.nodes.Span.{Span}
use Rattle.cl_short_vec.specs.declared.types.Vector.{Vector}
use Rattle.cl_short_vec.specs.declared.kinds.Kind.{Kind}
use Rattle.cl_short_vec.specs.declared.made.Made.{Made}
use Rattle.cl_short_vec.specs.declared.made.Made.TheVariants as made
use Rattle.cl_short_vec.specs.Types.{numbers}
use Rattle.cl_short_vec.specs.Marks.{Mark, mark, Marks, unmarked, marking, tree_at, kind_at, vector_among}
use Rattle.cl_short_vec.specs.Roles.{is_paren}
use Rattle.cl_short_vec.specs.Faults.{components_of}
use Rattle.cl_short_vec.specs.Made.{made_of}
use Rattle.cl_short_vec.specs.Order.{Named, Step, Offset, type_in, count_in, named_by, loads, copies}
use Rattle.cl_short_vec.specs.Order.{steps_by, steps_in, all_steps, list_steps, inside_steps, steps_of}
use Rattle.cl_short_vec.specs.Order.{is_through, under, is_element_in, target_steps, old_steps, stores, sets}
use Rattle.cl_short_vec.specs.Order.{new_steps, setting_steps, initial_steps}
use Rattle.cl_short_vec.specs.Parts.{Assigned, assigned_part}
use Rattle.cl_short_vec.specs.Unit.{offset_line, number_line, lines_of, assigned_of, set_block}
use Rattle.cl_short_vec_form.specs.Sizes.{widest, widest_among}
use Rattle.cl_short_vec_form.proofs.Counting.{grows, size, sizes, numbers_length}
use Rattle.cl_short_vec_form.proofs.PartCounts.{assigned_count}
use Rattle.cl_short_vec_form.proofs.Widths.{one_wide, parts_wide, kind_wide, first_wide, others_wide, count_wide}
use Rattle.cl_short_vec_form.proofs.LineCounts.{IsShort, offset_count, number_count, append_count}
use Rattle.cl_short_vec_form.proofs.LineCounts.{loads_count, copies_count, stores_count, sets_count}

-- ---- leaves

-- a number, the components of a variable, an element with its components
number_fits : (x n c : ℕ) → 1 ≤ c → x ≤ 3 + 8 * suc n → x + 0 ≤ 20 * suc n * c
number_fits x n c h i = omega (arith, grows (suc n) c h)

variable_fits : (x n k c : ℕ) → x ≤ 6 * k → k ≤ c → x ≤ 20 * suc n * c
variable_fits x n k c h i = omega arith

element_fits : (x y n k c : ℕ) → 1 ≤ c → x ≤ 6 + 8 * suc n → y ≤ 6 * k → k ≤ c → x + y ≤ 20 * suc n * c
element_fits x y n k c h i j l = omega (arith, grows (suc n) c h)

inside_fits : (x n c : ℕ) → x ≤ 20 * n * c → x ≤ 20 * suc n * c
inside_fits x n c h = omega arith

sum_fits : (x y z m n c : ℕ) → z ≡ x + y → x ≤ 20 * m * c → y ≤ 20 * n * c → z ≤ 20 * (m + n) * c
sum_fits x y z m n c e h i = omega arith

by_count : (type : Option Mark) (a : Assigned) (how : Made) (of : IntType) (t : Syntax) (k : Kind) (parts : Marks)
    (items all lists : List Step) (c : ℕ) → 1 ≤ c → count_in k ≤ c →
    count_forest (lines_of type a items) ≤ 20 * sizes parts * c →
    count_forest (lines_of type a all) ≤ 20 * sizes parts * c →
    count_forest (lines_of type a lists) ≤ 20 * sizes parts * c →
    count_forest (lines_of type a (steps_by how of (mark t k parts) items all lists)) ≤ 20 * suc (sizes parts) * c
by_count type a made.Number of t k parts items all lists c o w g h i =
    number_fits (count_nodes (number_line of (mark t k parts))) (sizes parts) c o (number_count of (mark t k parts))
by_count type a made.Items of t k parts items all lists c o w g h i =
    inside_fits (count_forest (lines_of type a items)) (sizes parts) c g
by_count type a made.Variable of t k parts items all lists c o w g h i =
    let ns = numbers 0 1 (count_in k) in
    let e = numbers_length 0 1 (count_in k) in
    variable_fits (count_forest (lines_of type a (copies (type_in k) (named_by t) ns))) (sizes parts) (length ns) c
    (copies_count type a (type_in k) (named_by t) ns) (omega arith)
by_count type a made.Element of t k parts items all lists c o w g h i =
    let m = mark t k parts in
    let ns = numbers 0 1 (count_in k) in
    let e = numbers_length 0 1 (count_in k) in
    element_fits (count_nodes (offset_line m)) (count_forest (lines_of type a (loads m ns))) (sizes parts) (length ns)
    c o (offset_count m) (loads_count type a m ns) (omega arith)
by_count type a made.Listed of t k parts items all lists c o w g h i =
    inside_fits (count_forest (lines_of type a lists)) (sizes parts) c i
by_count type a how of t k parts items all lists c o w g h i =
    inside_fits (count_forest (lines_of type a all)) (sizes parts) c h

either_lines : (type : Option Mark) (a : Assigned) (z : Bool) (ss rs : List Step) (n : ℕ) →
    count_forest (lines_of type a ss) ≤ n → count_forest (lines_of type a rs) ≤ n →
    count_forest (lines_of type a (if z then ss else rs)) ≤ n
either_lines type a true ss rs n h k = h
either_lines type a false ss rs n h k = k

mutual
  unfolding steps_in all_steps list_steps inside_steps

  pub steps_count : (type : Option Mark) (a : Assigned) (listed : Bool) (of : IntType) (m : Mark) (c : ℕ) →
      widest m ≤ c → count_forest (lines_of type a (steps_in listed of m)) ≤ 20 * size m * c
  steps_count type a listed of (mark t k parts) c h =
      let w = parts_wide t k parts c h in
      let o = one_wide (mark t k parts) in
      let inner = type_in (vector_among parts) in
      by_count type a (made_of listed t k) of t k parts (all_steps true of parts) (all_steps false inner parts)
      (list_steps (type_in k) parts) c (omega arith) (count_wide k c (omega arith) (kind_wide t k parts c h))
      (all_count type a true of parts c w) (all_count type a false inner parts c w)
      (lists_count type a (type_in k) parts c w)

  all_count : (type : Option Mark) (a : Assigned) (listed : Bool) (of : IntType) (ms : Marks) (c : ℕ) →
      widest_among ms ≤ c → count_forest (lines_of type a (all_steps listed of ms)) ≤ 20 * sizes ms * c
  all_count type a listed of unmarked c h = omega arith
  all_count type a listed of (marking m ms) c h =
      let ss = steps_in listed of m in
      let rs = all_steps false of ms in
      sum_fits (count_forest (lines_of type a ss)) (count_forest (lines_of type a rs))
      (count_forest (lines_of type a (ss ++ rs))) (size m) (sizes ms) c (append_count type a ss rs)
      (steps_count type a listed of m c (first_wide m ms c h))
      (all_count type a false of ms c (others_wide m ms c h))

  lists_count : (type : Option Mark) (a : Assigned) (of : IntType) (ms : Marks) (c : ℕ) →
      widest_among ms ≤ c → count_forest (lines_of type a (list_steps of ms)) ≤ 20 * sizes ms * c
  lists_count type a of unmarked c h = omega arith
  lists_count type a of (marking m ms) c h =
      let ss = inside_steps of m in
      let rs = list_steps of ms in
      sum_fits (count_forest (lines_of type a ss)) (count_forest (lines_of type a rs))
      (count_forest (lines_of type a (ss ++ rs))) (size m) (sizes ms) c (append_count type a ss rs)
      (inside_count type a of m c (first_wide m ms c h)) (lists_count type a of ms c (others_wide m ms c h))

  inside_count : (type : Option Mark) (a : Assigned) (of : IntType) (m : Mark) (c : ℕ) → widest m ≤ c →
      count_forest (lines_of type a (inside_steps of m)) ≤ 20 * size m * c
  inside_count type a of (mark t k parts) c h =
      either_lines type a (is_paren (form_of t)) (all_steps true of parts) [] (20 * suc (sizes parts) * c)
      (inside_fits (count_forest (lines_of type a (all_steps true of parts))) (sizes parts) c
      (all_count type a true of parts c (parts_wide t k parts c h))) (omega arith)

-- ---- the target of an assignment

under_size : (m : Mark) → size (under m) ≤ size m
unfolding under
under_size (mark t k unmarked) = omega arith
under_size (mark t k (marking a others)) = by (is_through t) (under_size a)
  where
    by : (z : Bool) → size (under a) ≤ size a →
        size (if z then under a else mark t k (marking a others)) ≤ suc (size a + sizes others)
    by true h = omega arith
    by false h = omega arith

target_count : (a : Assigned) (m : Mark) → count_forest (lines_of None a (target_steps m)) ≤ 6 + 8 * size m
target_count a m =
    let h = offset_count m in
    either_lines None a (is_element_in (kind_at m)) (Offset m ∷ []) [] (6 + 8 * size m) (omega arith) (omega arith)

old_count : (a : Assigned) (o : Option Bin) (m : Mark) (cs : List ℕ) →
    count_forest (lines_of None a (old_steps o m cs)) ≤ 6 * length cs
old_count a None m cs = omega arith
old_count a (Some op) m cs =
    let of = type_in (kind_at m) in
    let x = named_by (tree_at m) in
    either_lines None a (is_element_in (kind_at m)) (loads m cs) (copies of x cs) (6 * length cs)
    (loads_count None a m cs) (copies_count None a of x cs)

new_count : (a : Assigned) (m : Mark) (cs : List ℕ) (b : ℕ) → ((i : ℕ) → count_nodes (assigned_part a i) ≤ b) →
    count_forest (lines_of None a (new_steps m cs)) ≤ length cs * (5 + b)
new_count a m cs b h =
    either_lines None a (is_element_in (kind_at m)) (stores m cs 0) (sets (named_by (tree_at m)) cs 0)
    (length cs * (5 + b)) (stores_count None a m cs 0 b h) (sets_count None a (named_by (tree_at m)) cs 0 b tt h)

-- ---- statements

times : (x k n c : ℕ) → x ≤ n * k → n ≤ c → x ≤ c * k
times x k n c h i = grind arith

-- a simple statement that is an assignment: the target's place, its old components, the value, what is set
block_fits : (w x y z r s t u m n l c : ℕ) → 1 ≤ c → r ≡ w + s → s ≡ x + u → u ≡ y + z → w ≤ 6 + 8 * l → l ≤ m →
    x ≤ 6 * t → t ≤ c → y ≤ 20 * n * c → z ≤ c * (5 + (9 * n + 8)) → suc r ≤ 64 * suc (suc (m + (n + 0)) + 0) * c
block_fits w x y z r s t u m n l c o d e f g h i j k p = omega (arith, grows m c o)

pub block_count : (s : Span) (o : Option Bin) (target value : Mark) (c : ℕ) → 1 ≤ c → widest value ≤ c →
    length (components_of target) ≤ c →
    count_nodes (set_block s o target value) ≤ 64 * suc (suc (size target + (size value + 0)) + 0) * c
block_count s o target value c l h k =
    let a = assigned_of o target value in
    let m = under target in
    let cs = components_of target in
    let places = target_steps m in
    let olds = old_steps o m cs in
    let leaves = steps_of (type_in (kind_at target)) value in
    let news = new_steps m cs in
    block_fits (count_forest (lines_of None a places)) (count_forest (lines_of None a olds))
    (count_forest (lines_of None a leaves)) (count_forest (lines_of None a news))
    (count_forest (lines_of None a (setting_steps o target value)))
    (count_forest (lines_of None a (olds ++ (leaves ++ news)))) (length cs)
    (count_forest (lines_of None a (leaves ++ news))) (size target) (size value) (size m) c l
    (append_count None a places (olds ++ (leaves ++ news))) (append_count None a olds (leaves ++ news))
    (append_count None a leaves news) (target_count a m) (under_size target) (old_count a o m cs) k
    (steps_count None a false (type_in (kind_at target)) value c h)
    (times (count_forest (lines_of None a news)) (5 + (9 * size value + 8)) (length cs) c
    (new_count a m cs (9 * size value + 8) (assigned_count a)) k)

-- ---- declarations

initial_fits : (x y z n c : ℕ) → 1 ≤ c → z ≡ x + y → x ≤ 20 * n * c → y ≤ c * (5 + (9 * n + 8)) → z ≤ 64 * suc n * c
initial_fits x y z n c o e h i = omega arith

pub initial_count : (type : Option Mark) (a : Assigned) (v : Vector) (x : Named) (c : ℕ) → IsShort type → 1 ≤ c →
    v.count ≤ c → widest a.value ≤ c →
    count_forest (lines_of type a (initial_steps v x a.value)) ≤ 64 * suc (size a.value) * c
initial_count type a v x c s o w h =
    let leaves = steps_of v.of a.value in
    let ns = numbers 0 1 v.count in
    let news = sets x ns 0 in
    let b = 9 * size a.value + 8 in
    let i = numbers_length 0 1 v.count in
    initial_fits (count_forest (lines_of type a leaves)) (count_forest (lines_of type a news))
    (count_forest (lines_of type a (leaves ++ news))) (size a.value) c o (append_count type a leaves news)
    (steps_count type a false v.of a.value c h)
    (times (count_forest (lines_of type a news)) (5 + b) (length ns) c
    (sets_count type a x ns 0 b s (assigned_count a)) (omega arith))
