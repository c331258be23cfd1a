-- A component of a vector expression has at most 9 nodes for each node of the expression.
use Rattle.std.proofs.Common.{ℕ, suc, ◌+◌, ◌-◌, ◌*◌, ◌≤◌, nat_lt, Option, Some, None, Bool, true, false, arith}
use Rattle.std.proofs.Common.{if◌then◌else◌}
use Rattle.std.specs.Prelude.{slice_index}
use Rattle.wg_num.specs.declared.types.IntType.{IntType}
use Rattle.wg_num.specs.declared.types.Bin.{Bin}
use Rattle.wg_num.specs.declared.types.Un.TheVariants as uns
use Rattle.wg_num.specs.Operators.{is_shift}
use Rattle.cl_tree.specs.Syntax.{Syntax}
use Rattle.cl_meaning.specs.Conversions.{is_comparison}
use Rattle.cl_meaning.specs.Declarations.{form_of}
use Rattle.cl_limits.specs.Limits.{count_nodes, count_forest}
use Rattle.cl_short_vec.specs.declared.nodes.Span.{Span}
use Rattle.cl_short_vec.specs.declared.kinds.Kind.{Kind}
use Rattle.cl_short_vec.specs.declared.made.Made.{Made}
use Rattle.cl_short_vec.specs.declared.made.Made.TheVariants as made
use Rattle.cl_short_vec.specs.Marks.{Mark, mark, Marks, unmarked, marking, tree_at}
use Rattle.cl_short_vec.specs.Roles.{is_paren}
use Rattle.cl_short_vec.specs.Made.{made_of}
use Rattle.cl_short_vec.specs.Order.{type_in}
use Rattle.cl_short_vec.specs.Nodes.{span_of, cast_at, signed_at, paren_at, joined_at, amount_at, component_joined}
use Rattle.cl_short_vec.specs.Nodes.{helping_component}
use Rattle.cl_short_vec.specs.Parts.{Given, part_by, part_in, item_part, front_part, second_part, all_parts, list_part}
use Rattle.cl_short_vec.specs.Parts.{inside_part, filled_part, width_of, filled_at, selected_at, part_of, Assigned}
use Rattle.cl_short_vec.specs.Parts.{assigned_by, assigned_part}
use Rattle.cl_short_vec_form.proofs.Counting.{either_count, size, sizes}

-- ---- operators

joined_nodes : (op : Bin) (of : IntType) (s : Span) (a b : Syntax) →
    count_nodes (component_joined op of s a b) ≤ 7 + (count_nodes a + count_nodes b)
joined_nodes op of s a b = by (is_comparison op) (is_shift op)
  where
    by : (c d : Bool) → count_nodes (if c then cast_at of s (signed_at uns.Minus s (paren_at s (joined_at op s a b)))
        else (if d then cast_at of s (joined_at op s a (amount_at of s b)) else cast_at of s (joined_at op s a b))) ≤
        7 + (count_nodes a + count_nodes b)
    by true d = omega arith
    by false true = omega arith
    by false false = omega arith

-- ---- what the parts of a node give, where they have that many nodes together

record GivenFits (g : Given) (n : ℕ) : Type 0 where
  items : (c : ℕ) → count_nodes (g.items c) ≤ 9 * n + 1
  front : (c : ℕ) → count_nodes (g.front c) ≤ 9 * n + 1
  both : (c : ℕ) → count_nodes (g.front c) + count_nodes (g.second c) ≤ 9 * n + 2
  all : (c : ℕ) → count_forest (g.all c) ≤ 9 * n
  list : (c : ℕ) → count_nodes (g.list c) ≤ 9 * n + 1

inside_fits : (x n : ℕ) → x ≤ 9 * n + 1 → x ≤ 9 * suc n
inside_fits x n h = omega arith

joined_fits : (x y z n : ℕ) → z ≤ 7 + (x + y) → x + y ≤ 9 * n + 2 → z ≤ 9 * suc n
joined_fits x y z n h k = omega arith

called_fits : (x n : ℕ) → x ≤ 9 * n → suc x ≤ 9 * suc n
called_fits x n h = omega arith

by_count : (how : Made) (t : Syntax) (k : Kind) (parts : Marks) (g : Given) (c n : ℕ) → GivenFits g n →
    count_nodes (part_by how t k parts g c) ≤ 9 * suc n
by_count made.Number t k parts g c n h = omega arith
by_count made.Items t k parts g c n h = inside_fits (count_nodes (g.items c)) n (h.items c)
by_count made.Inside t k parts g c n h = inside_fits (count_nodes (g.front c)) n (h.front c)
by_count (made.Signed op) t k parts g c n h =
    let k = h.front c in
    omega arith
by_count made.Selected t k parts g c n h =
    inside_fits (count_nodes (g.front (selected_at t parts c))) n (h.front (selected_at t parts c))
by_count (made.Joined op) t k parts g c n h =
    joined_fits (count_nodes (g.front c)) (count_nodes (g.second c))
    (count_nodes (component_joined op (type_in k) (span_of t) (g.front c) (g.second c))) n
    (joined_nodes op (type_in k) (span_of t) (g.front c) (g.second c)) (h.both c)
by_count made.Called t k parts g c n h = called_fits (count_forest (g.all c)) n (h.all c)
by_count made.Listed t k parts g c n h = inside_fits (count_nodes (g.list c)) n (h.list c)
by_count made.Variable t k parts g c n h = omega arith
by_count made.Element t k parts g c n h = omega arith

-- ---- one of some parts

none_fits : 1 ≤ 9 * 0 + 1
none_fits = omega arith

first_fits : (x m n : ℕ) → x ≤ 9 * m → x ≤ 9 * (m + n) + 1
first_fits x m n h = omega arith

other_fits : (x m n : ℕ) → x ≤ 9 * n + 1 → x ≤ 9 * (m + n) + 1
other_fits x m n h = omega arith

second_fits : (x m n r : ℕ) → x ≤ 9 * n → x ≤ 9 * (m + (n + r)) + 1
second_fits x m n r h = omega arith

sum_fits : (x y m n : ℕ) → x ≤ 9 * m → y ≤ 9 * n → x + y ≤ 9 * (m + n)
sum_fits x y m n h k = omega arith

alone_fits : (x m : ℕ) → x ≤ 9 * m → x + 1 ≤ 9 * (m + 0) + 2
alone_fits x m h = omega arith

pair_fits : (x y m n r : ℕ) → x ≤ 9 * m → y ≤ 9 * n → x + y ≤ 9 * (m + (n + r)) + 2
pair_fits x y m n r h k = omega arith

mutual
  unfolding part_in item_part front_part second_part all_parts list_part inside_part filled_part

  pub part_count : (listed : Bool) (m : Mark) (c : ℕ) → count_nodes (part_in listed m c) ≤ 9 * size m
  part_count listed (mark t k parts) c = by_count (made_of listed t k) t k parts (record {
    items = λ d. item_part parts t d;
    front = λ d. front_part parts t d;
    second = λ d. second_part parts t d;
    all = λ d. all_parts parts d;
    list = λ d. list_part parts t d;
  }) c (sizes parts) (record {
    items = λ d. item_count parts t d;
    front = λ d. front_count parts t d;
    both = λ d. both_count parts t d;
    all = λ d. all_count parts d;
    list = λ d. list_count parts t d;
  })

  item_count : (ms : Marks) (t : Syntax) (c : ℕ) → count_nodes (item_part ms t c) ≤ 9 * sizes ms + 1
  item_count unmarked t c = none_fits
  item_count (marking m unmarked) t c = first_fits (count_nodes (part_in true m c)) (size m) 0 (part_count true m c)
  item_count (marking m (marking n ns)) t c =
      either_count (nat_lt c (width_of m)) (part_in true m c) (part_in false n (c - width_of m))
      (9 * (size m + (size n + sizes ns)) + 1)
      (first_fits (count_nodes (part_in true m c)) (size m) (size n + sizes ns) (part_count true m c))
      (second_fits (count_nodes (part_in false n (c - width_of m))) (size m) (size n) (sizes ns)
      (part_count false n (c - width_of m)))

  front_count : (ms : Marks) (t : Syntax) (c : ℕ) → count_nodes (front_part ms t c) ≤ 9 * sizes ms + 1
  front_count unmarked t c = none_fits
  front_count (marking m ms) t c =
      first_fits (count_nodes (part_in false m c)) (size m) (sizes ms) (part_count false m c)

  both_count : (ms : Marks) (t : Syntax) (c : ℕ) →
      count_nodes (front_part ms t c) + count_nodes (second_part ms t c) ≤ 9 * sizes ms + 2
  both_count unmarked t c = omega arith
  both_count (marking m unmarked) t c = alone_fits (count_nodes (part_in false m c)) (size m) (part_count false m c)
  both_count (marking m (marking n ns)) t c =
      pair_fits (count_nodes (part_in false m c)) (count_nodes (part_in false n c)) (size m) (size n) (sizes ns)
      (part_count false m c) (part_count false n c)

  all_count : (ms : Marks) (c : ℕ) → count_forest (all_parts ms c) ≤ 9 * sizes ms
  all_count unmarked c = omega arith
  all_count (marking m ms) c =
      sum_fits (count_nodes (part_in false m c)) (count_forest (all_parts ms c)) (size m) (sizes ms)
      (part_count false m c) (all_count ms c)

  list_count : (ms : Marks) (t : Syntax) (c : ℕ) → count_nodes (list_part ms t c) ≤ 9 * sizes ms + 1
  list_count unmarked t c = none_fits
  list_count (marking m ms) t c =
      either_count (is_paren (form_of (tree_at m))) (inside_part m c) (list_part ms t c) (9 * (size m + sizes ms) + 1)
      (first_fits (count_nodes (inside_part m c)) (size m) (sizes ms) (inside_count m c))
      (other_fits (count_nodes (list_part ms t c)) (size m) (sizes ms) (list_count ms t c))

  inside_count : (m : Mark) (c : ℕ) → count_nodes (inside_part m c) ≤ 9 * size m
  inside_count (mark t k parts) c =
      inside_fits (count_nodes (filled_part parts t c)) (sizes parts) (filled_count parts t c)

  filled_count : (ms : Marks) (t : Syntax) (c : ℕ) → count_nodes (filled_part ms t c) ≤ 9 * sizes ms + 1
  filled_count unmarked t c = none_fits
  filled_count (marking m ms) t c =
      first_fits (count_nodes (part_in true m (filled_at (width_of m) c))) (size m) (sizes ms)
      (part_count true m (filled_at (width_of m) c))

-- what is set, too, and 8 nodes where an operator joins it
pub assigned_count : (a : Assigned) (j : ℕ) → count_nodes (assigned_part a j) ≤ 9 * size a.value + 8
assigned_count a j = by a.operator
  where
    plain : (x n : ℕ) → x ≤ 9 * n → x ≤ 9 * n + 8
    plain x n h = omega arith

    behind : (x z n : ℕ) → z ≤ 7 + (1 + x) → x ≤ 9 * n → z ≤ 9 * n + 8
    behind x z n h k = omega arith

    by : (o : Option Bin) → count_nodes (assigned_by o a j) ≤ 9 * size a.value + 8
    by None = plain (count_nodes (part_of a.value j)) (size a.value) (part_count false a.value j)
    by (Some op) =
        let old = helping_component a.target (slice_index a.components j) in
        behind (count_nodes (part_of a.value j))
        (count_nodes (component_joined op a.of a.target old (part_of a.value j))) (size a.value)
        (joined_nodes op a.of a.target old (part_of a.value j)) (part_count false a.value j)
