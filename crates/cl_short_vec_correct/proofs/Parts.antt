-- Each component of a vector expression is an expression without vectors.
use Rattle.std.proofs.Common.{ℕ, ◌-◌, nat_lt, Option, Some, None, Bool, true, false, if◌then◌else◌}
use Rattle.std.specs.Prelude.{slice_index}
use Rattle.cl_tree.specs.Syntax.{Syntax}
use Rattle.cl_meaning.specs.Declarations.{form_of}
use Rattle.wg_num.specs.declared.types.Bin.{Bin}
use Rattle.cl_check_sound.specs.Shape.{IsExpression, AreExpressions}
use Rattle.cl_short_vec.specs.declared.kinds.Kind.{Kind}
use Rattle.cl_short_vec.specs.declared.made.Made.{Made}
use Rattle.cl_short_vec.specs.declared.made.Made.TheVariants as made
use Rattle.cl_short_vec.specs.Marks.{Mark, mark, Marks, unmarked, marking, tree_at}
use Rattle.cl_short_vec.specs.Roles.{is_paren}
use Rattle.cl_short_vec.specs.Made.{made_of}
use Rattle.cl_short_vec.specs.Order.{type_in}
use Rattle.cl_short_vec.specs.Nodes.{span_of, signed_at, helping_component}
use Rattle.cl_short_vec.specs.Parts.{Given, part_by, part_in, item_part, front_part, second_part, all_parts, list_part}
use Rattle.cl_short_vec.specs.Parts.{inside_part, filled_part, width_of, filled_at, selected_at, part_of, Assigned}
use Rattle.cl_short_vec.specs.Parts.{assigned_by, assigned_part}
use Rattle.cl_short_vec_correct.proofs.Nodes.{cast_is, signed_is, component_is}

-- what the parts of a node give is expressions
record GivenIs (g : Given) : Type 0 where
  items : (c : ℕ) → IsExpression (g.items c)
  front : (c : ℕ) → IsExpression (g.front c)
  second : (c : ℕ) → IsExpression (g.second c)
  all : (c : ℕ) → AreExpressions (g.all c)
  list : (c : ℕ) → IsExpression (g.list c)

by_is : (how : Made) (t : Syntax) (k : Kind) (parts : Marks) (g : Given) (c : ℕ) → GivenIs g →
    IsExpression (part_by how t k parts g c)
by_is made.Number t k parts g c h = tt
by_is made.Items t k parts g c h = h.items c
by_is made.Inside t k parts g c h = h.front c
by_is (made.Signed op) t k parts g c h = cast_is (type_in k) (span_of t) (signed_at op (span_of t) (g.front c))
    (signed_is op (span_of t) (g.front c) (h.front c))
by_is made.Selected t k parts g c h = h.front (selected_at t parts c)
by_is (made.Joined op) t k parts g c h =
    component_is op (type_in k) (span_of t) (g.front c) (g.second c) (h.front c) (h.second c)
by_is made.Called t k parts g c h = h.all c
by_is made.Listed t k parts g c h = h.list c
by_is made.Variable t k parts g c h = tt
by_is made.Element t k parts g c h = tt

either_is : (b : Bool) (s t : Syntax) → IsExpression s → IsExpression t → IsExpression (if b then s else t)
either_is true s t h k = h
either_is false s t h k = k

mutual
  unfolding part_in item_part front_part second_part all_parts list_part inside_part filled_part

  pub part_is : (listed : Bool) (m : Mark) (c : ℕ) → IsExpression (part_in listed m c)
  part_is listed (mark t k parts) c = by_is (made_of listed t k) t k parts (record {
    items = λ d. item_part parts t d;
    front = λ d. front_part parts t d;
    second = λ d. second_part parts t d;
    all = λ d. all_parts parts d;
    list = λ d. list_part parts t d;
  }) c (record {
    items = λ d. item_is parts t d;
    front = λ d. front_is parts t d;
    second = λ d. second_is parts t d;
    all = λ d. all_are parts d;
    list = λ d. list_is parts t d;
  })

  item_is : (ms : Marks) (t : Syntax) (c : ℕ) → IsExpression (item_part ms t c)
  item_is unmarked t c = tt
  item_is (marking m unmarked) t c = part_is true m c
  item_is (marking m (marking n ns)) t c = either_is (nat_lt c (width_of m)) (part_in true m c)
      (part_in false n (c - width_of m)) (part_is true m c) (part_is false n (c - width_of m))

  front_is : (ms : Marks) (t : Syntax) (c : ℕ) → IsExpression (front_part ms t c)
  front_is unmarked t c = tt
  front_is (marking m ms) t c = part_is false m c

  second_is : (ms : Marks) (t : Syntax) (c : ℕ) → IsExpression (second_part ms t c)
  second_is unmarked t c = tt
  second_is (marking m unmarked) t c = tt
  second_is (marking m (marking n ns)) t c = part_is false n c

  all_are : (ms : Marks) (c : ℕ) → AreExpressions (all_parts ms c)
  all_are unmarked c = tt
  all_are (marking m ms) c = (part_is false m c, all_are ms c)

  list_is : (ms : Marks) (t : Syntax) (c : ℕ) → IsExpression (list_part ms t c)
  list_is unmarked t c = tt
  list_is (marking m ms) t c = either_is (is_paren (form_of (tree_at m))) (inside_part m c) (list_part ms t c)
      (inside_is m c) (list_is ms t c)

  inside_is : (m : Mark) (c : ℕ) → IsExpression (inside_part m c)
  inside_is (mark t k parts) c = filled_is parts t c

  filled_is : (ms : Marks) (t : Syntax) (c : ℕ) → IsExpression (filled_part ms t c)
  filled_is unmarked t c = tt
  filled_is (marking m ms) t c = part_is true m (filled_at (width_of m) c)

-- what is set, too
pub assigned_is : (a : Assigned) (j : ℕ) → IsExpression (assigned_part a j)
assigned_is a j = by a.operator
  where
    by : (o : Option Bin) → IsExpression (assigned_by o a j)
    by None = part_is false a.value j
    by (Some op) = component_is op a.of a.target (helping_component a.target (slice_index a.components j))
        (part_of a.value j) tt (part_is false a.value j)
