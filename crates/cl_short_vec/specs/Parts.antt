-- One component of a vector expression, whose leaves are in helping variables, as an expression without vectors.
use Rattle.std.specs.Prelude.{ℕ, ◌+◌, ◌-◌, List, slice_index, nat_eq, nat_lt, Option, None, Some, if◌then◌else◌}
use Rattle.std.specs.Prelude.{Bool, true, false}
use Rattle.wg_num.specs.declared.types.IntType.{IntType}
use Rattle.wg_num.specs.declared.types.Bin.{Bin}
use Rattle.cl_tree.specs.declared.tree.Form.TheVariants as forms
use Rattle.cl_tree.specs.Syntax.{Syntax, Forest, none, more}
use Rattle.cl_meaning.specs.Declarations.{form_of, word_of}
use Rattle.cl_short_vec.specs.declared.nodes.Span.{Span}
use Rattle.cl_short_vec.specs.declared.kinds.Kind.{Kind}
use Rattle.cl_short_vec.specs.declared.made.Made.{Made}
use Rattle.cl_short_vec.specs.declared.made.Made.TheVariants as made
use Rattle.cl_short_vec.specs.Types.{selection_in}
use Rattle.cl_short_vec.specs.Marks.{Mark, mark, Marks, unmarked, marking, tree_at, front_kind}
use Rattle.cl_short_vec.specs.Roles.{is_paren}
use Rattle.cl_short_vec.specs.Faults.{selected_in}
use Rattle.cl_short_vec.specs.Nodes.{span_of, at, variable_at, helper, helping_component, cast_at, signed_at}
use Rattle.cl_short_vec.specs.Nodes.{component_joined}
use Rattle.cl_short_vec.specs.Made.{made_of}
use Rattle.cl_short_vec.specs.Order.{type_in, count_in}

-- how many components an operand gives, or the items of a list together
abbrev pub width_by : Made → Kind → (items : ℕ) → ℕ
width_by made.Items k items = items
width_by how k items = count_in k

unfoldable mutual
  pub width_of : Mark → ℕ
  width_of (mark t k parts) = width_by (made_of true t k) k (item_width parts)

  pub item_width : Marks → ℕ
  item_width unmarked = 0
  item_width (marking m ms) = width_of m + count_in (front_kind ms)

-- the component of its first part that a selection has at that number
abbrev pub chosen_at : Option (List ℕ) → ℕ → ℕ
chosen_at None c = c
chosen_at (Some cs) c = slice_index cs c

abbrev pub selection_by : Option (List ℕ) → Kind → Option (List ℕ)
selection_by None k = None
selection_by (Some name) k = selected_in k name

abbrev pub selected_at : Syntax → Marks → ℕ → ℕ
selected_at t parts c = chosen_at (selection_by (selection_in (word_of t)) (front_kind parts)) c

-- the component of a list of that many that stands at that one
abbrev pub filled_at : (width : ℕ) → ℕ → ℕ
filled_at width c = if nat_eq width 1 then 0 else c

-- a number is in a helping variable without components
abbrev pub number_part : Syntax → Syntax
number_part t = variable_at (helper (span_of t)) (span_of t)

-- what the parts of a node give: those of items, the first one, the second one, all of them, and a list among them
pub record Given : Type 0 where
  pub items : ℕ → Syntax
  pub front : ℕ → Syntax
  pub second : ℕ → Syntax
  pub all : ℕ → Forest
  pub list : ℕ → Syntax

abbrev pub part_by : Made → Syntax → Kind → Marks → Given → ℕ → Syntax
part_by made.Number t k parts g c = number_part t
part_by made.Items t k parts g c = g.items c
part_by made.Inside t k parts g c = g.front c
part_by (made.Signed op) t k parts g c = cast_at (type_in k) (span_of t) (signed_at op (span_of t) (g.front c))
part_by made.Selected t k parts g c = g.front (selected_at t parts c)
part_by (made.Joined op) t k parts g c = component_joined op (type_in k) (span_of t) (g.front c) (g.second c)
part_by made.Called t k parts g c = at forms.CallNode (word_of t) (span_of t) (g.all c)
part_by made.Listed t k parts g c = g.list c
part_by how t k parts g c = helping_component (span_of t) c

unfoldable mutual
  -- that component of an operand, or of the items of a list where `listed` says so
  pub part_in : (listed : Bool) → Mark → ℕ → Syntax
  part_in listed (mark t k parts) c = part_by (made_of listed t k) t k parts (record {
    items = λ d. item_part parts t d;
    front = λ d. front_part parts t d;
    second = λ d. second_part parts t d;
    all = λ d. all_parts parts d;
    list = λ d. list_part parts t d;
  }) c

  -- of items, of which the first may be several
  pub item_part : Marks → Syntax → ℕ → Syntax
  item_part unmarked t c = number_part t
  item_part (marking m unmarked) t c = part_in true m c
  item_part (marking m (marking n ns)) t c =
      if nat_lt c (width_of m) then part_in true m c else part_in false n (c - width_of m)

  pub front_part : Marks → Syntax → ℕ → Syntax
  front_part unmarked t c = number_part t
  front_part (marking m ms) t c = part_in false m c

  pub second_part : Marks → Syntax → ℕ → Syntax
  second_part unmarked t c = number_part t
  second_part (marking m unmarked) t c = number_part t
  second_part (marking m (marking n ns)) t c = part_in false n c

  pub all_parts : Marks → ℕ → Forest
  all_parts unmarked c = none
  all_parts (marking m ms) c = more (part_in false m c) (all_parts ms c)

  -- of the first part that is a list in parentheses
  pub list_part : Marks → Syntax → ℕ → Syntax
  list_part unmarked t c = number_part t
  list_part (marking m ms) t c = if is_paren (form_of (tree_at m)) then inside_part m c else list_part ms t c

  pub inside_part : Mark → ℕ → Syntax
  inside_part (mark t k parts) c = filled_part parts t c

  -- one number alone fills all components
  pub filled_part : Marks → Syntax → ℕ → Syntax
  filled_part unmarked t c = number_part t
  filled_part (marking m ms) t c = part_in true m (filled_at (width_of m) c)

abbrev pub part_of : Mark → ℕ → Syntax
part_of = part_in false

-- ---- what a statement sets

-- a value that is set: behind an operator, the old components of a target are joined with it
pub record Assigned : Type 0 where
  pub operator : Option Bin
  pub of : IntType
  pub target : Span
  pub components : List ℕ
  pub value : Mark

abbrev pub assigned_by : Option Bin → Assigned → ℕ → Syntax
assigned_by None a j = part_of a.value j
assigned_by (Some op) a j = component_joined op a.of a.target
    (helping_component a.target (slice_index a.components j)) (part_of a.value j)

-- the value of that number
abbrev pub assigned_part : Assigned → ℕ → Syntax
assigned_part a j = assigned_by a.operator a j
