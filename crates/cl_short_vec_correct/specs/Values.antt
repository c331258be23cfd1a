-- What a vector expression is worth, component by component, from what its leaves are worth: operators and functions
-- on lists (OpenCL 1.2, sections 6.2.6, 6.3, 6.12.3). No variable without vectors is named here.
use Rattle.std.specs.Prelude.{ℕ, ◌-◌, ℤ, pos, neg_ℤ, List, [], ◌∷◌, map, slice_get, unwrap_or}
use Rattle.std.specs.Prelude.{nat_lt, Option, None, Some, if◌then◌else◌, Bool, true, false}
use Rattle.wg_num.specs.declared.types.IntType.{IntType}
use Rattle.wg_num.specs.declared.types.Bin.{Bin}
use Rattle.wg_num.specs.Operators.{unary_of, binary_of}
use Rattle.wg_num.specs.Builtins.{builtin_of}
use Rattle.cl_tree.specs.Syntax.{Syntax}
use Rattle.cl_meaning.specs.Spelling.{name_in, intrinsic_in}
use Rattle.cl_meaning.specs.Declarations.{form_of, word_of}
use Rattle.cl_meaning.specs.Conversions.{is_comparison}
use Rattle.cl_meaning.specs.declared.names.Intrinsic.{Intrinsic}
use Rattle.cl_meaning.specs.declared.names.Intrinsic.TheVariants as intrinsics
use Rattle.cl_short_vec.specs.declared.kinds.Kind.{Kind}
use Rattle.cl_short_vec.specs.declared.made.Made.{Made}
use Rattle.cl_short_vec.specs.declared.made.Made.TheVariants as made
use Rattle.cl_short_vec.specs.Types.{numbers}
use Rattle.cl_short_vec.specs.Marks.{Mark, mark, Marks, unmarked, marking, tree_at, vector_among}
use Rattle.cl_short_vec.specs.Roles.{is_paren}
use Rattle.cl_short_vec.specs.Made.{made_of}
use Rattle.cl_short_vec.specs.Nodes.{span_of}
use Rattle.cl_short_vec.specs.Order.{type_in}
use Rattle.cl_short_vec.specs.Parts.{width_of, selected_at, filled_at, Assigned}

-- The values of leaves, by their first tokens: a number has one, a variable or an element one for each component.
pub record Leaves : Type 0 where
  pub number : (token : ℕ) → ℤ
  pub component : (token component : ℕ) → ℤ

-- the value of each component, by its number; a number is worth the same at each
abbrev pub Worth : Type 0
Worth = ℕ → ℤ

-- ---- one component

-- An operator on two components: a comparison gives 0 and -1.
abbrev pub joined_value : Bin → IntType → ℤ → ℤ → ℤ
joined_value op t a b = if is_comparison op then neg_ℤ (binary_of op t a b) else binary_of op t a b

-- an argument by its number
abbrev pub nth : List ℤ → ℕ → ℤ
nth vs k = unwrap_or (slice_get vs k) (pos 0)

abbrev pub called_value : Option Intrinsic → IntType → List ℤ → ℤ
called_value (Some (intrinsics.Function f)) t vs = builtin_of f t (nth vs 0) (nth vs 1) (nth vs 2)
called_value i t vs = pos 0

-- ---- expressions

-- what the parts of a node are worth: those of items, the first one, the second one, all of them, and a list among them
pub record Given : Type 0 where
  pub items : Worth
  pub front : Worth
  pub second : Worth
  pub all : ℕ → List ℤ
  pub list : Worth

-- of a node that is made so
abbrev pub worth_by : Leaves → Made → Syntax → Kind → Marks → Given → Worth
worth_by leaves made.Number t k parts g c = leaves.number (span_of t).first
worth_by leaves made.Items t k parts g c = g.items c
worth_by leaves made.Inside t k parts g c = g.front c
worth_by leaves (made.Signed op) t k parts g c = unary_of op (type_in k) (g.front c)
worth_by leaves made.Selected t k parts g c = g.front (selected_at t parts c)
worth_by leaves (made.Joined op) t k parts g c =
    joined_value op (type_in (vector_among parts)) (g.front c) (g.second c)
worth_by leaves made.Called t k parts g c =
    called_value (intrinsic_in (name_in (word_of t))) (type_in (vector_among parts)) (g.all c)
worth_by leaves made.Listed t k parts g c = g.list c
worth_by leaves how t k parts g c = leaves.component (span_of t).first c

unfoldable mutual
  -- what each component of an operand is worth, or of the items of a list where `listed` says so
  pub worth_in : Leaves → (listed : Bool) → Mark → Worth
  worth_in leaves listed (mark t k parts) c =
      worth_by leaves (made_of listed t k) t k parts (record {
        items = λ d. items_worth leaves parts d;
        front = λ d. front_worth leaves parts d;
        second = λ d. second_worth leaves parts d;
        all = λ d. all_worth leaves parts d;
        list = λ d. list_worth leaves parts d;
      }) c

  -- of items, of which the first may be several
  pub items_worth : Leaves → Marks → Worth
  items_worth leaves unmarked c = pos 0
  items_worth leaves (marking m unmarked) c = worth_in leaves true m c
  items_worth leaves (marking m (marking n ns)) c =
      if nat_lt c (width_of m) then worth_in leaves true m c else worth_in leaves false n (c - width_of m)

  pub front_worth : Leaves → Marks → Worth
  front_worth leaves unmarked c = pos 0
  front_worth leaves (marking m ms) c = worth_in leaves false m c

  pub second_worth : Leaves → Marks → Worth
  second_worth leaves unmarked c = pos 0
  second_worth leaves (marking m unmarked) c = pos 0
  second_worth leaves (marking m (marking n ns)) c = worth_in leaves false n c

  pub all_worth : Leaves → Marks → ℕ → List ℤ
  all_worth leaves unmarked c = []
  all_worth leaves (marking m ms) c = worth_in leaves false m c ∷ all_worth leaves ms c

  -- of the first part that is a list in parentheses
  pub list_worth : Leaves → Marks → Worth
  list_worth leaves unmarked c = pos 0
  list_worth leaves (marking m ms) c =
      if is_paren (form_of (tree_at m)) then inside_worth leaves m c else list_worth leaves ms c

  pub inside_worth : Leaves → Mark → Worth
  inside_worth leaves (mark t k parts) c = filled_worth leaves parts c

  -- one number alone fills all components
  pub filled_worth : Leaves → Marks → Worth
  filled_worth leaves unmarked c = pos 0
  filled_worth leaves (marking m ms) c = worth_in leaves true m (filled_at (width_of m) c)

abbrev pub worth_of : Leaves → Mark → Worth
worth_of leaves = worth_in leaves false

-- the values of a vector expression of that many components
abbrev pub Vec : Leaves → ℕ → Mark → List ℤ
Vec leaves n m = map (worth_of leaves m) (numbers 0 1 n)

-- ---- what a statement sets

-- an operator on the components of two vectors, one by one
abbrev pub joined_list : Bin → IntType → List ℤ → List ℤ → List ℤ
joined_list op of (u ∷ us) (v ∷ vs) = joined_value op of u v ∷ joined_list op of us vs
joined_list op of us vs = []

-- the old components of the target, which are those of a leaf
abbrev pub old_list : Assigned → Leaves → List ℤ
old_list a leaves = map (leaves.component a.target.first) a.components

-- the components that a statement sets, in order: those of its value, with which behind an operator the old ones are
-- joined
abbrev pub set_list_by : Option Bin → ℕ → Assigned → Leaves → List ℤ
set_list_by None n a leaves = Vec leaves n a.value
set_list_by (Some op) n a leaves = joined_list op a.of (old_list a leaves) (Vec leaves n a.value)

abbrev pub set_list : ℕ → Assigned → Leaves → List ℤ
set_list n a leaves = set_list_by a.operator n a leaves
