-- The unit without vectors that stands for a unit with vectors: a vector statement becomes a line for each of its
-- steps, and a vector variable one variable for each component.
use Rattle.std.specs.Prelude.{ℕ, ◌∷◌, List, [], codes, nat_eq, Option, None, Some, if◌then◌else◌}
use Rattle.std.specs.Prelude.{Bool, true, false}
use Rattle.wg_num.specs.declared.types.IntType.{IntType}
use Rattle.wg_num.specs.declared.types.IntType.TheVariants as types
use Rattle.wg_num.specs.declared.types.Bin.{Bin}
use Rattle.wg_num.specs.declared.types.Bin.TheVariants as bins
use Rattle.cl_tree.specs.declared.tree.Form.{Form}
use Rattle.cl_tree.specs.declared.tree.Form.TheVariants as forms
use Rattle.cl_tree.specs.Syntax.{Syntax, node, Forest, none, more, joined}
use Rattle.cl_tree.specs.Nodes.{forest1, forest2, forest3}
use Rattle.cl_meaning.specs.Spelling.{name_in, setting_in, dimensions_in, is_set}
use Rattle.cl_meaning.specs.Declarations.{form_of, word_of, name_token}
use Rattle.cl_short_vec.specs.declared.nodes.Span.{Span}
use Rattle.cl_short_vec.specs.declared.types.Vector.{Vector}
use Rattle.cl_short_vec.specs.declared.kinds.Reach.TheVariants.{Element}
use Rattle.cl_short_vec.specs.declared.kinds.Kind.{Kind}
use Rattle.cl_short_vec.specs.declared.kinds.Kind.TheVariants.{Vectors}
use Rattle.cl_short_vec.specs.Types.{numbers, vector_type}
use Rattle.cl_short_vec.specs.Kinds.{no_names, is_vector}
use Rattle.cl_short_vec.specs.Plain.{has_vectors}
use Rattle.cl_short_vec.specs.Marks.{Mark, mark, Marks, unmarked, marking, tree_at, kind_at, back, marked}
use Rattle.cl_short_vec.specs.Faults.{components_of}
use Rattle.cl_short_vec.specs.Order.{Named, Step, Offset, Number, Copy, Load, Set, Store, type_in, under, operator_in}
use Rattle.cl_short_vec.specs.Order.{setting_steps, initial_steps}
use Rattle.cl_short_vec.specs.Parts.{Assigned, assigned_part}
use Rattle.cl_short_vec.specs.Nodes.{span_of, at, with_parts, variable_at, long_at, int_at, paren_at, typed_at}
use Rattle.cl_short_vec.specs.Nodes.{spaced_at}
use Rattle.cl_short_vec.specs.Nodes.{element_at, joined_at, statement_at, declared_at, star_at, component_name, helper}
use Rattle.cl_short_vec.specs.Scalar.{scalar, scalars}

-- ---- lines

-- the type of what an element is
abbrev pub pointed_at : Kind → Span → Syntax
pointed_at (Vectors v (Element space constant)) s = spaced_at space constant v.of s
pointed_at k s = typed_at types.Int s

-- the pointer to the first component of an element
abbrev pub address_at : Mark → Syntax
address_at m = at forms.UnaryNode (codes "&") (span_of (tree_at m)) (forest1 (scalar m))

abbrev pub offset_line : Mark → Syntax
offset_line m = declared_at (span_of (tree_at m)) (pointed_at (kind_at m) (span_of (tree_at m)))
    (helper (span_of (tree_at m))) (forest2 (star_at (span_of (tree_at m))) (address_at m))

-- a helping variable is a number, a component of a variable, or one of an element whose pointer is a helping variable
abbrev pub number_line : IntType → Mark → Syntax
number_line of m = declared_at (span_of (tree_at m)) (typed_at of (span_of (tree_at m))) (helper (span_of (tree_at m)))
    (forest1 (scalar m))

abbrev pub copy_line : IntType → Named → ℕ → Syntax
copy_line of x c = declared_at x.span (typed_at of x.span) (component_name (helper x.span) c)
    (forest1 (variable_at (component_name x.name c) x.span))

abbrev pub helped_element : Span → ℕ → Syntax
helped_element s c = element_at s (variable_at (helper s) s) (long_at c s)

abbrev pub load_line : Mark → ℕ → Syntax
load_line m c = declared_at (span_of (tree_at m)) (typed_at (type_in (kind_at m)) (span_of (tree_at m)))
    (component_name (helper (span_of (tree_at m))) c) (forest1 (helped_element (span_of (tree_at m)) c))

-- a component of a variable is set, or declared behind a type
abbrev pub set_line : (type : Option Mark) → Named → ℕ → (value : Syntax) → Syntax
set_line None x c value = statement_at x.span (variable_at (component_name x.name c) x.span) value
set_line (Some type) x c value = declared_at x.span (scalar type) (component_name x.name c) (forest1 value)

-- a component of an element is set
abbrev pub store_line : Mark → ℕ → (value : Syntax) → Syntax
store_line m c value = statement_at (span_of (tree_at m)) (helped_element (span_of (tree_at m)) c) value

-- the line of a step, where `type` is that behind which components are declared
abbrev pub line_of : (type : Option Mark) → Assigned → Step → Syntax
line_of type a (Offset m) = offset_line m
line_of type a (Number of m) = number_line of m
line_of type a (Copy of x c) = copy_line of x c
line_of type a (Load m c) = load_line m c
line_of type a (Set x c j) = set_line type x c (assigned_part a j)
line_of type a (Store m c j) = store_line m c (assigned_part a j)

abbrev pub lines_of : (type : Option Mark) → Assigned → List Step → Forest
lines_of type a [] = none
lines_of type a (s ∷ ss) = more (line_of type a s) (lines_of type a ss)

-- ---- statements

-- an assignment to a vector, as a block
abbrev pub assigned_of : Option Bin → (target value : Mark) → Assigned
assigned_of o target value = record {
  operator = o;
  of = type_in (kind_at target);
  target = span_of (tree_at (under target));
  components = components_of target;
  value = value;
}

abbrev pub set_block : Span → Option Bin → (target value : Mark) → Syntax
set_block s o target value = at forms.BlockNode (codes "{ }") s
    (lines_of None (assigned_of o target value) (setting_steps o target value))

-- an expression that is the whole of a statement, and else the statement without vectors
abbrev pub whole_by : Form → Span → Mark → (plain : Syntax) → Syntax
whole_by forms.AssignNode s (mark t k (marking a (marking b unmarked))) plain =
    if is_vector (kind_at a) then set_block s (operator_in (setting_in (word_of t))) a b else plain
whole_by form s m plain = plain

abbrev pub simple_at : Syntax → Marks → (plain : Syntax) → Syntax
simple_at t (marking m unmarked) plain = whole_by (form_of (tree_at m)) (span_of t) m plain
simple_at t parts plain = plain

abbrev pub simple_of : Mark → Syntax
simple_of (mark t k parts) = simple_at t parts (scalar (mark t k parts))

-- ---- declarations

-- the token of a declarator's name
abbrev pub name_span : Syntax → Span
name_span (node form w f l parts) = record { first = name_token f parts; last = name_token f parts }

-- the variable of a declarator
abbrev pub declared_name : Syntax → Named
declared_name d = record { name = name_in (word_of d); span = name_span d }

-- the components of a variable without an initialiser
abbrev pub component_declarator : Named → ℕ → Syntax
component_declarator x c = at forms.DeclaratorNode (component_name x.name c) x.span none

abbrev pub component_declarators : Named → List ℕ → Forest
component_declarators x [] = none
component_declarators x (c ∷ cs) = more (component_declarator x c) (component_declarators x cs)

-- an operator between a length and a number
abbrev pub beside : Bin → Span → Syntax → ℕ → Syntax
beside op s e n = joined_at op s (paren_at s e) (int_at n s)

-- as many elements as the vectors of an array have components together, and no length where their number is none
abbrev pub test_at : Span → Syntax → Syntax
test_at s e = at forms.AndNode (codes "&&") s (forest2 (beside bins.Gt s e 0) (beside bins.Lt s e 1048577))

abbrev pub length_at : Vector → Syntax → Syntax
length_at v e = at forms.CondNode (codes "? :") (span_of e)
    (forest3 (test_at (span_of e) e) (beside bins.Mul (span_of e) e v.count) (int_at 0 (span_of e)))

-- whether a part of an array's declarator is a length: no star and no initialiser
abbrev pub is_length_form : Form → Bool
is_length_form forms.StarNode = false
is_length_form forms.ListNode = false
is_length_form form = true

abbrev pub length_or_part : Vector → Mark → Syntax
length_or_part v m = if is_length_form (form_of (tree_at m)) then length_at v (scalar m) else scalar m

abbrev pub lengths_at : Vector → Marks → Forest
lengths_at v unmarked = none
lengths_at v (marking m ms) = more (length_or_part v m) (lengths_at v ms)

-- what stands for a declarator behind a vector type: its components, or the array of their elements
abbrev pub declarators_by : Vector → Syntax → Marks → Forest
declarators_by v d parts = if nat_eq (dimensions_in (word_of d)) 0 then
    component_declarators (declared_name d) (numbers 0 1 v.count) else
    forest1 (at forms.DeclaratorNode (word_of d) (span_of d) (lengths_at v parts))

abbrev pub declarators_of : Vector → Mark → Forest
declarators_of v (mark d k parts) = declarators_by v d parts

abbrev pub all_declarators : Vector → Marks → Forest
all_declarators v unmarked = none
all_declarators v (marking m ms) = joined (declarators_of v m) (all_declarators v ms)

-- a declaration in one node, as in the unit and in the head of a `for`
abbrev pub declaration_by : Option Vector → Mark → Marks → Forest
declaration_by None type ms = scalars (marking type ms)
declaration_by (Some v) type ms = more (scalar type) (all_declarators v ms)

abbrev pub declaration : Marks → Forest
declaration unmarked = none
declaration (marking type ms) = declaration_by (vector_type (tree_at type)) type ms

-- the initialiser of a declarator
abbrev pub initialiser_by : (set : Bool) → Option Mark → Option Mark
initialiser_by true last = last
initialiser_by false last = None

abbrev pub initialiser : Mark → Option Mark
initialiser (mark d k parts) = initialiser_by (is_set (word_of d)) (back parts)

-- a declarator behind a vector type, in lines of its own
abbrev pub declarator_lines : Vector → (type declarator : Mark) → (initialiser : Option Mark) → Forest
declarator_lines v type d None = forest1 (at forms.DeclareNode (codes ";") (span_of (tree_at d))
    (more (scalar type) (declarators_of v d)))
declarator_lines v type d (Some e) =
    lines_of (Some type) (record {
      operator = None;
      of = v.of;
      target = name_span (tree_at d);
      components = [];
      value = e;
    }) (initial_steps v (declared_name (tree_at d)) e)

abbrev pub vector_lines : Vector → (type : Mark) → Marks → Forest
vector_lines v type unmarked = none
vector_lines v type (marking m ms) = joined (declarator_lines v type m (initialiser m)) (vector_lines v type ms)

-- a declaration in a block: of vectors, the lines of each declarator
abbrev pub lines_by : Option Vector → Syntax → (type : Mark) → Marks → Forest
lines_by None t type ms = forest1 (with_parts t (scalars (marking type ms)))
lines_by (Some v) t type ms = vector_lines v type ms

abbrev pub declaration_lines : Mark → Forest
declaration_lines (mark t k unmarked) = forest1 (with_parts t none)
declaration_lines (mark t k (marking type ms)) = lines_by (vector_type (tree_at type)) t type ms

-- ---- the unit

-- a node, where its parts without vectors are these: as statements, as the lines of a block, and as those of a `for`
abbrev pub rebuilt : Form → Syntax → Marks → (parts lines looped : Forest) → (expression : Syntax) → Syntax
rebuilt forms.UnitNode t ms parts lines looped e = with_parts t parts
rebuilt forms.FunctionNode t ms parts lines looped e = with_parts t parts
rebuilt forms.BlockNode t ms parts lines looped e = with_parts t lines
rebuilt forms.IfNode t ms parts lines looped e = with_parts t parts
rebuilt forms.WhileNode t ms parts lines looped e = with_parts t parts
rebuilt forms.DoNode t ms parts lines looped e = with_parts t parts
rebuilt forms.ForNode t ms parts lines looped e = with_parts t looped
rebuilt forms.SwitchNode t ms parts lines looped e = with_parts t parts
rebuilt forms.CaseNode t ms parts lines looped e = with_parts t parts
rebuilt forms.DefaultNode t ms parts lines looped e = with_parts t parts
rebuilt forms.SimpleNode t ms parts lines looped e = simple_at t ms e
rebuilt forms.DeclareNode t ms parts lines looped e = with_parts t (declaration ms)
rebuilt form t ms parts lines looped e = e

abbrev pub is_declaration : Mark → Bool
is_declaration m = is_declare (form_of (tree_at m))
  where
    is_declare : Form → Bool
    is_declare forms.DeclareNode = true
    is_declare form = false

-- the lines of a line of a block: a declaration becomes several
abbrev pub block_line : Mark → (statement : Syntax) → Forest
block_line m statement = if is_declaration m then declaration_lines m else forest1 statement

unfoldable mutual
  -- a unit, a function, a statement or a declaration without vectors
  pub scalarised : Mark → Syntax
  scalarised (mark t k parts) = rebuilt (form_of t) t parts (all_scalarised parts) (block_lines parts)
      (loop_parts parts) (scalar (mark t k parts))

  pub all_scalarised : Marks → Forest
  all_scalarised unmarked = none
  all_scalarised (marking m ms) = more (scalarised m) (all_scalarised ms)

  pub block_lines : Marks → Forest
  block_lines unmarked = none
  block_lines (marking m ms) = joined (block_line m (scalarised m)) (block_lines ms)

  -- in the head of a `for` no statement is a vector's
  pub loop_parts : Marks → Forest
  loop_parts unmarked = none
  loop_parts (marking m ms) = more (if is_declaration m then scalarised m else scalar m) (all_scalarised ms)

-- The unit without vectors: itself, where it names no vector type and selects nothing.
abbrev pub scalarised_of : Syntax → Syntax
scalarised_of unit = if has_vectors unit then scalarised (marked no_names unit) else unit
