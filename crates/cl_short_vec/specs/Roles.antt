-- Where the nodes of a unit stand: whether a vector may stand there.
use Rattle.std.specs.Prelude.{ℕ, List, Option, None, Some}
use Rattle.std.specs.Prelude.{Bool, true, false, not, ◌&&◌, if◌then◌else◌}
use Rattle.cl_model.specs.declared.program.Space.{Space}
use Rattle.cl_tree.specs.declared.tree.Form.{Form}
use Rattle.cl_tree.specs.declared.tree.Form.TheVariants as forms
use Rattle.cl_meaning.specs.Spelling.{prefix_in, is_set}
use Rattle.cl_meaning.specs.declared.operators.Prefix.{Prefix}
use Rattle.cl_meaning.specs.declared.operators.Prefix.TheVariants as prefixes
use Rattle.cl_meaning.specs.Types.{space_among}
use Rattle.cl_meaning.specs.Declarations.{form_of, word_of, parts_of}
use Rattle.cl_meaning.specs.Kinds.{is_some}
use Rattle.cl_short_vec.specs.declared.kinds.Reach.TheVariants.{Value, Element}
use Rattle.cl_short_vec.specs.declared.kinds.Kind.{Kind}
use Rattle.cl_short_vec.specs.declared.kinds.Kind.TheVariants.{Vectors}
use Rattle.cl_short_vec.specs.declared.roles.Around.{Around}
use Rattle.cl_short_vec.specs.declared.roles.Around.TheVariants as around
use Rattle.cl_short_vec.specs.declared.roles.Declaration.{Declaration}
use Rattle.cl_short_vec.specs.declared.roles.Role.{Role}
use Rattle.cl_short_vec.specs.declared.roles.Role.TheVariants.{Free, Used, Target, Base, Whole, Listed, Items, Head}
use Rattle.cl_short_vec.specs.declared.roles.Role.TheVariants.{Barred, Outer, Typed, Declared}
use Rattle.cl_short_vec.specs.Types.{selection_in}
use Rattle.cl_short_vec.specs.Kinds.{is_vector, is_variable}
use Rattle.cl_short_vec.specs.Marks.{Mark, mark, Marks, unmarked, marking, tree_at, back, front_kind}
use Rattle.cl_short_vec.specs.Marks.{front_type}

-- ---- places

-- whether a vector is a place: a variable, an element or selected components of one
abbrev pub is_place : Kind → Bool
is_place (Vectors v Value) = false
is_place (Vectors v r) = true
is_place k = false

abbrev pub is_element_kind : Kind → Bool
is_element_kind (Vectors v (Element s c)) = true
is_element_kind k = false

abbrev pub element_by : Form → (selection : Option (List ℕ)) → Kind → (inner : Bool) → Bool
element_by forms.ParenNode s k inner = inner
element_by forms.PostfixNode (Some name) k inner = false
element_by form s k inner = is_element_kind k

-- whether it is an element, parentheses aside, and no selection of one
unfoldable pub is_element : Mark → Bool
is_element (mark t k unmarked) = false
is_element (mark t k (marking a others)) = element_by (form_of t) (selection_in (word_of t)) k (is_element a)

-- ---- the role of a part

-- the whole expression of a statement, which is not the first part of a `for`
abbrev pub whole_of : Role → Role
whole_of Head = Free
whole_of role = Whole

abbrev pub used_in : Kind → Role
used_in k = if is_vector k then Used else Free

-- parentheses around a list, around a place that is assigned to, and others
abbrev pub paren_role : Role → Kind → Role
paren_role Listed k = Items
paren_role Target k = if is_place k then Target else Used
paren_role role k = used_in k

-- a selection of several components takes any vector, that of one takes a place
abbrev pub selected_role : Option (List ℕ) → Kind → Role
selected_role None k = Free
selected_role (Some name) k = if is_vector k then Used else Base

abbrev pub operand_role : Option Prefix → Kind → Mark → Role
operand_role (Some prefixes.Address) k p = if is_element p then Used else Free
operand_role (Some (prefixes.Operator op)) k p = used_in k
operand_role o k p = Free

abbrev pub form_or_unit : Option Mark → Form
form_or_unit None = forms.UnitNode
form_or_unit (Some m) = form_of (tree_at m)

-- the production of the last part
abbrev pub back_form : Marks → Form
back_form ms = form_or_unit (back ms)

abbrev pub is_paren : Form → Bool
is_paren forms.ParenNode = true
is_paren form = false

-- a vector type in parentheses with a list of components behind it
abbrev pub is_list_cast : Marks → Bool
is_list_cast parts = is_some (front_type parts) && is_paren (back_form parts)

abbrev pub item_role : Role → (front : Bool) → Role
item_role Items true = Items
item_role Items false = Used
item_role role front = Free

-- whether the node is the assignment of a statement, to a vector
abbrev pub sets_vector : Role → (target : Kind) → Bool
sets_vector Whole k = is_vector k
sets_vector role k = false

abbrev pub around_of : Role → Around
around_of Head = around.Head
around_of Outer = around.Unit
around_of role = around.Block

abbrev pub front_space : Marks → Option Space
front_space unmarked = None
front_space (marking m ms) = space_among (parts_of (tree_at m))

abbrev pub declaration_of : Role → Marks → Declaration
declaration_of role parts =
    record { around = around_of role; vector = front_type parts; space = front_space parts }

-- the initialiser of a vector variable: in a block it may be a vector, in the head of a `for` it may not
abbrev pub initial_at : Around → Role
initial_at around.Block = Used
initial_at around.Head = Barred
initial_at around.Unit = Free

abbrev pub initial_role : Role → (variable : Bool) → Role
initial_role (Declared d) variable = if variable && is_some d.vector then initial_at d.around else Free
initial_role role variable = Free

-- the role of a part, where `front` says that it is the first and `back` that it is the last
unfoldable pub role_of : Role → Mark → (front back : Bool) → Mark → Role
role_of role (mark t k parts) front back p = by_form (form_of t)
  where
    by_form : Form → Role
    by_form forms.UnitNode = Outer
    by_form forms.ForNode = if front then Head else Free
    by_form forms.SimpleNode = whole_of role
    by_form forms.DeclareNode = if front then Typed else Declared (declaration_of role parts)
    by_form forms.DeclaratorNode =
        if back && is_set (word_of t) then initial_role role (is_variable (word_of t) (parts_of t)) else Free
    by_form forms.ParamNode = if front && not back then Typed else Free
    by_form forms.ParenNode = paren_role role k
    by_form forms.PostfixNode = selected_role (selection_in (word_of t)) k
    by_form forms.UnaryNode = operand_role (prefix_in (word_of t)) k p
    by_form forms.CastNode = if is_list_cast parts then (if front then Typed else Listed) else Free
    by_form forms.ExprNode = item_role role front
    by_form forms.AssignNode = if sets_vector role (front_kind parts) then (if front then Target else Used) else Free
    by_form form = used_in k
