-- What a node stands for, whole; and the productions by what makes them.
use Rattle.std.specs.Prelude.{Bool, true, false, ◌||◌, List}
use Rattle.wg_num.specs.declared.types.Place.{Place}
use Rattle.cl_tree.specs.declared.tree.Form.{Form}
use Rattle.cl_tree.specs.declared.tree.Form.TheVariants as forms
use Rattle.cl_tree.specs.Syntax.{Syntax, node, view, first_of}
use Rattle.cl_meaning.specs.Environment.{Env, place_of}
use Rattle.cl_meaning.specs.Declarations.{form_of}
use Rattle.cl_meaning.specs.Typed.{Piece, Built}
use Rattle.cl_meaning.specs.Meant.{make}
use Rattle.cl_scope.specs.View.{env_of}
use Rattle.cl_fragment.specs.declared.make.Node as rust

-- what a tree is made into, where env is visible at it behind its parts and inner at the end of them, from what its
-- parts stand for, behind which the sites are these
abbrev pub make_at : Env → Env → Syntax → List Place → List Piece → Built
make_at env inner (node form w f l parts) sites ps = make env inner form w f parts sites ps

-- the production of a node
abbrev pub form_at : rust.Node → Form
form_at n = form_of (view n.tree.now)

-- the place of the first token of a node
abbrev pub first_place : rust.Node → Place
first_place n = place_of (env_of n.places.now n.environment.now) (first_of (view n.tree.now))

-- what a node is made into
abbrev pub made_at : rust.Node → Env → List Place → List Piece → Built
made_at n inner sites ps = make_at (env_of n.places.now n.environment.now) inner (view n.tree.now) sites ps

-- an expression with no operator
abbrev pub is_primary : Form → Bool
is_primary forms.NumberNode = true
is_primary forms.TruthNode = true
is_primary forms.VariableNode = true
is_primary forms.ParenNode = true
is_primary forms.CallNode = true
is_primary forms.ListNode = true
is_primary form = false

-- an expression with an operator on two operands or three
abbrev pub is_joined : Form → Bool
is_joined forms.ExprNode = true
is_joined forms.AssignNode = true
is_joined forms.CondNode = true
is_joined forms.OrNode = true
is_joined forms.AndNode = true
is_joined forms.BorNode = true
is_joined forms.BxorNode = true
is_joined forms.BandNode = true
is_joined forms.EqualNode = true
is_joined forms.OrderNode = true
is_joined forms.ShiftNode = true
is_joined forms.SumNode = true
is_joined forms.TermNode = true
is_joined form = false

-- an expression with an operator in front of its operand or behind it
abbrev pub is_fixed : Form → Bool
is_fixed forms.CastNode = true
is_fixed forms.UnaryNode = true
is_fixed forms.PostfixNode = true
is_fixed form = false

-- an expression
abbrev pub is_expression : Form → Bool
is_expression form = is_primary form || (is_joined form || is_fixed form)

-- a declaration, or a statement that stands for its parts in order
abbrev pub is_line : Form → Bool
is_line forms.DeclaratorNode = true
is_line forms.DeclareNode = true
is_line forms.SimpleNode = true
is_line forms.BlockNode = true
is_line form = false

-- a statement that tests
abbrev pub is_test : Form → Bool
is_test forms.IfNode = true
is_test forms.WhileNode = true
is_test forms.DoNode = true
is_test forms.ForNode = true
is_test forms.SwitchNode = true
is_test form = false

-- a label or an exit
abbrev pub is_jump : Form → Bool
is_jump forms.CaseNode = true
is_jump forms.DefaultNode = true
is_jump forms.BreakNode = true
is_jump forms.ContinueNode = true
is_jump forms.ReturnNode = true
is_jump form = false
