-- New nodes and names. A node that is new has the first and the last token of what it stands for.
use Rattle.std.specs.Prelude.{ℕ, ◌-◌, List, ◌++◌, codes, decimal, Bool, true, false, if◌then◌else◌}
use Rattle.wg_num.specs.declared.types.IntType.{IntType}
use Rattle.wg_num.specs.declared.types.IntType.TheVariants as types
use Rattle.wg_num.specs.declared.types.Bin.{Bin}
use Rattle.wg_num.specs.declared.types.Bin.TheVariants as bins
use Rattle.wg_num.specs.declared.types.Un.{Un}
use Rattle.wg_num.specs.declared.types.Un.TheVariants as uns
use Rattle.wg_num.specs.Operators.{is_shift}
use Rattle.wg_num.specs.Wrap.{width_bits}
use Rattle.cl_model.specs.declared.program.Space.{Space}
use Rattle.cl_model.specs.declared.program.Space.TheVariants as spaces
use Rattle.cl_tree.specs.declared.tree.Form.{Form}
use Rattle.cl_tree.specs.declared.tree.Form.TheVariants as forms
use Rattle.cl_tree.specs.Syntax.{Syntax, node, Forest, none}
use Rattle.cl_tree.specs.Nodes.{forest1, forest2}
use Rattle.cl_meaning.specs.Conversions.{is_comparison}
use Rattle.cl_short_vec.specs.declared.nodes.Span.{Span}
use Rattle.cl_short_vec.specs.declared.types.Vector.{Vector}

-- ---- nodes

-- the first and the last token
abbrev pub span_of : Syntax → Span
span_of (node form w f l parts) = record { first = f; last = l }

abbrev pub at : Form → List ℕ → Span → Forest → Syntax
at form w s parts = node form w s.first s.last parts

-- the node with other parts
abbrev pub with_parts : Syntax → Forest → Syntax
with_parts (node form w f l ps) parts = node form w f l parts

abbrev pub variable_at : List ℕ → Span → Syntax
variable_at name s = at forms.VariableNode name s none

-- a number of type long, and one of type int
abbrev pub long_at : ℕ → Span → Syntax
long_at n s = at forms.NumberNode (decimal n ++ codes "L") s none

abbrev pub int_at : ℕ → Span → Syntax
int_at n s = at forms.NumberNode (decimal n) s none

abbrev pub paren_at : Span → Syntax → Syntax
paren_at s t = at forms.ParenNode (codes "( )") s (forest1 t)

-- ---- types

abbrev pub type_word : IntType → List ℕ
type_word types.Bool = codes "bool"
type_word types.Char = codes "char"
type_word types.Uchar = codes "uchar"
type_word types.Short = codes "short"
type_word types.Ushort = codes "ushort"
type_word types.Int = codes "int"
type_word types.Uint = codes "uint"
type_word types.Long = codes "long"
type_word types.Ulong = codes "ulong"

abbrev pub constant_word : (constant : Bool) → IntType → List ℕ
constant_word true of = codes "const " ++ type_word of
constant_word false of = type_word of

abbrev pub typed_at : IntType → Span → Syntax
typed_at of s = at forms.TypeNode (type_word of) s none

abbrev pub space_word : Space → List ℕ
space_word spaces.Global = codes "__global"
space_word spaces.Constant = codes "__constant"
space_word spaces.Local = codes "__local"
space_word spaces.Private = codes "__private"

-- a type in a space
abbrev pub spaced_at : Space → (constant : Bool) → IntType → Span → Syntax
spaced_at space constant of s = at forms.TypeNode (constant_word constant of) s
    (forest1 (at forms.SpaceNode (space_word space) s none))

abbrev pub cast_at : IntType → Span → Syntax → Syntax
cast_at of s t = at forms.CastNode (codes "( )") s (forest2 (typed_at of s) (paren_at s t))

-- ---- operators

-- the production and the word of an operator on two operands
abbrev pub operator_form : Bin → Form
operator_form bins.Mul = forms.TermNode
operator_form bins.Div = forms.TermNode
operator_form bins.Rem = forms.TermNode
operator_form bins.Add = forms.SumNode
operator_form bins.Sub = forms.SumNode
operator_form bins.Shl = forms.ShiftNode
operator_form bins.Shr = forms.ShiftNode
operator_form bins.And = forms.BandNode
operator_form bins.Xor = forms.BxorNode
operator_form bins.Or = forms.BorNode
operator_form bins.Eq = forms.EqualNode
operator_form bins.Ne = forms.EqualNode
operator_form op = forms.OrderNode

abbrev pub operator_word : Bin → List ℕ
operator_word bins.Mul = codes "*"
operator_word bins.Div = codes "/"
operator_word bins.Rem = codes "%"
operator_word bins.Add = codes "+"
operator_word bins.Sub = codes "-"
operator_word bins.Shl = codes "<<"
operator_word bins.Shr = codes ">>"
operator_word bins.And = codes "&"
operator_word bins.Xor = codes "^"
operator_word bins.Or = codes "|"
operator_word bins.Eq = codes "=="
operator_word bins.Ne = codes "!="
operator_word bins.Lt = codes "<"
operator_word bins.Le = codes "<="
operator_word bins.Gt = codes ">"
operator_word bins.Ge = codes ">="

abbrev pub sign_word : Un → List ℕ
sign_word uns.Plus = codes "+"
sign_word uns.Minus = codes "-"
sign_word uns.Flip = codes "~"
sign_word uns.Not = codes "!"

abbrev pub joined_at : Bin → Span → Syntax → Syntax → Syntax
joined_at op s a b = at (operator_form op) (operator_word op) s (forest2 a b)

abbrev pub signed_at : Un → Span → Syntax → Syntax
signed_at op s a = at forms.UnaryNode (sign_word op) s (forest1 a)

-- the low bits of an amount, as many as the type asks
abbrev pub amount_at : IntType → Span → Syntax → Syntax
amount_at of s b = paren_at s (joined_at bins.And s b (int_at (width_bits of - 1) s))

-- an operator on two components, in the type of its result: a comparison gives 0 or -1
abbrev pub component_joined : Bin → IntType → Span → Syntax → Syntax → Syntax
component_joined op of s a b =
    if is_comparison op then cast_at of s (signed_at uns.Minus s (paren_at s (joined_at op s a b)))
    else (if is_shift op then cast_at of s (joined_at op s a (amount_at of s b)) else
    cast_at of s (joined_at op s a b))

-- ---- elements

-- the element of a pointer at an index
abbrev pub element_at : Span → Syntax → Syntax → Syntax
element_at s p i = at forms.PostfixNode (codes "[ ]") s (forest2 p i)

-- an index, as many times as a vector has components
abbrev pub scaled : Vector → Syntax → Syntax
scaled v i = joined_at bins.Mul (span_of i) (cast_at types.Long (span_of i) i) (long_at v.count (span_of i))

-- the index of a component behind that of the first one
abbrev pub further : ℕ → Syntax → Syntax
further c i = joined_at bins.Add (span_of i) i (long_at c (span_of i))

-- ---- assignments and declarations

abbrev pub assigned_at : List ℕ → Span → Syntax → Syntax → Syntax
assigned_at w s target value = at forms.AssignNode w s (forest2 target value)

-- the word of an operator that assigns
abbrev pub setting_word : Bin → List ℕ
setting_word op = operator_word op ++ codes "="

abbrev pub statement_at : Span → Syntax → Syntax → Syntax
statement_at s target value = at forms.SimpleNode (codes ";") s (forest1 (assigned_at (codes "=") s target value))

-- a declaration of one variable with its initialiser, whose declarator has these parts
abbrev pub declared_at : Span → (type : Syntax) → (name : List ℕ) → Forest → Syntax
declared_at s type name parts = at forms.DeclareNode (codes ";") s
    (forest2 type (at forms.DeclaratorNode (name ++ codes " =") s parts))

-- a star in front of a name whose token is the first one
abbrev pub star_at : Span → Syntax
star_at s = node forms.StarNode (codes "*") s.first (s.first - 1) none

-- ---- names

-- a component of a vector variable
abbrev pub component_name : List ℕ → ℕ → List ℕ
component_name name c = name ++ (codes "." ++ decimal c)

-- the helping variable of a leaf or of a target, by its first token
abbrev pub helper : Span → List ℕ
helper s = codes "." ++ decimal s.first

-- and that of one of its components
abbrev pub helping_component : Span → ℕ → Syntax
helping_component s c = variable_at (component_name (helper s) c) s
