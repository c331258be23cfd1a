-- How a vector is made, and what else may stand among operands.
use Rattle.std.specs.Prelude.{ℕ, List, Option, None, Some, if◌then◌else◌, Bool, true, false, ◌&&◌}
use Rattle.wg_num.specs.declared.types.Bin.{Bin}
use Rattle.cl_tree.specs.declared.tree.Form.{Form}
use Rattle.cl_tree.specs.declared.tree.Form.TheVariants as forms
use Rattle.cl_tree.specs.Syntax.{Syntax}
use Rattle.cl_meaning.specs.Spelling.{binary_in, prefix_in}
use Rattle.cl_meaning.specs.Declarations.{form_of, word_of}
use Rattle.cl_meaning.specs.declared.operators.Prefix.{Prefix}
use Rattle.cl_meaning.specs.declared.operators.Prefix.TheVariants as prefixes
use Rattle.cl_short_vec.specs.declared.kinds.Kind.{Kind}
use Rattle.cl_short_vec.specs.declared.made.Made.{Made}
use Rattle.cl_short_vec.specs.declared.made.Made.TheVariants as made
use Rattle.cl_short_vec.specs.Types.{selection_in}
use Rattle.cl_short_vec.specs.Kinds.{is_vector}

abbrev pub made_by_prefix : Option Prefix → Made
made_by_prefix (Some (prefixes.Operator op)) = made.Signed op
made_by_prefix p = made.Element

abbrev pub made_by_selection : Option (List ℕ) → Made
made_by_selection (Some name) = made.Selected
made_by_selection None = made.Element

abbrev pub made_by_operator : Option Bin → Made
made_by_operator (Some op) = made.Joined op
made_by_operator None = made.Variable

-- an expression that is a vector, by its production and its own words
unfoldable pub made_in : Form → List ℕ → Made
made_in forms.VariableNode w = made.Variable
made_in forms.ParenNode w = made.Inside
made_in forms.UnaryNode w = made_by_prefix (prefix_in w)
made_in forms.PostfixNode w = made_by_selection (selection_in w)
made_in forms.CallNode w = made.Called
made_in forms.CastNode w = made.Listed
made_in form w = made_by_operator (binary_in w)

abbrev pub is_comma : Form → Bool
is_comma forms.ExprNode = true
is_comma form = false

-- an operand, or items of a list where `listed` says so
abbrev pub made_of : (listed : Bool) → Syntax → Kind → Made
made_of listed t k = if listed && is_comma (form_of t) then made.Items else
    (if is_vector k then made_in (form_of t) (word_of t) else made.Number)
