-- The plain form of a unit: each vector type is the type of its components, and each selection is left out.
use Rattle.std.specs.Prelude.{if◌then◌else◌}
use Rattle.cl_tree.specs.declared.tree.Form.{Form}
use Rattle.cl_tree.specs.declared.tree.Form.TheVariants as forms
use Rattle.cl_tree.specs.Syntax.{Syntax, node, Forest, none, more}
use Rattle.cl_tree.specs.Nodes.{forest1}
use Rattle.cl_meaning.specs.Declarations.{word_of}
use Rattle.cl_short_vec.specs.Plain.{is_pointed}
use Rattle.cl_short_vec.specs.Nodes.{with_parts}
use Rattle.cl_short_vec.specs.Scalar.{component_typed}

-- a node, of whose parts these are the plain forms
abbrev pub plain_by : Form → Syntax → (parts : Forest) → Syntax
plain_by forms.TypeNode t parts = component_typed t parts
plain_by forms.PostfixNode t (more a none) = if is_pointed (word_of t) then a else with_parts t (forest1 a)
plain_by form t parts = with_parts t parts

unfoldable mutual
  pub plain_of : Syntax → Syntax
  plain_of (node form w f l parts) = plain_by form (node form w f l parts) (plains_of parts)

  pub plains_of : Forest → Forest
  plains_of none = none
  plains_of (more p ps) = more (plain_of p) (plains_of ps)
