-- Selections of the components of a vector, as `v.x` (OpenCL 1.2, section 6.1.7).
use Rattle.std.specs.Prelude.{nat_eq, Bool, false, ◌||◌, ◌∷◌}
use Rattle.cl_tree.specs.declared.tree.Form.TheVariants as forms
use Rattle.cl_tree.specs.Syntax.{Syntax, node, Forest, none, more}

-- a postfix expression of one part, whose own tokens begin with a point
abbrev pub is_selection : Syntax → Bool
is_selection (node forms.PostfixNode (byte ∷ word) first last (more part none)) = nat_eq byte 46
is_selection t = false

-- whether a selection stands anywhere in a tree, and in some trees
abbrev mutual
  pub has_selection : Syntax → Bool
  has_selection (node form word first last parts) =
      is_selection (node form word first last parts) || have_selection parts

  pub have_selection : Forest → Bool
  have_selection none = false
  have_selection (more part others) = has_selection part || have_selection others
