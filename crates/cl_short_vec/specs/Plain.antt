-- Whether a unit has vectors at all: a type names one, or something is selected.
use Rattle.std.specs.Prelude.{ℕ, List, [], ◌∷◌, nat_eq, Bool, false, ◌||◌}
use Rattle.cl_tree.specs.Syntax.{Syntax, node, Forest, none, more}
use Rattle.cl_tree.specs.Selections.{is_selection}
use Rattle.cl_meaning.specs.Kinds.{is_some}
use Rattle.cl_short_vec.specs.Types.{vector_type}

-- the own words begin with a point, as those of a selection do
abbrev pub is_pointed : List ℕ → Bool
is_pointed [] = false
is_pointed (byte ∷ word) = nat_eq byte 46

abbrev pub is_about_vectors : Syntax → Bool
is_about_vectors t = is_some (vector_type t) || is_selection t

abbrev mutual
  pub has_vectors : Syntax → Bool
  has_vectors (node form w f l parts) = is_about_vectors (node form w f l parts) || have_vectors parts

  pub have_vectors : Forest → Bool
  have_vectors none = false
  have_vectors (more p ps) = has_vectors p || have_vectors ps
