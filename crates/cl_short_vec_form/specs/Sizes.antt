-- How many components the widest vector of a tree has.
use Rattle.std.specs.Prelude.{ℕ, max, Option, None, Some}
use Rattle.cl_short_vec.specs.declared.types.Vector.{Vector}
use Rattle.cl_short_vec.specs.declared.kinds.Kind.{Kind}
use Rattle.cl_short_vec.specs.declared.kinds.Kind.TheVariants.{Vectors, Pointer, Other}
use Rattle.cl_short_vec.specs.Types.{vector_type}
use Rattle.cl_short_vec.specs.Marks.{Mark, mark, Marks, unmarked, marking}

-- of a vector that a type names, and of one that an expression is or points to; one where there is none
abbrev pub named_width : Option Vector → ℕ
named_width None = 1
named_width (Some v) = v.count

abbrev pub kind_width : Kind → ℕ
kind_width (Vectors v reach) = v.count
kind_width (Pointer space constant v) = v.count
kind_width (Other b) = 1

unfoldable mutual
  pub widest : Mark → ℕ
  widest (mark t k parts) = max (named_width (vector_type t)) (max (kind_width k) (widest_among parts))

  pub widest_among : Marks → ℕ
  widest_among unmarked = 1
  widest_among (marking m ms) = max (widest m) (widest_among ms)
