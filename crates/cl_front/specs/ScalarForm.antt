-- What the unit without vectors that stands for a unit is, all in one.
use Rattle.std.specs.Prelude.{◌≡◌, true}
use Rattle.cl_tree.specs.Syntax.{Syntax}
use Rattle.cl_short_vec.specs.Kinds.{no_names}
use Rattle.cl_short_vec.specs.Plain.{has_vectors}
use Rattle.cl_short_vec.specs.Marks.{marked}
use Rattle.cl_short_vec_form.specs.Form.{IsScalarForm}
use Rattle.cl_short_vec_form.specs.Law.{FormsSmall, FormsLong}
use Rattle.cl_short_vec_faults.specs.Kept.{StaysTree}

-- It has no vectors, is the unit itself where that has none, and has its arrays and its variables of a work-group, and
-- no others. Where the unit has vectors, it differs from it in what has to do with them alone. What stands for it
-- and for a part of it has at most 64 nodes for each node there and each component of the widest vector, and an array
-- of vectors has as many elements as its vectors have components together.
pub record IsScalarFormOf (unit form : Syntax) : Type 0 where
  pub plain : IsScalarForm unit form
  pub kept : has_vectors unit ≡ true → StaysTree (marked no_names unit) form
  pub small : FormsSmall
  pub long : FormsLong
