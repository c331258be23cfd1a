-- What is true of the unit without vectors that stands for a unit.
use Rattle.std.specs.Prelude.{◌≡◌, false}
use Rattle.cl_tree.specs.Syntax.{Syntax}
use Rattle.cl_short_vec.specs.Plain.{has_vectors}
use Rattle.cl_short_vec_form.specs.Stored.{stored}

-- It has no vectors, is the unit itself where that has none, and has its arrays and its variables of a work-group, and
-- no others.
pub record IsScalarForm (unit form : Syntax) : Type 0 where
  pub no_vectors : has_vectors form ≡ false
  pub itself : has_vectors unit ≡ false → form ≡ unit
  pub memory : stored form ≡ stored unit
