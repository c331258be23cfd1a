-- What of a unit stays in the unit without vectors.
use Rattle.std.specs.Prelude.{◌≡◌, None, true, false}
use Rattle.cl_tree.specs.Syntax.{Syntax}
use Rattle.cl_check_sound.specs.Shape.{IsUnitOf}
use Rattle.cl_short_vec.specs.Kinds.{no_names}
use Rattle.cl_short_vec.specs.Plain.{has_vectors}
use Rattle.cl_short_vec.specs.Marks.{marked}
use Rattle.cl_short_vec.specs.Faults.{refusal_of}
use Rattle.cl_short_vec.specs.Unit.{scalarised_of}
use Rattle.cl_short_vec_faults.specs.Kept.{StaysTree}

-- A unit that has no vectors is itself; of any other one, of which no condition on vectors is told, all stays but what
-- has to do with vectors.
abbrev pub FormsKeep : Type 0
FormsKeep = (unit : Syntax) → IsUnitOf true unit → refusal_of unit ≡ None →
    (has_vectors unit ≡ false → scalarised_of unit ≡ unit) ×
    (has_vectors unit ≡ true → StaysTree (marked no_names unit) (scalarised_of unit))
