-- Each vector statement of a unit of which no condition is told does its steps, where the unit without vectors that
-- stands for it is accepted.
use Rattle.std.proofs.Common.{◌≡◌, ℕ, List, [], ◌∷◌, None, Bool, true, false, if◌then◌else◌, refl, sym}
use Rattle.std.proofs.lemmas.Option.{none-some}
use Rattle.wg_num.specs.declared.types.Place.{Place}
use Rattle.cl_model.specs.Tree.{Program}
use Rattle.cl_tree.specs.Syntax.{Syntax}
use Rattle.cl_limits.specs.Judged.{IsAccepted}
use Rattle.cl_meaning.specs.Faults.{Asked}
use Rattle.cl_meaning.specs.Meant.{start_of, unit_meant}
use Rattle.cl_check_sound.specs.Shape.{IsUnitOf}
use Rattle.cl_check_sound.specs.Erased.{program_of}
use Rattle.cl_short_vec.specs.declared.refuse.VectorRefusal.{VectorRefusal}
use Rattle.cl_short_vec.specs.declared.roles.Role.TheVariants.{Free}
use Rattle.cl_short_vec.specs.Kinds.{no_names}
use Rattle.cl_short_vec.specs.Plain.{has_vectors}
use Rattle.cl_short_vec.specs.Marks.{marked}
use Rattle.cl_short_vec.specs.Faults.{refusals, told, refusal_of}
use Rattle.cl_short_vec.specs.Unit.{scalarised, scalarised_of}
use Rattle.cl_short_vec_correct.specs.Each.{EachDoes, SettingDoes, DeclaratorDoes, EachStands, SettingStands}
use Rattle.cl_short_vec_correct.specs.Each.{DeclaratorStands}
use Rattle.cl_short_vec_correct.proofs.LocalDeclarators.{locals}
use Rattle.cl_short_vec_correct.proofs.Walk.{walk_lines}
use Rattle.cl_short_vec_correct.proofs.FunctionBlocks.{LinesDo}
use Rattle.cl_short_vec_correct.proofs.Units.{WordedUnit, unit_does}
use Rattle.cl_short_vec_correct.proofs.UnitsStand.{unit_stands}
use Rattle.cl_short_vec_correct.proofs.Vectorless.{vectorless_claims}

-- the lines of a function's block do their steps
pub lines_do : (P : Program) (asked : Asked) → LinesDo P asked
lines_do P asked g vars arrs fin lines names env h so ow st here s e =
    walk_lines P g asked vars arrs fin (locals P g asked vars arrs fin) lines lines names true env None h so ow st
    here s e

nothing_told : (rs : List VectorRefusal) → told rs ≡ None → rs ≡ []
nothing_told [] e = refl
nothing_told (r ∷ rs) e = absurd (none-some r (sym e))

-- the unit does the steps
abbrev pub UnitDoes : List Place → List ℕ → (unit form : Syntax) → Type 0
UnitDoes places kernel unit form =
    EachDoes (program_of (unit_meant places kernel form)) (marked no_names unit) (start_of places form) []

pub form_does : (places : List Place) (kernel : List ℕ) (unit : Syntax) → IsUnitOf true unit → WordedUnit unit →
    refusal_of unit ≡ None → IsAccepted places kernel (scalarised_of unit) →
    UnitDoes places kernel unit (scalarised_of unit)
form_does places kernel unit h wo r acc = by (has_vectors unit) refl r acc
  where
    by : (b : Bool) → has_vectors unit ≡ b →
        (if b then told (refusals Free (marked no_names unit)) else None) ≡ None →
        IsAccepted places kernel (if b then scalarised (marked no_names unit) else unit) →
        UnitDoes places kernel unit (if b then scalarised (marked no_names unit) else unit)
    by true e r acc = unit_does places kernel unit h wo (nothing_told (refusals Free (marked no_names unit)) r) acc
        (lines_do _ _)
    by false e r acc =
        vectorless_claims (SettingDoes (program_of (unit_meant places kernel unit)))
        (DeclaratorDoes (program_of (unit_meant places kernel unit))) unit (start_of places unit) [] e

-- and stands in its function
pub form_stands : (places : List Place) (kernel : List ℕ) (unit : Syntax) → IsUnitOf true unit →
    IsAccepted places kernel (scalarised_of unit) →
    EachStands (program_of (unit_meant places kernel (scalarised_of unit))) (marked no_names unit)
    (start_of places (scalarised_of unit)) []
form_stands places kernel unit h acc = by (has_vectors unit) refl acc
  where
    by : (b : Bool) → has_vectors unit ≡ b →
        IsAccepted places kernel (if b then scalarised (marked no_names unit) else unit) →
        EachStands (program_of (unit_meant places kernel (if b then scalarised (marked no_names unit) else unit)))
        (marked no_names unit) (start_of places (if b then scalarised (marked no_names unit) else unit)) []
    by true e acc = unit_stands places kernel unit h acc
    by false e acc =
        vectorless_claims (SettingStands (program_of (unit_meant places kernel unit)))
        (DeclaratorStands (program_of (unit_meant places kernel unit))) unit (start_of places unit) [] e
