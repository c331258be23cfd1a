-- The typed program of a source is a valid program.
use Rattle.std.proofs.Common.{ℕ, List, sym, subst}
use Rattle.cl_model.specs.Valid.{IsValid}
use Rattle.cl_prep.specs.declared.prep.Define.{Define}
use Rattle.cl_meaning.specs.Typed.{Unit'}
use Rattle.cl_meaning.specs.View.{unit_of}
use Rattle.cl_check_sound.specs.Erased as erased
use Rattle.cl_check_sound.specs.Law.{DefinesFit}
use Rattle.cl_check_sound.proofs.Accepted.{units_valid}
use Rattle.cl_check_sound.proofs.Spelled.{spelled_wide}
use Rattle.cl_check_sound.proofs.ErasedPrograms.{program_same}
use Rattle.cl_check_sound.proofs.Expanded.{expanded_read}
use Rattle.cl_short_vec.specs.Unit.{scalarised_of}
use Rattle.cl_short_vec_correct.proofs.FormUnits.{forms_shaped}
use Rattle.cl_front.specs.Typed.{HasTypedUnit, places_of}
use Rattle.cl_front.specs.Law.{ProgramsValid}

-- the unit of an accepted source
pub accepted_valid : (source : List ℕ) (defines : List Define) (kernel : List ℕ) (typed : Unit') → DefinesFit defines →
    HasTypedUnit source defines kernel typed → IsValid (erased.program_of typed)
accepted_valid source defines kernel typed fit c =
    let places = places_of source c.expanded in
    let read = c.is_source.read.1 in
    let shaped = forms_shaped c.unit (spelled_wide c.unit c.expanded c.is_source.spelled
    (expanded_read source c.is_source.read.0 c.expanded defines read.cuts fit read.expands)) in
    subst (λ (t : Unit'). IsValid (erased.program_of t)) (sym c.means)
    (units_valid places kernel (scalarised_of c.unit) shaped c.accepted)

pub compiled_valid : ProgramsValid
compiled_valid source defines kernel p fit c =
    subst IsValid (program_same p) (accepted_valid source defines kernel (unit_of p) fit c)
