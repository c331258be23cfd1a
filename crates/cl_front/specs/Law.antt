-- The law on compiled sources: their typed programs are programs as the model asks for.
use Rattle.std.specs.Prelude.{ℕ, List}
use Rattle.cl_model.specs.declared.program.Program as rust_program
use Rattle.cl_model.specs.Valid.{IsValid}
use Rattle.cl_model.specs.View.{program_of}
use Rattle.cl_prep.specs.declared.prep.Define.{Define}
use Rattle.cl_check_sound.specs.Law.{DefinesFit}
use Rattle.cl_front.specs.Typed.{HasTypedUnit}
use Rattle.cl_meaning.specs.View.{unit_of}

-- The typed program of a source is valid, where each number that is given for a name fits a `long`.
abbrev pub ProgramsValid : Type 0
ProgramsValid = (source : List ℕ) (defines : List Define) (kernel : List ℕ) (p : rust_program.Program) →
    DefinesFit defines → HasTypedUnit source defines kernel (unit_of p) → IsValid (program_of p)
