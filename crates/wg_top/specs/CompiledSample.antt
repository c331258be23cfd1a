-- How the run of the sample ends.
use Rattle.std.specs.Prelude.{◌≡◌, ◌⊎◌, ℕ, Some}
use Rattle.wg_outside.specs.Files.{FileMap}
use Rattle.wg_top.specs.declared.Summary.{Summary}
use Rattle.wg_top.specs.declared.RunError.{RunError}
use Rattle.wg_top.specs.declared.RunError.TheVariants.{Memory}
use Rattle.wg_top.specs.Causes.{Standing}
use Rattle.wg_top.specs.CompiledCauses.{Cause, IsDone}
use Rattle.wg_top.specs.Sample.{sample_files, sample_ask, IsSaved}

-- the launch of that number is done, and the words that it leaves have that sum
pub record IsSample (number sum : ℕ) : Type 0 where
  pub files : FileMap
  pub summary : Summary
  pub done : IsDone (Some (sample_files number)) (Some files) sample_ask summary
  pub saved : IsSaved files sum

-- the run of the sample is refused, by what its files say
pub record SampleRefused (number : ℕ) (error : RunError) : Type 0 where
  pub old : Standing
  pub new : Standing
  pub files : old.files ≡ Some (sample_files number)
  pub cause : Cause old new sample_ask error

-- or memory ran out
abbrev pub SampleCause : ℕ → RunError → Type 0
SampleCause number error = (error ≡ Memory) ⊎ SampleRefused number error
