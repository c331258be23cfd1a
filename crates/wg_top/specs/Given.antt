-- What is known of a launch file and of a source that were read, and of their kernels.
use Rattle.std.specs.Prelude.{◌≡◌, ◌≤◌, ℕ, List, All, false, length, map}
use Rattle.cl_token.specs.Places.{place_at}
use Rattle.cl_prep.specs.declared.prep.Define.{Define}
use Rattle.cl_tree.specs.Syntax.{view}
use Rattle.cl_tree.specs.Selections.{has_selection}
use Rattle.cl_front.specs.declared.typing.Source.{Source}
use Rattle.cl_front.specs.Front.{IsScalarSource}
use Rattle.cl_front.specs.Typed.{places_of}
use Rattle.cl_model.specs.Valid.{IsValid}
use Rattle.cl_check_sound.specs.Erased.{program_of}
use Rattle.launch_file.specs.Texts.{text_of, part_of}
use Rattle.launch_file.specs.Values.{HasTexts, HasOneLength, HasNumber}
use Rattle.launch_file.specs.Refusals.{saved_twice}
use Rattle.launch_file.specs.declared.text.LaunchText.{LaunchText}
use Rattle.wg_top.specs.declared.reading.Given.{Given}
use Rattle.wg_compile.specs.Correct.{IsCompilation}
use Rattle.cl_meaning.specs.View.{unit_of}

-- the names of its files are texts, the numbers of given names are below 2^63, no file is saved twice, and it has
-- from 1 to 16 launches, each in 1 to 3 dimensions
pub record IsText (text : LaunchText) : Type 0 where
  pub texts : All HasTexts text.buffers.items
  pub numbers : All HasNumber text.defines.list.items
  pub lengths : All (λ p. HasOneLength (part_of p)) text.list.items
  pub some : 1 ≤ length text.list.items
  pub few : length text.list.items ≤ 16
  pub apart : saved_twice text.buffers.items ≡ false

-- besides, each kernel is as the passes leave it, its program is valid, and it has the name that its launch says
pub record IsGiven (given : Given) : Type 0 where
  pub text : IsText given.text
  pub passes : All (IsCompilation (text_of given.text).lanes) given.kernels.items
  pub valid : All (λ c. IsValid (program_of (unit_of c.program))) given.kernels.items
  pub names : map (λ c. c.group.kernel) given.kernels.items ≡ map (λ p. p.kernel) (text_of given.text).list

-- what holds of the bytes and of the numbers for names from which a source was read; and why there is a refusal
abbrev pub FromSource : Source → (List ℕ → List Define → Type 0) → Type 0
FromSource source Holds = (bytes : List ℕ) (defines : List Define) →
    IsScalarSource bytes defines source.tokens.items (view source.unit) →
    source.places.items ≡ places_of bytes source.tokens.items → Holds bytes defines

abbrev pub RefusedFrom : Source → (List ℕ → List Define → Type 0) → Type 0
RefusedFrom source Cause =
    FromSource source (λ bytes defines. source.end ≡ place_at bytes (length bytes) → Cause bytes defines)

-- a source that was read from these bytes, with these numbers for names
pub record IsReadFrom (bytes : List ℕ) (defines : List Define) (source : Source) : Type 0 where
  pub is : IsScalarSource bytes defines source.tokens.items (view source.unit)
  pub places : source.places.items ≡ places_of bytes source.tokens.items
  pub end : source.end ≡ place_at bytes (length bytes)
  pub plain : has_selection (view source.unit) ≡ false
