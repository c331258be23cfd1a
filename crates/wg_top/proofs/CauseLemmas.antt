-- From the causes within a run to those of the run.
use Rattle.std.proofs.Common.{◌≡◌, ℕ, ◌<◌, ◌≤◌, List, Option, inl, inr, ◌∙◌, subst, arith}
use Rattle.std.proofs.lemmas.Bool.{cases_lt}
use Rattle.wg_outside.specs.Files.{FileMap, HasFileStart, LacksFile}
use Rattle.wg_outside.specs.Counts.{Rose, last_count}
use Rattle.buffer_io.specs.Loads.{LacksOneFile}
use Rattle.command_words.specs.Command.{Files}
use Rattle.launch_file.specs.Binding.{loads_of}
use Rattle.launch_file.specs.Texts.{Text}
use Rattle.cl_check_sound.specs.Law.{DefinesFit}
use Rattle.wg_top.specs.declared.RunError.{RunError}
use Rattle.wg_top.specs.declared.RunError.TheVariants.{Failed, Absent, Source, Launch, Range, Parted, Turns, Memory}
use Rattle.wg_top.specs.declared.RunError.TheVariants.{NotObject}
use Rattle.wg_top.specs.declared.Summary.{Summary}
use Rattle.cl_meaning.specs.Typed.{Unit'}
use Rattle.cl_front.specs.Front.{HasUnit}
use Rattle.wg_top.specs.Causes.{Standing, HasNoFewer, SourceLoaded, RunRead, ReadingCause}
use Rattle.wg_top.specs.CompiledCauses.{StopsIn, RunStops, Cause, LeavesFiles, SaveStopped, IsRun, IsDone}
use Rattle.wg_top.specs.Units.{HaveTypedUnits}
use Rattle.wg_top.specs.Stages.{SourceCause, TextRead, LaunchCause, ProgramCause, BackCause, LeavesOthers}

-- counts that stand over two calls
pub stands_over : (old new : Standing) (faults misses : ℕ) → old.faults ≤ faults → old.misses ≤ misses →
    faults ≤ new.faults → misses ≤ new.misses → HasNoFewer old new
stands_over old new faults misses a b c d = record { faults = omega arith; misses = omega arith }

-- a launch file that was read after a load that leaves the files
pub text_before : (files later : Option FileMap) (launch : List ℕ) (lanes turns : Option ℕ) (text : Text) →
    later ≡ files → TextRead later launch lanes turns text → TextRead files launch lanes turns text
text_before files later launch lanes turns text same read =
    subst (λ (f : Option FileMap). TextRead f launch lanes turns text) same read

-- what was read
pub run_read : (files : Option FileMap) (ask : Files) (bytes held : List ℕ) (text : Text) (s : List Unit') →
    SourceLoaded files ask.source bytes → held ≡ bytes → TextRead files ask.launch ask.lanes ask.turns text →
    HasUnit held text.defines → HaveTypedUnits held text.defines text.list s → RunRead files ask text s
run_read files ask bytes held text s loaded same read unit are = record {
  source_bytes = bytes;
  source_loaded = loaded;
  launch_bytes = read.bytes;
  launch_loaded = read.loaded;
  reads = read.reads;
  unit = subst (λ (b : List ℕ). HasUnit b text.defines) same unit;
  compiled = subst (λ (b : List ℕ). HaveTypedUnits b text.defines text.list s) same are;
}

-- a count that rose later rose over all
pub rose_over : (a b c : ℕ) → a ≤ b → b ≤ c → Rose b c → Rose a c
rose_over a b c ab bc rose small =
    elim (cases_lt b last_count) [ inl lt ↦ let up : b < c = rose lt in omega arith | inr ge ↦ omega arith ]

-- a refusal while the source is loaded
pub source_cause : (old new : Standing) (ask : Files) (e : RunError) → SourceCause old new ask.source e →
    ReadingCause old new ask e
source_cause old new ask Failed c = c
source_cause old new ask Absent c = (c.0, inl c.1)
source_cause old new ask Memory c = tt
source_cause old new ask _ c = absurd c

-- a refusal while the launch file is read
pub launch_cause : (old mid new : Standing) (ask : Files) (bytes : List ℕ) (e : RunError) →
    SourceLoaded old.files ask.source bytes → mid.files ≡ old.files → HasNoFewer old mid → HasNoFewer mid new →
    LaunchCause mid new ask.launch ask.lanes ask.turns e → ReadingCause old new ask e
launch_cause old mid new ask bytes Failed loaded same before after c =
    rose_over old.faults mid.faults new.faults before.faults after.faults c
launch_cause old mid new ask bytes Absent loaded same before after c = (
  rose_over old.misses mid.misses new.misses before.misses after.misses c.0,
  inr (bytes, loaded, subst (λ (f : Option FileMap). LacksFile f ask.launch) same c.1),
)
launch_cause old mid new ask bytes (Launch first) loaded same before after c =
    record {
      source_bytes = bytes;
      source_loaded = loaded;
      launch_bytes = c.bytes;
      launch_loaded = subst (λ (f : Option FileMap). HasFileStart f ask.launch 1048577 c.bytes) same c.loaded;
      refused = c.refused;
    }
launch_cause old mid new ask bytes Memory loaded same before after c = tt
launch_cause old mid new ask bytes _ loaded same before after c = absurd c

-- a refusal of the source's bytes
pub program_cause : (old new : Standing) (ask : Files) (bytes : List ℕ) (text : Text) (e : RunError) →
    TextRead old.files ask.launch ask.lanes ask.turns text → DefinesFit text.defines →
    SourceLoaded old.files ask.source bytes → ProgramCause bytes text e → ReadingCause old new ask e
program_cause old new ask bytes text (Source condition place) read fit loaded c =
    record {
      refused = record {
        text = text;
        source_bytes = bytes;
        source_loaded = loaded;
        launch_bytes = read.bytes;
        launch_loaded = read.loaded;
        reads = read.reads;
        fault = c;
      };
      fit = fit;
    }
program_cause old new ask bytes text Memory read fit loaded c = tt
program_cause old new ask bytes text _ read fit loaded c = absurd c

-- a launch that is not done, on the files of before
stops : (files later : Option FileMap) (ask : Files) (text : Text) (s : List Unit') (e : RunError) →
    RunRead files ask text s → DefinesFit text.defines → later ≡ files → StopsIn later text s e → RunStops files ask e
stops files later ask text s e read fit same c =
    record {
      text = text;
      units = s;
      read = read;
      fit = fit;
      stops = subst (λ (f : Option FileMap). StopsIn f text s e) same c;
    }

-- a refusal while all is read is one of the run
pub reading_cause : (old new : Standing) (ask : Files) (e : RunError) → ReadingCause old new ask e → Cause old new ask e
reading_cause old new ask Failed c = c
reading_cause old new ask Absent c = (c.0, inl c.1)
reading_cause old new ask (Source condition place) c = c
reading_cause old new ask (Launch first) c = inl c
reading_cause old new ask Memory c = tt
reading_cause old new ask _ c = absurd c

-- a refusal once all is read
pub back_cause : (old mid new : Standing) (ask : Files) (text : Text) (s : List Unit') (e : RunError) →
    RunRead old.files ask text s → DefinesFit text.defines → mid.files ≡ old.files → HasNoFewer old mid →
    HasNoFewer mid new → BackCause mid new text s e → Cause old new ask e
back_cause old mid new ask text s Failed read fit same before after c =
    rose_over old.faults mid.faults new.faults before.faults after.faults c
back_cause old mid new ask text s Absent read fit same before after c = (
  rose_over old.misses mid.misses new.misses before.misses after.misses c.0,
  inr (
    text,
    s,
    record { read = read; accepted = c.1 },
    subst (λ (f : Option FileMap). LacksOneFile f (loads_of text.buffers)) same c.2,
  ),
)
back_cause old mid new ask text s (Launch first) read fit same before after c =
    inr (record { text = text; units = s; read = read; refused = c })
back_cause old mid new ask text s (Range number several group item place) read fit same before after c =
    stops old.files mid.files ask text s (Range number several group item place) read fit same c
back_cause old mid new ask text s (Parted number several group item place) read fit same before after c =
    stops old.files mid.files ask text s (Parted number several group item place) read fit same c
back_cause old mid new ask text s (Turns number several) read fit same before after c =
    stops old.files mid.files ask text s (Turns number several) read fit same c
back_cause old mid new ask text s Memory read fit same before after c = tt
back_cause old mid new ask text s _ read fit same before after c = absurd c

-- which files a refusal leaves once all is read
pub leaves_files : (old mid new : Standing) (ask : Files) (text : Text) (s : List Unit') (e : RunError) →
    RunRead old.files ask text s → DefinesFit text.defines → mid.files ≡ old.files → LeavesOthers mid new text s e →
    LeavesFiles old new ask e
leaves_files old mid new ask text s Failed read fit same left = elim left [
  | inl all ↦ inl (all ∙ same)
  | inr stopped ↦ inr (record {
    text = text;
    units = s;
    read = read;
    fit = fit;
    stopped = subst (λ (f : Option FileMap). SaveStopped f new.files text s) same stopped;
  })
]
leaves_files old mid new ask text s Absent read fit same left = left ∙ same
leaves_files old mid new ask text s (Source condition place) read fit same left = left ∙ same
leaves_files old mid new ask text s (Launch first) read fit same left = left ∙ same
leaves_files old mid new ask text s (Range number several group item place) read fit same left = left ∙ same
leaves_files old mid new ask text s (Parted number several group item place) read fit same left = left ∙ same
leaves_files old mid new ask text s (Turns number several) read fit same left = left ∙ same
leaves_files old mid new ask text s Memory read fit same left = left ∙ same
leaves_files old mid new ask text s NotObject read fit same left = left ∙ same

-- a run that is done
pub is_done : (old mid new : Option FileMap) (ask : Files) (text : Text) (s : List Unit') (summary : Summary) →
    RunRead old ask text s → DefinesFit text.defines → mid ≡ old → IsRun mid new text s summary →
    IsDone old new ask summary
is_done old mid new ask text s summary read fit same run = record {
  text = text;
  units = s;
  read = read;
  fit = fit;
  run = subst (λ (f : Option FileMap). IsRun f new text s summary) same run;
}

-- a command that runs nothing leaves the files
pub leaves_read : (old new : Standing) (ask : Files) (e : RunError) → new.files ≡ old.files →
    ReadingCause old new ask e → LeavesFiles old new ask e
leaves_read old new ask Failed same c = inl same
leaves_read old new ask Absent same c = same
leaves_read old new ask (Source condition place) same c = same
leaves_read old new ask (Launch first) same c = same
leaves_read old new ask Memory same c = same
leaves_read old new ask _ same c = absurd c
