-- Why one stage of a run ends as it does.
use Rattle.std.specs.Prelude.{◌≡◌, ◌⊎◌, ⊤, ℕ, List, Option, Some, None}
use Rattle.wg_outside.specs.Counts.{Rose}
use Rattle.wg_outside.specs.Files.{FileMap, LacksFile}
use Rattle.buffer_io.specs.Loads.{LacksOneFile}
use Rattle.launch_file.specs.declared.refusal.Refusal.{Refusal}
use Rattle.launch_file.specs.Refusals.{Reads, IsRefused}
use Rattle.launch_file.specs.Binding.{loads_of}
use Rattle.cl_prep.specs.declared.prep.Define.{Define}
use Rattle.cl_front.specs.Typed.{IsFaulty, HasNoTypedUnit}
use Rattle.launch_file.specs.Texts.{Text, Part}
use Rattle.wg_top.specs.declared.RunError.{RunError}
use Rattle.wg_top.specs.declared.RunError.TheVariants.{Failed, Absent, Source, Launch, Range, Parted, Turns, Memory}
use Rattle.cl_meaning.specs.Typed.{Unit'}
use Rattle.wg_top.specs.Units.{IsFirstRefused, bind_refusal}
use Rattle.wg_top.specs.Causes.{Standing, LaunchLoaded, IsSourceFault}
use Rattle.wg_top.specs.CompiledCauses.{StopsIn, SaveStopped}

-- the launch file was loaded, and says this with the options
pub record TextRead (files : Option FileMap) (launch : List ℕ) (lanes turns : Option ℕ) (text : Text) : Type 0 where
  pub bytes : List ℕ
  pub loaded : LaunchLoaded files launch bytes
  pub reads : Reads bytes lanes turns text

-- the launch file was loaded, and that condition is the first that stands on it
pub record TextUnread (files : Option FileMap) (launch : List ℕ) (lanes turns : Option ℕ)
    (refusal : Refusal) : Type 0 where
  pub bytes : List ℕ
  pub loaded : LaunchLoaded files launch bytes
  pub refused : IsRefused bytes lanes turns refusal

-- the cause of a refusal while the source is loaded
abbrev pub SourceCause : Standing → Standing → List ℕ → RunError → Type 0
SourceCause old new source Failed = Rose old.faults new.faults
SourceCause old new source Absent = Rose old.misses new.misses × LacksFile old.files source
SourceCause old new source Memory = ⊤
SourceCause old new source _ = ⊥

-- the cause of a refusal while the launch file is read
abbrev pub LaunchCause : Standing → Standing → List ℕ → Option ℕ → Option ℕ → RunError → Type 0
LaunchCause old new launch lanes turns Failed = Rose old.faults new.faults
LaunchCause old new launch lanes turns Absent = Rose old.misses new.misses × LacksFile old.files launch
LaunchCause old new launch lanes turns (Launch refusal) = TextUnread old.files launch lanes turns refusal
LaunchCause old new launch lanes turns Memory = ⊤
LaunchCause old new launch lanes turns _ = ⊥

-- the cause of a refusal of the source's bytes
abbrev pub ProgramCause : List ℕ → Text → RunError → Type 0
ProgramCause bytes text (Source condition place) = IsSourceFault bytes text condition place
ProgramCause bytes text Memory = ⊤
ProgramCause bytes text _ = ⊥

-- the cause of a refusal of a launch's kernel, once the source has a unit
abbrev pub KernelCause : List ℕ → List Define → (kernel : List ℕ) → RunError → Type 0
KernelCause bytes defines kernel (Source condition place) = IsFaulty bytes defines kernel condition place
KernelCause bytes defines kernel Memory = ⊤
KernelCause bytes defines kernel _ = ⊥

-- the same whether the source has a unit or not
abbrev pub TypedCause : List ℕ → List Define → (kernel : List ℕ) → RunError → Type 0
TypedCause bytes defines kernel (Source condition place) = HasNoTypedUnit bytes defines kernel condition place
TypedCause bytes defines kernel Memory = ⊤
TypedCause bytes defines kernel _ = ⊥

-- the same of the launches' kernels
abbrev pub KernelsCause : List ℕ → List Define → List Part → RunError → Type 0
KernelsCause bytes defines parts (Source condition place) = IsFirstRefused bytes defines parts condition place
KernelsCause bytes defines parts Memory = ⊤
KernelsCause bytes defines parts _ = ⊥

-- the cause of a refusal once all is read
abbrev pub BackCause : Standing → Standing → Text → List Unit' → RunError → Type 0
BackCause old new text units Failed = Rose old.faults new.faults
BackCause old new text units Absent =
    Rose old.misses new.misses × (bind_refusal text units ≡ None) × LacksOneFile old.files (loads_of text.buffers)
BackCause old new text units (Launch refusal) = bind_refusal text units ≡ Some refusal
BackCause old new text units (Range launch several group item place) =
    StopsIn old.files text units (Range launch several group item place)
BackCause old new text units (Parted launch several group item place) =
    StopsIn old.files text units (Parted launch several group item place)
BackCause old new text units (Turns launch several) = StopsIn old.files text units (Turns launch several)
BackCause old new text units Memory = ⊤
BackCause old new text units _ = ⊥

-- which files it leaves
abbrev pub LeavesOthers : Standing → Standing → Text → List Unit' → RunError → Type 0
LeavesOthers old new text units Failed = (new.files ≡ old.files) ⊎ SaveStopped old.files new.files text units
LeavesOthers old new text units _ = new.files ≡ old.files
