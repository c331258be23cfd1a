-- What launches over plain programs do, whatever the programs come from: by what their kernels ask of a launch, and by
-- what the programs of their groups mean.
use Rattle.std.specs.Prelude.{◌≡◌, ◌⊎◌, ⊤, ℕ, List, [], ◌∷◌, map, sum, Option, Some, None}
use Rattle.wg_outside.specs.Counts.{Rose}
use Rattle.wg_outside.specs.Files.{FileMap}
use Rattle.buffer_io.specs.Loads.{LacksOneFile}
use Rattle.buffer_io.specs.Saves.{AllSavedAs, KeepsAllBut, StopsAt}
use Rattle.cl_model.specs.Sizes as sizes
use Rattle.cl_meaning.specs.View.{unit_of}
use Rattle.launch_file.specs.declared.text.BufferText.{BufferText}
use Rattle.launch_file.specs.declared.refusal.Refusal.{Refusal}
use Rattle.launch_file.specs.Binding.{Needs, launch_refusal, loads_of, saves_of}
use Rattle.launch_file.specs.Texts.{Text, Part}
use Rattle.lane_code.specs.Fits.{LaunchFits}
use Rattle.lane_code.specs.Program.{Plain}
use Rattle.lane_code.specs.View.{plain_of}
use Rattle.wg_top.specs.declared.RunError.{RunError}
use Rattle.wg_top.specs.declared.RunError.TheVariants.{Failed, Absent, Launch, Range, Parted, Turns, Memory}
use Rattle.wg_top.specs.declared.Summary.{Summary}
use Rattle.wg_top.specs.declared.runnable.Runnable.{Runnable}
use Rattle.wg_top.specs.Units.{needs_in, or_later}
use Rattle.wg_top.specs.Launches.{launches_in, all_groups, all_items}
use Rattle.wg_top.specs.CompiledLaunches.{LaunchesRan, EndsSo}
use Rattle.wg_top.specs.Causes.{Standing, BuffersLoaded}

-- a kernel that is bound and run: what it asks of its launches, and the program of a group
pub record Runs : Type 0 where
  pub needs : Needs
  pub program : Plain

-- the view of one
abbrev pub runs_of : Runnable → Runs
runs_of r = record { needs = needs_in (unit_of r.program.now); program = plain_of r.group.now }

-- the program of a group has the parameters that its launches are bound to
abbrev pub HasKinds : Runnable → Type 0
HasKinds r = (runs_of r).needs.kinds ≡ (runs_of r).program.params

-- the programs
abbrev pub programs_of : List Runs → List Plain
programs_of rs = map (λ r. r.program) rs

-- the first condition that stands on the launches, in order, each for its own kernel
abbrev pub needs_refusal : List BufferText → List Part → List Runs → Option Refusal
needs_refusal buffers (part ∷ parts) (r ∷ rs) =
    or_later (launch_refusal r.needs buffers part) (needs_refusal buffers parts rs)
needs_refusal buffers _ _ = None

-- the same for a launch file
abbrev pub runs_refusal : Text → List Runs → Option Refusal
runs_refusal text rs = needs_refusal text.buffers text.list rs

-- each launch fits its program, with room for the local arrays of its kernel
abbrev pub HaveRoom : List Plain → List sizes.Launch → Type 0
HaveRoom [] [] = ⊤
HaveRoom (p ∷ ps) (launch ∷ launches) = LaunchFits p.params (sum p.locals) launch × HaveRoom ps launches
HaveRoom _ _ = ⊥

-- no condition stands, the buffers were loaded, and the launches are done
pub record HaveRun (files : Option FileMap) (text : Text) (rs : List Runs) (before after : List (List ℕ)) :
    Type 0 where
  pub accepted : runs_refusal text rs ≡ None
  pub room : HaveRoom (programs_of rs) (launches_in text)
  pub loaded : BuffersLoaded files text before
  pub ran : LaunchesRan (programs_of rs) (launches_in text) before after

-- or a launch ends as the refusal says
pub record AreStopped (files : Option FileMap) (text : Text) (rs : List Runs) (error : RunError) : Type 0 where
  pub accepted : runs_refusal text rs ≡ None
  pub room : HaveRoom (programs_of rs) (launches_in text)
  pub before : List (List ℕ)
  pub loaded : BuffersLoaded files text before
  pub ends : EndsSo text.several (programs_of rs) (launches_in text) before error

-- they ran, and the buffers were saved
pub record AreRun (old new : Option FileMap) (text : Text) (rs : List Runs) (summary : Summary) : Type 0 where
  pub before : List (List ℕ)
  pub after : List (List ℕ)
  pub run : HaveRun old text rs before after
  pub saved : AllSavedAs old new (saves_of text.buffers) after
  pub others : KeepsAllBut old new (saves_of text.buffers)
  pub groups : summary.groups ≡ all_groups (launches_in text)
  pub items : summary.items ≡ all_items (launches_in text)

-- saving had begun
pub record AreSaveStopped (old new : Option FileMap) (text : Text) (rs : List Runs) : Type 0 where
  pub before : List (List ℕ)
  pub after : List (List ℕ)
  pub run : HaveRun old text rs before after
  pub stops : StopsAt old new (saves_of text.buffers) after
  pub others : KeepsAllBut old new (saves_of text.buffers)

-- the cause of a refusal of the launches
abbrev pub RunsBindCause : Text → List Runs → RunError → Type 0
RunsBindCause text rs (Launch refusal) = runs_refusal text rs ≡ Some refusal
RunsBindCause text rs Memory = ⊤
RunsBindCause text rs _ = ⊥

-- the cause of a refusal once the kernels are there
abbrev pub RunsCause : Standing → Standing → Text → List Runs → RunError → Type 0
RunsCause old new text rs Failed = Rose old.faults new.faults
RunsCause old new text rs Absent =
    Rose old.misses new.misses × (runs_refusal text rs ≡ None) × LacksOneFile old.files (loads_of text.buffers)
RunsCause old new text rs (Launch refusal) = runs_refusal text rs ≡ Some refusal
RunsCause old new text rs (Range launch several group item place) =
    AreStopped old.files text rs (Range launch several group item place)
RunsCause old new text rs (Parted launch several group item place) =
    AreStopped old.files text rs (Parted launch several group item place)
RunsCause old new text rs (Turns launch several) = AreStopped old.files text rs (Turns launch several)
RunsCause old new text rs Memory = ⊤
RunsCause old new text rs _ = ⊥

-- which files it leaves
abbrev pub RunsLeave : Standing → Standing → Text → List Runs → RunError → Type 0
RunsLeave old new text rs Failed = (new.files ≡ old.files) ⊎ AreSaveStopped old.files new.files text rs
RunsLeave old new text rs _ = new.files ≡ old.files
