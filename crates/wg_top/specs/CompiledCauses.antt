-- How a run ends and why, with the group programs that ran; an end by a launch is also an outcome of it by the model.
use Rattle.std.specs.Prelude.{◌≡◌, ◌⊎◌, ⊤, ℕ, List, Option, None}
use Rattle.wg_outside.specs.Counts.{Rose}
use Rattle.wg_outside.specs.Files.{FileMap}
use Rattle.buffer_io.specs.Saves.{AllSavedAs, KeepsAllBut, StopsAt}
use Rattle.command_words.specs.Command.{Files}
use Rattle.launch_file.specs.Binding.{saves_of}
use Rattle.launch_file.specs.Texts.{Text}
use Rattle.wg_top.specs.declared.RunError.{RunError}
use Rattle.wg_top.specs.declared.RunError.TheVariants.{Failed, Absent, Source, Launch, Range, Parted, Turns, Memory}
use Rattle.wg_top.specs.declared.RunError.TheVariants.{NotObject}
use Rattle.wg_top.specs.declared.Summary.{Summary}
use Rattle.cl_meaning.specs.Typed.{Unit'}
use Rattle.cl_check_sound.specs.Law.{DefinesFit}
use Rattle.wg_top.specs.Units.{bind_refusal}
use Rattle.wg_top.specs.Launches.{launches_in, all_groups, all_items}
use Rattle.wg_top.specs.CompiledLaunches.{LaunchesRan, EndsSo, programs_in}
use Rattle.wg_top.specs.CompiledOutcomes.{AreMade, HaveGroupPrograms, RanInOutcomes, StopsAsOutcome}
use Rattle.wg_top.specs.Outcomes.{models_in}
use Rattle.wg_top.specs.Causes.{Standing, RunRead, TextRefused, BindRefused, SourceRefused, LacksName, BuffersLoaded}
use Rattle.wg_top.specs.Causes.{IsTaken, AcceptedClean, SourceReported}

-- no condition stands on the launches, the buffers were loaded, and a launch ends as the refusal says
pub record IsStopped (files : Option FileMap) (text : Text) (units : List Unit') (error : RunError) : Type 0 where
  pub accepted : bind_refusal text units ≡ None
  pub before : List (List ℕ)
  pub loaded : BuffersLoaded files text before
  pub ends : EndsSo text.several (programs_in text units) (launches_in text) before error

-- all was read, and that holds of what was read
pub record RunStopped (files : Option FileMap) (ask : Files) (error : RunError) : Type 0 where
  pub text : Text
  pub units : List Unit'
  pub read : RunRead files ask text units
  pub stopped : IsStopped files text units error

-- besides, what is kept once is equal; and that end is an outcome of the launch, on the very buffers that those before
-- it left, which they may leave
pub record StopsIn (files : Option FileMap) (text : Text) (units : List Unit') (error : RunError) : Type 0 where
  pub stopped : IsStopped files text units error
  pub made : AreMade units
  pub compiled : HaveGroupPrograms text.lanes text.list units
  pub outcome : StopsAsOutcome (programs_in text units) (models_in units) (launches_in text) stopped.before error

-- all was read, the numbers for names are below 2^63, and that holds of what was read
pub record RunStops (files : Option FileMap) (ask : Files) (error : RunError) : Type 0 where
  pub text : Text
  pub units : List Unit'
  pub read : RunRead files ask text units
  pub fit : DefinesFit text.defines
  pub stops : StopsIn files text units error

-- the cause of a refusal that the files decide, without faults and want of memory
abbrev pub Finds : Option FileMap → Files → RunError → Type 0
Finds files ask Failed = ⊥
Finds files ask Absent = LacksName files ask
Finds files ask (Source condition place) = SourceRefused files ask condition place
Finds files ask (Launch refusal) = TextRefused files ask refusal ⊎ BindRefused files ask refusal
Finds files ask (Range launch several group item place) = RunStopped files ask (Range launch several group item place)
Finds files ask (Parted launch several group item place) = RunStopped files ask (Parted launch several group item place)
Finds files ask (Turns launch several) = RunStopped files ask (Turns launch several)
Finds files ask Memory = ⊥
Finds files ask NotObject = ⊥

-- the cause of each refusal
abbrev pub Cause : Standing → Standing → Files → RunError → Type 0
Cause old new ask Failed = Rose old.faults new.faults
Cause old new ask Absent = Rose old.misses new.misses × Finds old.files ask Absent
Cause old new ask (Source condition place) = SourceReported old.files ask condition place
Cause old new ask (Launch refusal) = Finds old.files ask (Launch refusal)
Cause old new ask (Range launch several group item place) =
    RunStops old.files ask (Range launch several group item place)
Cause old new ask (Parted launch several group item place) =
    RunStops old.files ask (Parted launch several group item place)
Cause old new ask (Turns launch several) = RunStops old.files ask (Turns launch several)
Cause old new ask Memory = ⊤
Cause old new ask NotObject = ⊥

-- the buffers were loaded, and the launches are done, each on the buffers that the one before it left; each end, on
-- these very buffers, is an outcome of its launch; and what is kept once is equal
pub record HasRun (files : Option FileMap) (text : Text) (units : List Unit') (after : List (List ℕ)) : Type 0 where
  pub before : List (List ℕ)
  pub loaded : BuffersLoaded files text before
  pub ran : RanInOutcomes (programs_in text units) (models_in units) (launches_in text) before after
  pub made : AreMade units
  pub compiled : HaveGroupPrograms text.lanes text.list units

-- saving had begun: the launches ran, the buffers before one are saved, and those behind it and all other names are
-- as before
pub record SaveStopped (old new : Option FileMap) (text : Text) (units : List Unit') : Type 0 where
  pub accepted : bind_refusal text units ≡ None
  pub after : List (List ℕ)
  pub run : HasRun old text units after
  pub stops : StopsAt old new (saves_of text.buffers) after
  pub others : KeepsAllBut old new (saves_of text.buffers)

-- the same of a command, which first reads what it asks for, with numbers for names below 2^63
pub record SaveFailed (old new : Option FileMap) (ask : Files) : Type 0 where
  pub text : Text
  pub units : List Unit'
  pub read : RunRead old ask text units
  pub fit : DefinesFit text.defines
  pub stopped : SaveStopped old new text units

-- which files a refusal leaves: all, but for those that the launch file saves where saving failed
abbrev pub LeavesFiles : Standing → Standing → Files → RunError → Type 0
LeavesFiles old new ask Failed = (new.files ≡ old.files) ⊎ SaveFailed old.files new.files ask
LeavesFiles old new ask _ = new.files ≡ old.files

-- the launches ran and the buffers were saved
pub record IsRun (old new : Option FileMap) (text : Text) (units : List Unit') (summary : Summary) : Type 0 where
  pub accepted : bind_refusal text units ≡ None
  pub after : List (List ℕ)
  pub run : HasRun old text units after
  pub saved : AllSavedAs old new (saves_of text.buffers) after
  pub others : KeepsAllBut old new (saves_of text.buffers)
  pub groups : summary.groups ≡ all_groups (launches_in text)
  pub items : summary.items ≡ all_items (launches_in text)

-- a run that is done: what it asks for is read, with numbers for names below 2^63, the launches ran, and the buffers
-- were saved
pub record IsDone (old new : Option FileMap) (ask : Files) (summary : Summary) : Type 0 where
  pub text : Text
  pub units : List Unit'
  pub read : RunRead old ask text units
  pub fit : DefinesFit text.defines
  pub run : IsRun old new text units summary

-- what a run loads is there and accepted, and each launch is done by its group program on the buffers that those before
-- it leave
pub record Accepted (files : Option FileMap) (ask : Files) (text : Text) (units : List Unit') : Type 0 where
  pub taken : IsTaken files ask text units
  pub done : (before : List (List ℕ)) → BuffersLoaded files text before → (after : List (List ℕ)) ×
      LaunchesRan (programs_in text units) (launches_in text) before after

-- what a run loads is there and accepted, and its launches are done, by what their group programs mean or since they
-- are clean
abbrev pub AcceptedRun : Option FileMap → Files → Type 0
AcceptedRun files ask =
    (text : Text) × (units : List Unit') × (Accepted files ask text units ⊎ AcceptedClean files ask text units)
