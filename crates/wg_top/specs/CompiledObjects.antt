-- Object files: what a source is compiled to, what `build` saves, and what `exec` runs.
use Rattle.std.specs.Prelude.{◌≡◌, ◌⊎◌, ⊤, ℕ, List, Option, Some, None, sum, map, Contains, is_some, true}
use Rattle.wg_outside.specs.Counts.{Rose}
use Rattle.wg_outside.specs.Files.{FileMap, HasSaved, KeepsOthers, told_file}
use Rattle.buffer_io.specs.Loads.{LacksOneFile}
use Rattle.cl_model.specs.Lists.{Each}
use Rattle.cl_prep.specs.declared.prep.Define.{Define}
use Rattle.cl_meaning.specs.Typed.{Unit'}
use Rattle.cl_check_sound.specs.Law.{DefinesFit}
use Rattle.cl_front.specs.Typed.{HasTypedUnit}
use Rattle.command_words.specs.Command.{BuildFiles, ObjectFiles}
use Rattle.launch_file.specs.declared.refusal.Refusal.{Refusal}
use Rattle.launch_file.specs.declared.refusal.Refusal.TheVariants.{OtherKernel}
use Rattle.launch_file.specs.Binding.{Needs, loads_of}
use Rattle.launch_file.specs.Texts.{Text, Part}
use Rattle.wg_object.specs.Plain.{PlainObject, group_in as plain_in}
use Rattle.wg_object.specs.Valid.{IsObjectOf}
use Rattle.wg_top.specs.declared.RunError.{RunError}
use Rattle.wg_top.specs.declared.RunError.TheVariants.{Failed, Absent, Launch, Range, Parted, Turns, Memory}
use Rattle.wg_top.specs.declared.RunError.TheVariants.{NotObject}
use Rattle.wg_top.specs.declared.Summary.{Summary}
use Rattle.wg_top.specs.Units.{needs_in}
use Rattle.wg_top.specs.CompiledOutcomes.{IsMade, HasGroupProgram}
use Rattle.wg_top.specs.Launches.{launches_in}
use Rattle.wg_top.specs.CompiledLaunches.{LaunchesRan}
use Rattle.wg_top.specs.Causes.{Standing, BuffersLoaded}
use Rattle.wg_top.specs.Programs.{Runs, runs_refusal, programs_of, AreRun, AreStopped, AreSaveStopped}
use Rattle.wg_top.specs.Objects.{first_kernel, BuildRead, ExecRead, ExecUnread, LacksExec}

-- ---- what a source is compiled to

-- the object is that of a kernel compiled from this source, with these numbers for names, at so many lanes: a typed
-- unit of the source with that kernel, what it is compiled to, and what the kernel asks of its launches
pub record CompilesTo (source : List ℕ) (defines : List Define) (kernel : List ℕ) (lanes : ℕ) (o : PlainObject) :
    Type 0 where
  pub typed : Unit'
  pub compiled : HasTypedUnit source defines kernel typed
  pub made : IsMade typed
  pub name : o.kernel ≡ kernel
  pub group : HasGroupProgram lanes typed
  pub program : plain_in o ≡ group.group
  pub kinds : o.params ≡ (needs_in typed).kinds
  pub local_bytes : sum o.locals ≡ (needs_in typed).local_bytes
  pub sizes : o.sizes ≡ (needs_in typed).required

-- the bytes are the text of such an object
pub record IsTextFrom (source : List ℕ) (defines : List Define) (kernel : List ℕ) (lanes : ℕ) (bytes : List ℕ) :
    Type 0 where
  pub object : PlainObject
  pub compiles : CompilesTo source defines kernel lanes object
  pub is_text : IsObjectOf bytes object

-- the bytes are the text of an object that the source is compiled to, with the kernel of the first launch
pub record IsFirstText (source : List ℕ) (text : Text) (bytes : List ℕ) : Type 0 where
  pub kernel : List ℕ
  pub first : first_kernel text.list ≡ Some kernel
  pub is : IsTextFrom source text.defines kernel text.lanes bytes

-- source and launch file were read, with numbers for names below 2^63, and the kernel of the first launch was compiled
-- to the object with this text
pub record IsMadeText (files : Option FileMap) (ask : BuildFiles) (bytes : List ℕ) : Type 0 where
  pub source : List ℕ
  pub text : Text
  pub read : BuildRead files ask source text
  pub fit : DefinesFit text.defines
  pub is : IsFirstText source text bytes

-- and that text was saved
pub record IsBuilt (old new : Option FileMap) (ask : BuildFiles) : Type 0 where
  pub bytes : List ℕ
  pub made : IsMadeText old ask bytes
  pub saved : HasSaved old new ask.object bytes
  pub others : KeepsOthers old new ask.object

-- saving that text failed: nothing is known of what the object file holds, and every other name is as before
pub record BuildSaveStopped (old new : Option FileMap) (ask : BuildFiles) : Type 0 where
  pub bytes : List ℕ
  pub made : IsMadeText old ask bytes
  pub others : KeepsOthers old new ask.object

-- which files a refusal leaves: all, but for the object file where saving it failed
abbrev pub BuildLeaves : Standing → Standing → BuildFiles → RunError → Type 0
BuildLeaves old new ask Failed = (new.files ≡ old.files) ⊎ BuildSaveStopped old.files new.files ask
BuildLeaves old new ask _ = new.files ≡ old.files

-- ---- exec: by the meaning of the decoded program

-- what an object asks of its launches, and its program
abbrev pub needs_of_object : PlainObject → Needs
needs_of_object o = record { kinds = o.params; local_bytes = sum o.locals; required = o.sizes }

abbrev pub object_runs : PlainObject → Runs
object_runs o = record { needs = needs_of_object o; program = plain_in o }

-- one for each launch
abbrev pub runs_each : PlainObject → List Part → List Runs
runs_each o parts = map (λ (part : Part). object_runs o) parts

-- each launch names the object's kernel
abbrev pub NameKernel : Text → PlainObject → Type 0
NameKernel text o = Each (λ (part : Part). part.kernel ≡ o.kernel) text.list

-- besides, the bytes are the text of this object, and each launch names its kernel
pub record ExecTaken (files : Option FileMap) (ask : ObjectFiles) (text : Text) (o : PlainObject) : Type 0 where
  pub bytes : List ℕ
  pub read : ExecRead files ask bytes text
  pub is_text : IsObjectOf bytes o
  pub names : NameKernel text o

-- E601: the bytes are the text of no object
pub record IsNoObject (files : Option FileMap) (ask : ObjectFiles) : Type 0 where
  pub bytes : List ℕ
  pub text : Text
  pub read : ExecRead files ask bytes text
  pub none : (o : PlainObject) → IsObjectOf bytes o → ⊥

-- L18: a launch names another kernel
pub record NamesOther (files : Option FileMap) (ask : ObjectFiles) : Type 0 where
  pub bytes : List ℕ
  pub text : Text
  pub object : PlainObject
  pub read : ExecRead files ask bytes text
  pub is_text : IsObjectOf bytes object
  pub other : NameKernel text object → ⊥

-- the run is done
pub record ExecDone (old new : Option FileMap) (ask : ObjectFiles) (summary : Summary) : Type 0 where
  pub text : Text
  pub object : PlainObject
  pub taken : ExecTaken old ask text object
  pub run : AreRun old new text (runs_each object text.list) summary

-- no condition stands on its launches, and a buffer's file is not there
pub record ExecLacksBuffer (files : Option FileMap) (ask : ObjectFiles) : Type 0 where
  pub text : Text
  pub object : PlainObject
  pub taken : ExecTaken files ask text object
  pub accepted : runs_refusal text (runs_each object text.list) ≡ None
  pub lacks : LacksOneFile files (loads_of text.buffers)

-- a condition stands on its launches
pub record ExecUnbound (files : Option FileMap) (ask : ObjectFiles) (refusal : Refusal) : Type 0 where
  pub text : Text
  pub object : PlainObject
  pub taken : ExecTaken files ask text object
  pub refused : runs_refusal text (runs_each object text.list) ≡ Some refusal

-- a launch ends so
pub record ExecStopped (files : Option FileMap) (ask : ObjectFiles) (error : RunError) : Type 0 where
  pub text : Text
  pub object : PlainObject
  pub taken : ExecTaken files ask text object
  pub stopped : AreStopped files text (runs_each object text.list) error

-- the cause of a refusal that comes before the launches are bound
abbrev pub TakingFinds : Option FileMap → ObjectFiles → RunError → Type 0
TakingFinds files ask Absent = LacksExec files ask
TakingFinds files ask NotObject = IsNoObject files ask
TakingFinds files ask (Launch refusal) = ExecUnread files ask refusal ⊎ ((refusal ≡ OtherKernel) × NamesOther files ask)
TakingFinds files ask _ = ⊥

-- the same with faults and want of memory
abbrev pub TakingCause : Standing → Standing → ObjectFiles → RunError → Type 0
TakingCause old new ask Failed = Rose old.faults new.faults
TakingCause old new ask Absent = Rose old.misses new.misses × LacksExec old.files ask
TakingCause old new ask NotObject = IsNoObject old.files ask
TakingCause old new ask (Launch refusal) =
    ExecUnread old.files ask refusal ⊎ ((refusal ≡ OtherKernel) × NamesOther old.files ask)
TakingCause old new ask Memory = ⊤
TakingCause old new ask _ = ⊥

-- and behind that
abbrev pub TakenFinds : Option FileMap → ObjectFiles → RunError → Type 0
TakenFinds files ask Absent = ExecLacksBuffer files ask
TakenFinds files ask (Launch refusal) = ExecUnbound files ask refusal
TakenFinds files ask (Range launch several group item place) =
    ExecStopped files ask (Range launch several group item place)
TakenFinds files ask (Parted launch several group item place) =
    ExecStopped files ask (Parted launch several group item place)
TakenFinds files ask (Turns launch several) = ExecStopped files ask (Turns launch several)
TakenFinds files ask _ = ⊥

-- what the files decide of `exec`
abbrev pub ExecFinds : Option FileMap → ObjectFiles → RunError → Type 0
ExecFinds files ask error = TakingFinds files ask error ⊎ TakenFinds files ask error

-- the cause of each refusal of `exec`
abbrev pub ExecCause : Standing → Standing → ObjectFiles → RunError → Type 0
ExecCause old new ask Failed = Rose old.faults new.faults
ExecCause old new ask Absent = Rose old.misses new.misses × ExecFinds old.files ask Absent
ExecCause old new ask Memory = ⊤
ExecCause old new ask error = ExecFinds old.files ask error

-- saving had begun
pub record ExecSaveStopped (old new : Option FileMap) (ask : ObjectFiles) : Type 0 where
  pub text : Text
  pub object : PlainObject
  pub taken : ExecTaken old ask text object
  pub stopped : AreSaveStopped old new text (runs_each object text.list)

-- which files a refusal leaves
abbrev pub ExecLeaves : Standing → Standing → ObjectFiles → RunError → Type 0
ExecLeaves old new ask Failed = (new.files ≡ old.files) ⊎ ExecSaveStopped old.files new.files ask
ExecLeaves old new ask _ = new.files ≡ old.files

-- what `exec` loads is there and accepted, and its launches are done by its program
pub record ExecAccepted (files : Option FileMap) (ask : ObjectFiles) (text : Text) (o : PlainObject) : Type 0 where
  pub taken : ExecTaken files ask text o
  pub told : is_some files ≡ true
  pub buffers_told : (name : List ℕ) → Contains (loads_of text.buffers) (Some name) → (bytes : List ℕ) ×
      (told_file files name ≡ Some (Some bytes))
  pub accepted : runs_refusal text (runs_each o text.list) ≡ None
  pub done : (before : List (List ℕ)) → BuffersLoaded files text before → (after : List (List ℕ)) ×
      LaunchesRan (programs_of (runs_each o text.list)) (launches_in text) before after
