-- What `exec` does with an object that a source is compiled to: what `run` does with that source.
use Rattle.std.specs.Prelude.{◌≡◌, ◌⊎◌, ℕ, List, map, Option, Some, None, Contains, is_some, true}
use Rattle.std.specs.Io.KnownBytes.{Appends}
use Rattle.wg_outside.specs.Bytes.{AppendsPrefix}
use Rattle.wg_outside.specs.Counts.{Rose}
use Rattle.wg_outside.specs.Files.{FileMap, told_file}
use Rattle.buffer_io.specs.Loads.{LacksOneFile}
use Rattle.cl_meaning.specs.Typed.{Unit'}
use Rattle.command_words.specs.Command.{ObjectFiles}
use Rattle.launch_file.specs.Binding.{loads_of}
use Rattle.launch_file.specs.Texts.{Text, Part}
use Rattle.wg_object.specs.Plain.{PlainObject}
use Rattle.wg_top.specs.declared.RunError.{RunError}
use Rattle.wg_top.specs.declared.RunError.TheVariants.{Failed, Absent, Launch, Range, Parted, Turns}
use Rattle.wg_top.specs.declared.Summary.{Summary}
use Rattle.wg_top.specs.Units.{bind_refusal}
use Rattle.wg_top.specs.CompiledLaunches.{programs_in, LaunchesRan}
use Rattle.wg_top.specs.Launches.{launches_in}
use Rattle.wg_top.specs.Outcomes.{models_in, AreClean}
use Rattle.wg_top.specs.Loops.{HaveNoLoop}
use Rattle.wg_top.specs.Causes.{BuffersLoaded}
use Rattle.wg_top.specs.CompiledCauses.{IsRun, IsStopped}
use Rattle.wg_top.specs.Stages.{BackCause, LeavesOthers}
use Rattle.wg_top.specs.CompiledObjects.{CompilesTo, ExecTaken, TakingCause}
use Rattle.wg_top.specs.Lines.{done_line, error_line, status_of}
use Rattle.wg_top.specs.Outside.{Outside, Says, EndsClean}

-- ---- the source's launches

-- some source is compiled to the object; and these are the launch file as a run of that source has it, with the numbers
-- for names and the lanes of the compilation, and the source's typed unit, once for each launch
pub record IsOfSource (o : PlainObject) (read text : Text) (units : List Unit') : Type 0 where
  pub source : List ℕ
  pub compiles : CompilesTo source text.defines o.kernel text.lanes o
  pub text_is : text ≡ record read { defines = text.defines; lanes = text.lanes }
  pub units_are : units ≡ map (λ (part : Part). compiles.typed) read.list

-- ---- how a run of units ends

-- the launches are done, and their line is on `out`
pub record EndsUnitsDone (old new : Outside) (text : Text) (units : List Unit') (status : ℕ) : Type 0 where
  pub summary : Summary
  pub status_is : status ≡ 0
  pub run : IsRun old.store.files new.store.files text units summary
  pub said : Appends old.out.written new.out.written (done_line summary.groups summary.items)
  pub err_stays : new.err ≡ old.err

-- they are done, and their line could not be put on `out`; `file` is the word that names the first file
pub record EndsUnitsUnsaid (old new : Outside) (file : List ℕ) (text : Text) (units : List Unit') (status : ℕ) :
    Type 0 where
  pub summary : Summary
  pub status_is : status ≡ 1
  pub run : IsRun old.store.files new.store.files text units summary
  pub failed : Rose old.out.faults new.out.faults
  pub part : AppendsPrefix old.out.written new.out.written (done_line summary.groups summary.items)
  pub said : Says old.err new.err (error_line file Failed)

-- they are refused, with cause, status and line
pub record EndsUnitsRefused (old new : Outside) (file : List ℕ) (text : Text) (units : List Unit') (status : ℕ) :
    Type 0 where
  pub error : RunError
  pub status_is : status ≡ status_of error
  pub cause : BackCause old.store new.store text units error
  pub leaves : LeavesOthers old.store new.store text units error
  pub said : Says old.err new.err (error_line file error)
  pub out_stays : new.out ≡ old.out

-- one of the three
abbrev pub EndsUnits : Outside → Outside → List ℕ → Text → List Unit' → ℕ → Type 0
EndsUnits old new file text units status =
    EndsUnitsDone old new text units status
    ⊎ EndsUnitsUnsaid old new file text units status
    ⊎ EndsUnitsRefused old new file text units status

-- ---- how `exec` ends

-- refused before there is an object and launches that name its kernel
pub record EndsUntaken (old new : Outside) (ask : ObjectFiles) (status : ℕ) : Type 0 where
  pub error : RunError
  pub status_is : status ≡ status_of error
  pub cause : TakingCause old.store new.store ask error
  pub stays : new.store.files ≡ old.store.files
  pub said : Says old.err new.err (error_line ask.object error)
  pub out_stays : new.out ≡ old.out

-- there are an object and such launches, and with each source that is compiled to the object they end as a run of that
-- source's units does
pub record EndsTaken (old new : Outside) (ask : ObjectFiles) (status : ℕ) : Type 0 where
  pub read : Text
  pub object : PlainObject
  pub taken : ExecTaken old.store.files ask read object
  pub ends : (text : Text) (units : List Unit') → IsOfSource object read text units →
      EndsUnits old new ask.object text units status

-- ---- what is known of the files

-- the files are told: an object file with the text of an object that a source is compiled to, and a launch file whose
-- launches name its kernel; and these are the launch file and the units as a run of that source has them
pub record IsReadableOfSource (files : Option FileMap) (ask : ObjectFiles) (text : Text) (units : List Unit') :
    Type 0 where
  pub told : is_some files ≡ true
  pub read : Text
  pub object : PlainObject
  pub taken : ExecTaken files ask read object
  pub source : IsOfSource object read text units

-- besides, the files that the buffers load are there, and no condition stands on the launches
pub record IsTakenOfSource (files : Option FileMap) (ask : ObjectFiles) (text : Text) (units : List Unit') :
    Type 0 where
  pub readable : IsReadableOfSource files ask text units
  pub buffers_told : (name : List ℕ) → Contains (loads_of text.buffers) (Some name) → (bytes : List ℕ) ×
      (told_file files name ≡ Some (Some bytes))
  pub accepted : bind_refusal text units ≡ None

-- besides, each launch is done on the buffers that those before it leave
pub record AcceptedOfSource (files : Option FileMap) (ask : ObjectFiles) (text : Text) (units : List Unit') :
    Type 0 where
  pub taken : IsTakenOfSource files ask text units
  pub done : (before : List (List ℕ)) → BuffersLoaded files text before → (after : List (List ℕ)) ×
      LaunchesRan (programs_in text units) (launches_in text) before after

-- or each is clean on them
pub record CleanOfSource (files : Option FileMap) (ask : ObjectFiles) (text : Text) (units : List Unit') : Type 0 where
  pub taken : IsTakenOfSource files ask text units
  pub clean : (before : List (List ℕ)) → BuffersLoaded files text before →
      AreClean (models_in units) (launches_in text) before

-- the refusal of launches that the files decide
abbrev pub UnitsFind : Option FileMap → Text → List Unit' → RunError → Type 0
UnitsFind files text units Absent = (bind_refusal text units ≡ None) × LacksOneFile files (loads_of text.buffers)
UnitsFind files text units (Launch refusal) = bind_refusal text units ≡ Some refusal
UnitsFind files text units (Range launch several group item place) =
    IsStopped files text units (Range launch several group item place)
UnitsFind files text units (Parted launch several group item place) =
    IsStopped files text units (Parted launch several group item place)
UnitsFind files text units (Turns launch several) = IsStopped files text units (Turns launch several)
UnitsFind files text units _ = ⊥

-- there are an object and launches that name its kernel, and the kernel of each source that is compiled to it has a
-- loop, or a function that it calls
pub record ObjectHasLoops (files : Option FileMap) (ask : ObjectFiles) : Type 0 where
  pub read : Text
  pub object : PlainObject
  pub taken : ExecTaken files ask read object
  pub loops : (text : Text) (units : List Unit') → IsOfSource object read text units →
      HaveNoLoop (models_in units) → ⊥

-- ---- what `exec` promises of such an object, as `run` of the source

pub record IsExecOfSource (old new : Outside) (ask : ObjectFiles) (status : ℕ) : Type 0 where
  -- how it ends, whatever is told of the files
  pub ends : EndsUntaken old new ask status ⊎ EndsTaken old new ask status
  -- and where they are told
  pub ends_told : (text : Text) (units : List Unit') → IsReadableOfSource old.store.files ask text units →
      EndsUnits old new ask.object text units status
  -- 7 says that there is a loop
  pub looped : status ≡ 7 → ObjectHasLoops old.store.files ask
  -- what must come where no fault of the store rises, want of memory aside
  pub exact : (text : Text) (units : List Unit') (error : RunError) →
      IsReadableOfSource old.store.files ask text units → UnitsFind old.store.files text units error →
      (Rose old.store.faults new.store.faults → ⊥) → (status ≡ status_of error) ⊎ (status ≡ 8)
  pub complete : (text : Text) (units : List Unit') →
      AcceptedOfSource old.store.files ask text units ⊎ CleanOfSource old.store.files ask text units →
      (Rose old.store.faults new.store.faults → ⊥) → (Rose old.out.faults new.out.faults → ⊥) →
      (status ≡ 0) ⊎ (status ≡ 8)
  -- what every interleaving of clean launches leaves is saved
  pub clean : (text : Text) (units : List Unit') → CleanOfSource old.store.files ask text units →
      (Rose old.store.faults new.store.faults → ⊥) → (Rose old.out.faults new.out.faults → ⊥) →
      EndsClean old.store.files new.store.files text units status
