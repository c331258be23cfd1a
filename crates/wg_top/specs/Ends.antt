-- How the call ends.
use Rattle.std.specs.Prelude.{◌≡◌, ◌⊎◌, ⊤, ℕ, List, Option, Some, codes, is_some, true}
use Rattle.std.specs.Io.KnownBytes.{Appends}
use Rattle.wg_outside.specs.Counts.{Rose}
use Rattle.wg_outside.specs.Files.{FileMap}
use Rattle.wg_outside.specs.Bytes.{AppendsPrefix}
use Rattle.wg_top.specs.declared.RunError.{RunError}
use Rattle.wg_top.specs.declared.RunError.TheVariants.{Failed, Absent}
use Rattle.command_words.specs.Command.{Files, Request, run, cached, plan, code, sample, BuildFiles, ObjectFiles}
use Rattle.command_words.specs.Command.{build, exec}
use Rattle.wg_object.specs.Plain.{PlainObject}
use Rattle.wg_top.specs.declared.Summary.{Summary}
use Rattle.launch_file.specs.Texts.{Text}
use Rattle.cl_meaning.specs.Typed.{Unit'}
use Rattle.cl_check_sound.specs.Law.{DefinesFit}
use Rattle.wg_top.specs.CompiledCauses.{Finds, Cause, LeavesFiles, IsDone, AcceptedRun}
use Rattle.wg_top.specs.Causes.{ReadingFinds, ReadingCause, RunRead, IsReadable}
use Rattle.wg_top.specs.CompiledOutcomes.{AreMade, HaveGroupPrograms}
use Rattle.wg_top.specs.Shown.{Showing, Shows}
use Rattle.wg_top.specs.CompiledShown.{plan_shown, code_shown}
use Rattle.wg_top.specs.Sample.{sample_files, sample_ask}
use Rattle.wg_top.specs.CompiledSample.{IsSample, SampleCause}
use Rattle.wg_top.specs.CompiledObjects.{IsBuilt, BuildLeaves, ExecDone, ExecCause, ExecLeaves, ExecFinds}
use Rattle.wg_top.specs.CompiledObjects.{ExecAccepted}
use Rattle.wg_top.specs.Objects.{BuildCause, BuildFinds, BuildAccepted}
use Rattle.wg_top.specs.Cached.{CachedDone, CachedCause, CachedLeaves, CachedFinds, CachedAccepted}
use Rattle.wg_top.specs.Lines.{built_line, done_line, sample_line, error_line, status_of}
use Rattle.wg_top.specs.Outside.{SinkStanding, Says, Outside}

-- a run that is asked for
abbrev pub asked : List ℕ → List ℕ → Option ℕ → Option ℕ → Files
asked source launch lanes turns = record { source = source; launch = launch; lanes = lanes; turns = turns }

-- the run is done, and its line is on `out`
pub record EndsDone (old new : Outside) (ask : Files) (status : ℕ) : Type 0 where
  pub summary : Summary
  pub status_is : status ≡ 0
  pub done : IsDone old.store.files new.store.files ask summary
  pub said : Appends old.out.written new.out.written (done_line summary.groups summary.items)
  pub err_stays : new.err ≡ old.err

-- the run is done, and its line could not be put on `out`
pub record EndsUnsaid (old new : Outside) (ask : Files) (status : ℕ) : Type 0 where
  pub summary : Summary
  pub status_is : status ≡ 1
  pub done : IsDone old.store.files new.store.files ask summary
  pub failed : Rose old.out.faults new.out.faults
  pub part : AppendsPrefix old.out.written new.out.written (done_line summary.groups summary.items)
  pub said : Says old.err new.err (error_line ask.source Failed)

-- the run is refused, with its cause, its status and its line
pub record EndsRefused (old new : Outside) (ask : Files) (status : ℕ) : Type 0 where
  pub error : RunError
  pub status_is : status ≡ status_of error
  pub cause : Cause old.store new.store ask error
  pub leaves : LeavesFiles old.store new.store ask error
  pub said : Says old.err new.err (error_line ask.source error)
  pub out_stays : new.out ≡ old.out

-- one of the three
abbrev pub Ends : Outside → Outside → Files → ℕ → Type 0
Ends old new ask status = EndsDone old new ask status ⊎ EndsUnsaid old new ask status ⊎ EndsRefused old new ask status

-- a run with the cache is done, and its line is on `out`
pub record EndsCachedDone (old new : Outside) (ask : Files) (status : ℕ) : Type 0 where
  pub summary : Summary
  pub status_is : status ≡ 0
  pub done : CachedDone old.store.files new.store.files ask summary
  pub said : Appends old.out.written new.out.written (done_line summary.groups summary.items)
  pub err_stays : new.err ≡ old.err

-- it is done, and its line could not be put on `out`
pub record EndsCachedUnsaid (old new : Outside) (ask : Files) (status : ℕ) : Type 0 where
  pub summary : Summary
  pub status_is : status ≡ 1
  pub done : CachedDone old.store.files new.store.files ask summary
  pub failed : Rose old.out.faults new.out.faults
  pub part : AppendsPrefix old.out.written new.out.written (done_line summary.groups summary.items)
  pub said : Says old.err new.err (error_line ask.source Failed)

-- it is refused, with its cause, its status and its line
pub record EndsCachedRefused (old new : Outside) (ask : Files) (status : ℕ) : Type 0 where
  pub error : RunError
  pub status_is : status ≡ status_of error
  pub cause : CachedCause old.store new.store ask error
  pub leaves : CachedLeaves old.store new.store ask error
  pub said : Says old.err new.err (error_line ask.source error)
  pub out_stays : new.out ≡ old.out

-- how a run with the cache ends, honest files or not
abbrev pub EndsCached : Outside → Outside → Files → ℕ → Type 0
EndsCached old new ask status =
    EndsCachedDone old new ask status ⊎ EndsCachedUnsaid old new ask status ⊎ EndsCachedRefused old new ask status

-- all was read, with numbers for names below 2^63, these are the texts of its launches, and what is kept once is equal
pub record ShownRead (files : Option FileMap) (ask : Files) (show : Showing) (shown : List ℕ) : Type 0 where
  pub text : Text
  pub units : List Unit'
  pub read : RunRead files ask text units
  pub fit : DefinesFit text.defines
  pub shows : Shows show text units shown
  pub made : AreMade units
  pub compiled : HaveGroupPrograms text.lanes text.list units

-- the texts are on `out`
pub record EndsShown (old new : Outside) (ask : Files) (show : Showing) (status : ℕ) : Type 0 where
  pub shown : List ℕ
  pub status_is : status ≡ 0
  pub read : ShownRead old.store.files ask show shown
  pub files_stay : new.store.files ≡ old.store.files
  pub said : Appends old.out.written new.out.written shown
  pub err_stays : new.err ≡ old.err

-- the texts could not be put on `out`
pub record EndsUnshown (old new : Outside) (ask : Files) (show : Showing) (status : ℕ) : Type 0 where
  pub shown : List ℕ
  pub status_is : status ≡ 1
  pub read : ShownRead old.store.files ask show shown
  pub files_stay : new.store.files ≡ old.store.files
  pub failed : Rose old.out.faults new.out.faults
  pub part : AppendsPrefix old.out.written new.out.written shown
  pub said : Says old.err new.err (error_line ask.source Failed)

-- the command is refused, with its cause, its status and its line
pub record EndsUnread (old new : Outside) (ask : Files) (status : ℕ) : Type 0 where
  pub error : RunError
  pub status_is : status ≡ status_of error
  pub cause : ReadingCause old.store new.store ask error
  pub files_stay : new.store.files ≡ old.store.files
  pub said : Says old.err new.err (error_line ask.source error)
  pub out_stays : new.out ≡ old.out

-- how a command ends that runs nothing
abbrev pub EndsShowing : Outside → Outside → Files → Showing → ℕ → Type 0
EndsShowing old new ask show status =
    EndsShown old new ask show status ⊎ EndsUnshown old new ask show status ⊎ EndsUnread old new ask status

-- the sample's line is on `out`
pub record EndsSampled (old_out new_out old_err new_err : SinkStanding) (number status : ℕ) : Type 0 where
  pub sum : ℕ
  pub status_is : status ≡ 0
  pub sample : IsSample number sum
  pub said : Appends old_out.written new_out.written (sample_line number sum)
  pub err_stays : new_err ≡ old_err

-- the sample's line could not be put on `out`
pub record EndsUnsampled (old_out new_out old_err new_err : SinkStanding) (number status : ℕ) : Type 0 where
  pub sum : ℕ
  pub status_is : status ≡ 1
  pub sample : IsSample number sum
  pub failed : Rose old_out.faults new_out.faults
  pub part : AppendsPrefix old_out.written new_out.written (sample_line number sum)
  pub said : Says old_err new_err (error_line (codes "sample.cl") Failed)

-- the launch is refused, by no fault of a store
pub record EndsNoSample (old_out new_out old_err new_err : SinkStanding) (number status : ℕ) : Type 0 where
  pub error : RunError
  pub status_is : status ≡ status_of error
  pub cause : SampleCause number error
  pub no_fault : (error ≡ Failed → ⊥) × (error ≡ Absent → ⊥)
  pub said : Says old_err new_err (error_line (codes "sample.cl") error)
  pub out_stays : new_out ≡ old_out

-- how the sample ends, which leaves the store alone
abbrev pub EndsSample : SinkStanding → SinkStanding → SinkStanding → SinkStanding → ℕ → ℕ → Type 0
EndsSample old_out new_out old_err new_err number status =
    EndsSampled old_out new_out old_err new_err number status ⊎
    EndsUnsampled old_out new_out old_err new_err number status ⊎
    EndsNoSample old_out new_out old_err new_err number status

-- the object file is saved, and its line is on `out`
pub record EndsBuilt (old new : Outside) (ask : BuildFiles) (status : ℕ) : Type 0 where
  pub status_is : status ≡ 0
  pub built : IsBuilt old.store.files new.store.files ask
  pub said : Appends old.out.written new.out.written built_line
  pub err_stays : new.err ≡ old.err

-- the object file is saved, and its line could not be put on `out`
pub record EndsBuiltUnsaid (old new : Outside) (ask : BuildFiles) (status : ℕ) : Type 0 where
  pub status_is : status ≡ 1
  pub built : IsBuilt old.store.files new.store.files ask
  pub failed : Rose old.out.faults new.out.faults
  pub part : AppendsPrefix old.out.written new.out.written built_line
  pub said : Says old.err new.err (error_line ask.source Failed)

-- refused, with its cause, its status and its line: no file is changed, but the object file where all was read and
-- compiled and saving it failed
pub record EndsUnbuilt (old new : Outside) (ask : BuildFiles) (status : ℕ) : Type 0 where
  pub error : RunError
  pub status_is : status ≡ status_of error
  pub cause : BuildCause old.store new.store ask error
  pub leaves : BuildLeaves old.store new.store ask error
  pub said : Says old.err new.err (error_line ask.source error)
  pub out_stays : new.out ≡ old.out

-- how `build` ends
abbrev pub EndsBuilding : Outside → Outside → BuildFiles → ℕ → Type 0
EndsBuilding old new ask status =
    EndsBuilt old new ask status ⊎ EndsBuiltUnsaid old new ask status ⊎ EndsUnbuilt old new ask status

-- the launches of an object are done, and their line is on `out`
pub record EndsExecDone (old new : Outside) (ask : ObjectFiles) (status : ℕ) : Type 0 where
  pub summary : Summary
  pub status_is : status ≡ 0
  pub done : ExecDone old.store.files new.store.files ask summary
  pub said : Appends old.out.written new.out.written (done_line summary.groups summary.items)
  pub err_stays : new.err ≡ old.err

-- they are done, and their line could not be put on `out`
pub record EndsExecUnsaid (old new : Outside) (ask : ObjectFiles) (status : ℕ) : Type 0 where
  pub summary : Summary
  pub status_is : status ≡ 1
  pub done : ExecDone old.store.files new.store.files ask summary
  pub failed : Rose old.out.faults new.out.faults
  pub part : AppendsPrefix old.out.written new.out.written (done_line summary.groups summary.items)
  pub said : Says old.err new.err (error_line ask.object Failed)

-- refused, with its cause, its status and its line
pub record EndsExecRefused (old new : Outside) (ask : ObjectFiles) (status : ℕ) : Type 0 where
  pub error : RunError
  pub status_is : status ≡ status_of error
  pub cause : ExecCause old.store new.store ask error
  pub leaves : ExecLeaves old.store new.store ask error
  pub said : Says old.err new.err (error_line ask.object error)
  pub out_stays : new.out ≡ old.out

-- how `exec` ends
abbrev pub EndsExec : Outside → Outside → ObjectFiles → ℕ → Type 0
EndsExec old new ask status =
    EndsExecDone old new ask status ⊎ EndsExecUnsaid old new ask status ⊎ EndsExecRefused old new ask status

-- how a command ends
abbrev pub EndsAsked : Outside → Outside → Request → ℕ → Type 0
EndsAsked old new (run ask) status = Ends old new ask status
EndsAsked old new (cached ask) status = EndsCached old new ask status
EndsAsked old new (plan ask) status = EndsShowing old new ask plan_shown status
EndsAsked old new (code ask) status = EndsShowing old new ask code_shown status
EndsAsked old new (sample number) status =
    (new.store ≡ old.store) × EndsSample old.out new.out old.err new.err number status
EndsAsked old new (build ask) status = EndsBuilding old new ask status
EndsAsked old new (exec ask) status = EndsExec old new ask status

-- what a command loads is there and accepted, and the launches of a run are done; the sample has files of its own
abbrev pub AcceptedFor : Option FileMap → Request → Type 0
AcceptedFor files (run ask) = AcceptedRun files ask
AcceptedFor files (cached ask) = CachedAccepted files ask
AcceptedFor files (plan ask) = (text : Text) × (units : List Unit') × IsReadable files ask text units
AcceptedFor files (code ask) = (text : Text) × (units : List Unit') × IsReadable files ask text units
AcceptedFor files (sample number) = AcceptedRun (Some (sample_files number)) sample_ask
AcceptedFor files (build ask) = (text : Text) × (u : Unit') × BuildAccepted files ask text u
AcceptedFor files (exec ask) = (text : Text) × (object : PlainObject) × ExecAccepted files ask text object

-- files that are told decide that a command is refused so, faults and want of memory aside; those of the sample are
-- its own
abbrev pub FindsFor : Option FileMap → Request → RunError → Type 0
FindsFor files (run ask) error = (is_some files ≡ true) × Finds files ask error
FindsFor files (cached ask) error = (is_some files ≡ true) × CachedFinds files ask error
FindsFor files (plan ask) error = (is_some files ≡ true) × ReadingFinds files ask error
FindsFor files (code ask) error = (is_some files ≡ true) × ReadingFinds files ask error
FindsFor files (sample number) error = Finds (Some (sample_files number)) sample_ask error
FindsFor files (build ask) error = (is_some files ≡ true) × BuildFinds files ask error
FindsFor files (exec ask) error = (is_some files ≡ true) × ExecFinds files ask error

-- no fault of the store rose, which the sample leaves alone
abbrev pub NoStoreFault : Request → (old new : ℕ) → Type 0
NoStoreFault (run ask) old new = Rose old new → ⊥
NoStoreFault (cached ask) old new = Rose old new → ⊥
NoStoreFault (plan ask) old new = Rose old new → ⊥
NoStoreFault (code ask) old new = Rose old new → ⊥
NoStoreFault (sample number) old new = ⊤
NoStoreFault (build ask) old new = Rose old new → ⊥
NoStoreFault (exec ask) old new = Rose old new → ⊥

-- nothing went to `out` but a first part of a line, where its faults rose
abbrev pub KeepsOut : SinkStanding → SinkStanding → Type 0
KeepsOut old new =
    (new ≡ old) ⊎ ((line : List ℕ) × AppendsPrefix old.written new.written line × Rose old.faults new.faults)

-- a line went to `err`
abbrev pub SaysLine : SinkStanding → SinkStanding → Type 0
SaysLine old new = (line : List ℕ) × Says old new line
