-- `run --cache` with honest files: what `run` promises, where the entries of what was compiled are kept too.
use Rattle.std.specs.Prelude.{◌≡◌, ◌⊎◌, ◌++◌, ℕ, List, Option, None}
use Rattle.std.specs.Io.KnownBytes.{Appends}
use Rattle.wg_outside.specs.Bytes.{AppendsPrefix}
use Rattle.wg_outside.specs.Counts.{Rose}
use Rattle.wg_outside.specs.Files.{FileMap}
use Rattle.buffer_io.specs.Saves.{AllSavedAs, KeepsAllBut, StopsAt}
use Rattle.cl_meaning.specs.Typed.{Unit'}
use Rattle.command_words.specs.Command.{Files}
use Rattle.launch_file.specs.declared.refusal.Refusal.TheVariants.{SavedUnderCacheName}
use Rattle.launch_file.specs.Binding.{saves_of}
use Rattle.launch_file.specs.Texts.{Text}
use Rattle.wg_top.specs.declared.RunError.{RunError}
use Rattle.wg_top.specs.declared.RunError.TheVariants.{Failed, Launch}
use Rattle.wg_top.specs.declared.Summary.{Summary}
use Rattle.wg_top.specs.Units.{bind_refusal}
use Rattle.wg_top.specs.Launches.{launches_in, all_groups, all_items}
use Rattle.wg_top.specs.Outcomes.{models_in, AllLeave}
use Rattle.wg_top.specs.Causes.{Standing, SourceLoaded, BuffersLoaded, RunRead, AcceptedClean, HasLoops, NoCacheName}
use Rattle.wg_top.specs.CompiledCauses.{HasRun, Cause}
use Rattle.wg_top.specs.Cached.{Honest, AreKept, kept_names, EntriesStopped, SavesUnderCacheName}
use Rattle.wg_top.specs.Lines.{done_line, error_line, status_of}
use Rattle.wg_top.specs.Outside.{Outside, Says}

-- the launches ran as those of a run, the buffers were saved, and behind them entries of this source; every other name
-- is as before
pub record HonestRun (old new : Option FileMap) (source : List ℕ) (text : Text) (units : List Unit')
    (summary : Summary) : Type 0 where
  pub accepted : bind_refusal text units ≡ None
  pub plain : NoCacheName text.buffers
  pub after : List (List ℕ)
  pub run : HasRun old text units after
  pub saved : AllSavedAs old new (saves_of text.buffers) after
  pub kept : FileMap
  pub are_kept : AreKept old source text kept
  pub others : KeepsAllBut old new (saves_of text.buffers ++ kept_names kept)
  pub groups : summary.groups ≡ all_groups (launches_in text)
  pub items : summary.items ≡ all_items (launches_in text)

-- what it asks for was read
pub record HonestDone (old new : Option FileMap) (ask : Files) (summary : Summary) : Type 0 where
  pub source : List ℕ
  pub source_loaded : SourceLoaded old ask.source source
  pub text : Text
  pub units : List Unit'
  pub read : RunRead old ask text units
  pub run : HonestRun old new source text units summary

-- the cause of a refusal: that of a run, or L19
abbrev pub HonestCause : Standing → Standing → Files → RunError → Type 0
HonestCause old new ask error =
    Cause old new ask error ⊎ ((error ≡ Launch SavedUnderCacheName) × SavesUnderCacheName old.files ask)

-- saving had begun: it failed at a buffer, or at an entry
pub record HonestSaveFailed (old new : Option FileMap) (ask : Files) : Type 0 where
  pub source : List ℕ
  pub source_loaded : SourceLoaded old ask.source source
  pub text : Text
  pub units : List Unit'
  pub read : RunRead old ask text units
  pub accepted : bind_refusal text units ≡ None
  pub plain : NoCacheName text.buffers
  pub after : List (List ℕ)
  pub run : HasRun old text units after
  pub stops : (StopsAt old new (saves_of text.buffers) after × KeepsAllBut old new (saves_of text.buffers)) ⊎
      EntriesStopped old new source text after

-- which files it leaves
abbrev pub HonestLeaves : Standing → Standing → Files → RunError → Type 0
HonestLeaves old new ask Failed = (new.files ≡ old.files) ⊎ HonestSaveFailed old.files new.files ask
HonestLeaves old new ask _ = new.files ≡ old.files

-- it is done, and its line is on `out`
pub record EndsHonestDone (old new : Outside) (ask : Files) (status : ℕ) : Type 0 where
  pub summary : Summary
  pub status_is : status ≡ 0
  pub done : HonestDone old.store.files new.store.files ask summary
  pub said : Appends old.out.written new.out.written (done_line summary.groups summary.items)
  pub err_stays : new.err ≡ old.err

-- it is done, and its line could not be put on `out`
pub record EndsHonestUnsaid (old new : Outside) (ask : Files) (status : ℕ) : Type 0 where
  pub summary : Summary
  pub status_is : status ≡ 1
  pub done : HonestDone old.store.files new.store.files ask summary
  pub failed : Rose old.out.faults new.out.faults
  pub part : AppendsPrefix old.out.written new.out.written (done_line summary.groups summary.items)
  pub said : Says old.err new.err (error_line ask.source Failed)

-- it is refused, with its cause, its status and its line
pub record EndsHonestRefused (old new : Outside) (ask : Files) (status : ℕ) : Type 0 where
  pub error : RunError
  pub status_is : status ≡ status_of error
  pub cause : HonestCause old.store new.store ask error
  pub leaves : HonestLeaves old.store new.store ask error
  pub said : Says old.err new.err (error_line ask.source error)
  pub out_stays : new.out ≡ old.out

-- one of the three
abbrev pub EndsHonest : Outside → Outside → Files → (status : ℕ) → Type 0
EndsHonest old new ask status =
    EndsHonestDone old new ask status ⊎ EndsHonestUnsaid old new ask status ⊎ EndsHonestRefused old new ask status

-- every interleaving of clean launches leaves these buffers, which are saved, each whole; all names that are neither
-- saved nor kept are as before
pub record CachedLeavesClean (old new : Option FileMap) (source : List ℕ) (text : Text) (units : List Unit') :
    Type 0 where
  pub before : List (List ℕ)
  pub loaded : BuffersLoaded old text before
  pub after : List (List ℕ)
  pub leaves : AllLeave (models_in units) (launches_in text) before after
  pub saved : AllSavedAs old new (saves_of text.buffers) after
  pub kept : FileMap
  pub are_kept : AreKept old source text kept
  pub others : KeepsAllBut old new (saves_of text.buffers ++ kept_names kept)

-- or it wants memory and changes no file
abbrev pub EndsCachedClean : Option FileMap → Option FileMap → Text → List Unit' → (status : ℕ) → Type 0
EndsCachedClean old new text units status =
    ((status ≡ 0) × ((source : List ℕ) × CachedLeavesClean old new source text units))
    ⊎ ((status ≡ 8) × (new ≡ old))

-- ---- what a run with the cache promises where its files are told and honest, beside what they decide

pub record WithHonestFiles (old new : Outside) (ask : Files) (status : ℕ) : Type 0 where
  -- each end is one of a run of the source, and so is the printed line
  pub ends : EndsHonest old new ask status
  -- 7 says that there is a loop
  pub looped : status ≡ 7 → HasLoops old.store.files ask
  -- what every interleaving of clean launches leaves is saved
  pub clean : (text : Text) (units : List Unit') → AcceptedClean old.store.files ask text units →
      NoCacheName text.buffers → (Rose old.store.faults new.store.faults → ⊥) →
      (Rose old.out.faults new.out.faults → ⊥) →
      EndsCachedClean old.store.files new.store.files text units status
  -- honest files stay honest
  pub honest : (Rose old.store.faults new.store.faults → ⊥) → Honest new.store.files
