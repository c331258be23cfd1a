-- What a run reads, why it is refused before its launches run, and which runs are clean: on the model alone.
use Rattle.std.specs.Prelude.{◌≡◌, ◌≤◌, ◌⊎◌, ⊤, ℕ, List, take, Option, Some, None, Contains}
use Rattle.wg_num.specs.declared.types.Place.{Place}
use Rattle.wg_outside.specs.Counts.{Rose}
use Rattle.wg_outside.specs.Files.{FileMap, HasFileStart, LacksFile, told_file}
use Rattle.buffer_io.specs.Loads.{AllStartAs, LacksOneFile}
use Rattle.buffer_io.specs.Saves.{AllSavedAs, KeepsAllBut}
use Rattle.command_words.specs.Command.{Files}
use Rattle.launch_file.specs.declared.refusal.Refusal.{Refusal}
use Rattle.launch_file.specs.Refusals.{Reads, IsRefused}
use Rattle.launch_file.specs.Binding.{loads_of, saves_of, lengths_of}
use Rattle.launch_file.specs.Texts.{Text}
use Rattle.wg_top.specs.declared.RunError.{RunError}
use Rattle.wg_top.specs.declared.RunError.TheVariants.{Failed, Absent, Source, Launch, Memory}
use Rattle.cl_meaning.specs.Typed.{Unit'}
use Rattle.cl_check_sound.specs.Law.{DefinesFit}
use Rattle.cl_front.specs.declared.condition.Condition.{Condition}
use Rattle.cl_front.specs.Front.{HasUnit, StandsAt}
use Rattle.wg_top.specs.Units.{HaveTypedUnits, IsFirstRefused, bind_refusal}
use Rattle.wg_top.specs.Launches.{launches_in}
use Rattle.wg_top.specs.Loops.{HaveNoLoop}
use Rattle.wg_top.specs.Outcomes.{models_in, AreClean, Through, EachLeaves}
use Rattle.launch_file.specs.declared.text.BufferText.{BufferText}
use Rattle.wg_cache.specs.Keys.{IsCacheName}

-- a store at one moment
pub record Standing : Type 0 where
  pub files : Option FileMap
  pub faults : ℕ
  pub misses : ℕ

-- a store at one moment, by the members of its trait
abbrev pub standing : {S : Type 0} → (S → Option FileMap) → (S → ℕ) → (S → ℕ) → S → Standing
standing files faults misses store = record { files = files store; faults = faults store; misses = misses store }

-- no count of the store fell
pub record HasNoFewer (old new : Standing) : Type 0 where
  pub faults : old.faults ≤ new.faults
  pub misses : old.misses ≤ new.misses

-- the first 262145 bytes of the source were loaded: these
abbrev pub SourceLoaded : Option FileMap → List ℕ → List ℕ → Type 0
SourceLoaded files source bytes = HasFileStart files source 262145 bytes

-- the first 1048577 bytes of the launch file were loaded: these
abbrev pub LaunchLoaded : Option FileMap → List ℕ → List ℕ → Type 0
LaunchLoaded files launch bytes = HasFileStart files launch 1048577 bytes

-- the source and the launch file were loaded, the launch file with the options says this, and the source has a unit,
-- and these typed units with the kernels of the launches
pub record RunRead (files : Option FileMap) (ask : Files) (text : Text) (units : List Unit') : Type 0 where
  pub source_bytes : List ℕ
  pub source_loaded : SourceLoaded files ask.source source_bytes
  pub launch_bytes : List ℕ
  pub launch_loaded : LaunchLoaded files ask.launch launch_bytes
  pub reads : Reads launch_bytes ask.lanes ask.turns text
  pub unit : HasUnit source_bytes text.defines
  pub compiled : HaveTypedUnits source_bytes text.defines text.list units

-- besides, no condition on its launches is violated
pub record RunBound (files : Option FileMap) (ask : Files) (text : Text) (units : List Unit') : Type 0 where
  pub read : RunRead files ask text units
  pub accepted : bind_refusal text units ≡ None

-- the source and the launch file were loaded, and that condition is the first that the launch file violates
pub record TextRefused (files : Option FileMap) (ask : Files) (refusal : Refusal) : Type 0 where
  pub source_bytes : List ℕ
  pub source_loaded : SourceLoaded files ask.source source_bytes
  pub launch_bytes : List ℕ
  pub launch_loaded : LaunchLoaded files ask.launch launch_bytes
  pub refused : IsRefused launch_bytes ask.lanes ask.turns refusal

-- all was read, and that condition is the first that the launches violate
pub record BindRefused (files : Option FileMap) (ask : Files) (refusal : Refusal) : Type 0 where
  pub text : Text
  pub units : List Unit'
  pub read : RunRead files ask text units
  pub refused : bind_refusal text units ≡ Some refusal

-- the source violates the condition at that place: first come conditions of bytes, macros and grammar, then those of
-- the unit with the first launch's kernel that is at fault
abbrev pub IsSourceFault : List ℕ → Text → Condition → Place → Type 0
IsSourceFault bytes text condition place =
    StandsAt bytes text.defines condition place ⊎ IsFirstRefused bytes text.defines text.list condition place

-- the launch file was read, and the source violates the condition at that place
pub record SourceRefused (files : Option FileMap) (ask : Files) (condition : Condition) (place : Place) : Type 0 where
  pub text : Text
  pub source_bytes : List ℕ
  pub source_loaded : SourceLoaded files ask.source source_bytes
  pub launch_bytes : List ℕ
  pub launch_loaded : LaunchLoaded files ask.launch launch_bytes
  pub reads : Reads launch_bytes ask.lanes ask.turns text
  pub fault : IsSourceFault source_bytes text condition place

-- and the numbers that the launch file gives for names are below 2^63
pub record SourceReported (files : Option FileMap) (ask : Files) (condition : Condition) (place : Place) : Type 0 where
  pub refused : SourceRefused files ask condition place
  pub fit : DefinesFit refused.text.defines

-- if files are visible, the source does not exist, or it does and the launch file does not
abbrev pub LacksText : Option FileMap → Files → Type 0
LacksText files ask =
    LacksFile files ask.source ⊎ ((bytes : List ℕ) × SourceLoaded files ask.source bytes × LacksFile files ask.launch)

-- if files are visible, a file that was to be loaded does not exist: the source, the launch file, or the file of a
-- buffer after all was read
abbrev pub LacksName : Option FileMap → Files → Type 0
LacksName files ask =
    LacksText files ask
    ⊎ ((text : Text) × (units : List Unit') × RunBound files ask text units ×
    LacksOneFile files (loads_of text.buffers))

-- the buffers of the launch file were loaded: these
abbrev pub BuffersLoaded : Option FileMap → Text → List (List ℕ) → Type 0
BuffersLoaded files text before = AllStartAs files (lengths_of text.buffers) (loads_of text.buffers) before

-- what the files decide of a command that runs nothing: a file that does not exist, or a condition of the language or
-- of launch files
abbrev pub ReadingFinds : Option FileMap → Files → RunError → Type 0
ReadingFinds files ask Absent = LacksText files ask
ReadingFinds files ask (Source condition place) = SourceRefused files ask condition place
ReadingFinds files ask (Launch refusal) = TextRefused files ask refusal
ReadingFinds files ask _ = ⊥

-- the cause of each refusal of a command that runs nothing: that, a fault of the store, or out of memory
abbrev pub ReadingCause : Standing → Standing → Files → RunError → Type 0
ReadingCause old new ask Failed = Rose old.faults new.faults
ReadingCause old new ask Absent = Rose old.misses new.misses × LacksText old.files ask
ReadingCause old new ask (Source condition place) = SourceReported old.files ask condition place
ReadingCause old new ask (Launch refusal) = TextRefused old.files ask refusal
ReadingCause old new ask Memory = ⊤
ReadingCause old new ask _ = ⊥

-- files are visible, source and launch file exist, the launch file violates no condition, and the source has a unit and
-- the kernels of the launches
pub record IsReadable (files : Option FileMap) (ask : Files) (text : Text) (units : List Unit') : Type 0 where
  pub source_bytes : List ℕ
  pub launch_bytes : List ℕ
  pub source_told : told_file files ask.source ≡ Some (Some source_bytes)
  pub launch_told : told_file files ask.launch ≡ Some (Some launch_bytes)
  pub reads : Reads (take 1048577 launch_bytes) ask.lanes ask.turns text
  pub unit : HasUnit (take 262145 source_bytes) text.defines
  pub compiled : HaveTypedUnits (take 262145 source_bytes) text.defines text.list units

-- besides, the files that the buffers load exist, and no condition on the launches is violated
pub record IsTaken (files : Option FileMap) (ask : Files) (text : Text) (units : List Unit') : Type 0 where
  pub readable : IsReadable files ask text units
  pub buffers_told : (name : List ℕ) → Contains (loads_of text.buffers) (Some name) → (bytes : List ℕ) ×
      (told_file files name ≡ Some (Some bytes))
  pub accepted : bind_refusal text units ≡ None

-- besides, no interleaving of any launch races, accesses memory out of range, parts at a barrier or begins too many
-- iterations: each launch is clean on the buffers that those before it leave
pub record AcceptedClean (files : Option FileMap) (ask : Files) (text : Text) (units : List Unit') : Type 0 where
  pub taken : IsTaken files ask text units
  pub clean : (before : List (List ℕ)) → BuffersLoaded files text before →
      AreClean (models_in units) (launches_in text) before

-- every interleaving of the launches leaves these buffers, which are saved, each whole, and no other name is changed
pub record LeavesClean (old new : Option FileMap) (text : Text) (units : List Unit') : Type 0 where
  pub before : List (List ℕ)
  pub loaded : BuffersLoaded old text before
  pub after : List (List ℕ)
  pub leaves : Through EachLeaves (models_in units) (launches_in text) before after
  pub saved : AllSavedAs old new (saves_of text.buffers) after
  pub others : KeepsAllBut old new (saves_of text.buffers)

-- all was read, and the kernel of some launch has a loop, or a function that it calls
pub record HasLoops (files : Option FileMap) (ask : Files) : Type 0 where
  pub text : Text
  pub units : List Unit'
  pub read : RunRead files ask text units
  pub loops : HaveNoLoop (models_in units) → ⊥

-- no buffer is saved under a name that begins as the names of cache files do
abbrev pub NoCacheName : List BufferText → Type 0
NoCacheName buffers = (name : List ℕ) → Contains (saves_of buffers) (Some name) → IsCacheName name → ⊥
