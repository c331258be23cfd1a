-- `run --cache`: when cache files are honest, which object each launch runs, what is kept, and why a run ends so.
use Rattle.std.specs.Prelude.{◌≡◌, ◌≤◌, ◌⊎◌, ⊤, ℕ, List, [], ◌∷◌, ◌++◌, Option, Some, None, IfSome, map, length}
use Rattle.std.specs.Prelude.{Contains}
use Rattle.wg_num.specs.declared.types.Place.{Place}
use Rattle.wg_num.specs.declared.types.Width.{Width}
use Rattle.wg_num.specs.Operators.{lanes_of}
use Rattle.wg_outside.specs.Counts.{Rose}
use Rattle.wg_outside.specs.Files.{FileMap, told_file}
use Rattle.buffer_io.specs.Loads.{LacksOneFile}
use Rattle.buffer_io.specs.Saves.{AllSavedAs, KeepsAllBut, StopsAt}
use Rattle.cl_prep.specs.declared.prep.Define.{Define}
use Rattle.cl_meaning.specs.Typed.{Unit'}
use Rattle.cl_check_sound.specs.Law.{DefinesFit}
use Rattle.cl_front.specs.declared.condition.Condition.{Condition}
use Rattle.cl_front.specs.Typed.{HasNoTypedUnit}
use Rattle.command_words.specs.Command.{Files}
use Rattle.launch_file.specs.declared.refusal.Refusal.{Refusal}
use Rattle.launch_file.specs.declared.refusal.Refusal.TheVariants.{SavedUnderCacheName}
use Rattle.launch_file.specs.Refusals.{Reads}
use Rattle.launch_file.specs.Binding.{loads_of, saves_of}
use Rattle.launch_file.specs.Texts.{Text, Part}
use Rattle.wg_object.specs.Plain.{PlainObject}
use Rattle.wg_object.specs.Valid.{IsEight}
use Rattle.wg_cache.specs.Keys.{key_bytes, key_name}
use Rattle.wg_cache.specs.Entries.{IsEntryOf, HasEntry, LacksEntry}
use Rattle.wg_cache.specs.Laws.{AreDefines}
use Rattle.wg_top.specs.declared.RunError.{RunError}
use Rattle.wg_top.specs.declared.RunError.TheVariants.{Failed, Absent, Source, Launch, Range, Parted, Turns, Memory}
use Rattle.wg_top.specs.declared.Summary.{Summary}
use Rattle.wg_top.specs.Launches.{launches_in, all_groups, all_items}
use Rattle.wg_top.specs.Causes.{Standing, SourceLoaded, LaunchLoaded, RunBound, TextRefused, LacksText}
use Rattle.wg_top.specs.Causes.{AcceptedClean, NoCacheName}
use Rattle.wg_top.specs.CompiledCauses.{Finds, Accepted}
use Rattle.wg_top.specs.Programs.{Runs, runs_refusal, HaveRun, AreStopped}
use Rattle.wg_top.specs.CompiledObjects.{CompilesTo, object_runs}

-- ---- honest files

-- each file that is an entry of a key of a source, numbers for names, a kernel and a width, under that key's name, has
-- an object that these are compiled to
abbrev pub Honest : Option FileMap → Type 0
Honest files =
    (source : List ℕ) (defines : List Define) (kernel : List ℕ) (width : Width) (bytes : List ℕ) (o : PlainObject)
    → AreDefines defines
    → told_file files (key_name (key_bytes source defines kernel (lanes_of width))) ≡ Some (Some bytes)
    → IsEntryOf bytes (key_bytes source defines kernel (lanes_of width)) o
    → CompilesTo source defines kernel (lanes_of width) o

-- ---- which object a launch runs

-- the key of a kernel of a launch file
abbrev pub kernel_key : (source : List ℕ) → Text → (kernel : List ℕ) → List ℕ
kernel_key source text kernel = key_bytes source text.defines kernel text.lanes

-- the name of its cache file
abbrev pub cache_name : (source : List ℕ) → Text → (kernel : List ℕ) → List ℕ
cache_name source text kernel = key_name (kernel_key source text kernel)

-- where files are told, that file is an entry of that very key, with this object
abbrev pub IsFound : Option FileMap → (source : List ℕ) → Text → (kernel : List ℕ) → PlainObject → Type 0
IsFound files source text kernel o = HasEntry files (cache_name source text kernel) (kernel_key source text kernel) o

-- where files are told, it is none
abbrev pub IsNotFound : Option FileMap → (source : List ℕ) → Text → (kernel : List ℕ) → Type 0
IsNotFound files source text kernel = LacksEntry files (cache_name source text kernel) (kernel_key source text kernel)

-- the kernel was compiled to this object, since no entry was there
pub record IsFresh (files : Option FileMap) (source : List ℕ) (text : Text) (kernel : List ℕ) (o : PlainObject) :
    Type 0 where
  pub lacks : IsNotFound files source text kernel
  pub compiles : CompilesTo source text.defines kernel text.lanes o

-- a launch runs the object of its kernel's entry, or where there is none one that the source is compiled to; and it is
-- bound by what that object asks
pub record RunsKernel (files : Option FileMap) (source : List ℕ) (text : Text) (kernel : List ℕ) (r : Runs) :
    Type 0 where
  pub object : PlainObject
  pub chosen : IsFound files source text kernel object ⊎ IsFresh files source text kernel object
  pub runs : r ≡ object_runs object

-- the same of each launch
abbrev pub RunKernels : Option FileMap → (source : List ℕ) → Text → List Part → List Runs → Type 0
RunKernels files source text [] [] = ⊤
RunKernels files source text (part ∷ parts) (r ∷ rs) =
    RunsKernel files source text part.kernel r × RunKernels files source text parts rs
RunKernels files source text _ _ = ⊥

-- ---- what is kept

-- a file that is saved behind the buffers: the entry of a launch's kernel that was compiled
pub record IsKept (files : Option FileMap) (source : List ℕ) (text : Text) (name bytes : List ℕ) : Type 0 where
  pub part : Part
  pub is_launch : Contains text.list part
  pub object : PlainObject
  pub fresh : IsFresh files source text part.kernel object
  pub name_is : name ≡ cache_name source text part.kernel
  pub entry : IsEntryOf bytes (kernel_key source text part.kernel) object
  pub short : IsEight (length bytes)

-- such files, each a name and bytes
abbrev pub AreKept : Option FileMap → (source : List ℕ) → Text → FileMap → Type 0
AreKept files source text [] = ⊤
AreKept files source text (file ∷ kept) = IsKept files source text file.0 file.1 × AreKept files source text kept

-- their names
abbrev pub kept_names : FileMap → List (Option (List ℕ))
kept_names kept = map (λ (file : List ℕ × List ℕ). Some file.0) kept

-- where files are told, the name has the bytes of such a file
pub record HoldsKept (old new : Option FileMap) (source : List ℕ) (text : Text) (name : List ℕ) : Type 0 where
  pub bytes : List ℕ
  pub is_kept : IsKept old source text name bytes
  pub holds : IfSome (told_file new name) (λ found. found ≡ Some bytes)

-- where files are told, the name has an entry of the key of a launch
pub record HoldsEntry (files : Option FileMap) (source : List ℕ) (text : Text) (name : List ℕ) : Type 0 where
  pub part : Part
  pub is_launch : Contains text.list part
  pub object : PlainObject
  pub holds : HasEntry files name (kernel_key source text part.kernel) object

-- the name of each launch's cache file does
abbrev pub HoldEntries : Option FileMap → (source : List ℕ) → Text → Type 0
HoldEntries files source text =
    (part : Part) → Contains text.list part → HoldsEntry files source text (cache_name source text part.kernel)

-- ---- a run that is done, honest files or not

-- source and launch file were loaded, and the launch file was read: its numbers for names are below 2^63, its lanes are
-- those of a width, and it has a launch
pub record CachedRead (files : Option FileMap) (ask : Files) (source : List ℕ) (text : Text) : Type 0 where
  pub source_loaded : SourceLoaded files ask.source source
  pub launch_bytes : List ℕ
  pub launch_loaded : LaunchLoaded files ask.launch launch_bytes
  pub reads : Reads launch_bytes ask.lanes ask.turns text
  pub numbers : AreDefines text.defines
  pub fit : DefinesFit text.defines
  pub width : Width
  pub lanes_are : text.lanes ≡ lanes_of width
  pub some : 1 ≤ length text.list

-- and the launches have these kernels
pub record CachedTaken (files : Option FileMap) (ask : Files) (source : List ℕ) (text : Text) (rs : List Runs) :
    Type 0 where
  pub read : CachedRead files ask source text
  pub chosen : RunKernels files source text text.list rs

-- the launches ran and the buffers were saved; then the entries of what was compiled, each under its name, so that each
-- launch's name has an entry of this run; and every other name is as before
pub record CachedDone (old new : Option FileMap) (ask : Files) (summary : Summary) : Type 0 where
  pub source : List ℕ
  pub text : Text
  pub kernels : List Runs
  pub taken : CachedTaken old ask source text kernels
  pub plain : NoCacheName text.buffers
  pub before : List (List ℕ)
  pub after : List (List ℕ)
  pub run : HaveRun old text kernels before after
  pub saved : AllSavedAs old new (saves_of text.buffers) after
  pub kept : FileMap
  pub are_kept : AreKept old source text kept
  pub kept_there : (name : List ℕ) → Contains (kept_names kept) (Some name) → HoldsKept old new source text name
  pub others : KeepsAllBut old new (saves_of text.buffers ++ kept_names kept)
  pub entries : HoldEntries new source text
  pub groups : summary.groups ≡ all_groups (launches_in text)
  pub items : summary.items ≡ all_items (launches_in text)

-- ---- its refusals

-- the kernel of a launch is not there: the earlier launches have theirs, this one's name has no entry, and the source
-- has no unit, or that kernel is at fault
pub record IsLaunchFault (files : Option FileMap) (source : List ℕ) (text : Text) (condition : Condition)
    (place : Place) : Type 0 where
  pub earlier : List Part
  pub part : Part
  pub later : List Part
  pub list_is : text.list ≡ earlier ++ part ∷ later
  pub kernels : List Runs
  pub chosen : RunKernels files source text earlier kernels
  pub lacks : IsNotFound files source text part.kernel
  pub fault : HasNoTypedUnit source text.defines part.kernel condition place

-- the same of a command
pub record CachedFault (files : Option FileMap) (ask : Files) (condition : Condition) (place : Place) : Type 0 where
  pub source : List ℕ
  pub text : Text
  pub read : CachedRead files ask source text
  pub fault : IsLaunchFault files source text condition place

-- a condition stands on the launches
pub record CachedUnbound (files : Option FileMap) (ask : Files) (refusal : Refusal) : Type 0 where
  pub source : List ℕ
  pub text : Text
  pub kernels : List Runs
  pub taken : CachedTaken files ask source text kernels
  pub refused : runs_refusal text kernels ≡ Some refusal

-- L19: none does, and a buffer is saved under a name that begins as those of cache files do
pub record CachedNamed (files : Option FileMap) (ask : Files) : Type 0 where
  pub source : List ℕ
  pub text : Text
  pub kernels : List Runs
  pub taken : CachedTaken files ask source text kernels
  pub accepted : runs_refusal text kernels ≡ None
  pub stands : NoCacheName text.buffers → ⊥

-- no condition stands, and a buffer's file is not there
pub record CachedLacksBuffer (files : Option FileMap) (ask : Files) : Type 0 where
  pub source : List ℕ
  pub text : Text
  pub kernels : List Runs
  pub taken : CachedTaken files ask source text kernels
  pub accepted : runs_refusal text kernels ≡ None
  pub plain : NoCacheName text.buffers
  pub lacks : LacksOneFile files (loads_of text.buffers)

-- a launch ends so
pub record CachedStopped (files : Option FileMap) (ask : Files) (error : RunError) : Type 0 where
  pub source : List ℕ
  pub text : Text
  pub kernels : List Runs
  pub taken : CachedTaken files ask source text kernels
  pub plain : NoCacheName text.buffers
  pub stopped : AreStopped files text kernels error

-- the cause of each refusal
abbrev pub CachedCause : Standing → Standing → Files → RunError → Type 0
CachedCause old new ask Failed = Rose old.faults new.faults
CachedCause old new ask Absent =
    Rose old.misses new.misses × (LacksText old.files ask ⊎ CachedLacksBuffer old.files ask)
CachedCause old new ask (Source condition place) = CachedFault old.files ask condition place
CachedCause old new ask (Launch refusal) =
    TextRefused old.files ask refusal ⊎ CachedUnbound old.files ask refusal
    ⊎ ((refusal ≡ SavedUnderCacheName) × CachedNamed old.files ask)
CachedCause old new ask (Range launch several group item place) =
    CachedStopped old.files ask (Range launch several group item place)
CachedCause old new ask (Parted launch several group item place) =
    CachedStopped old.files ask (Parted launch several group item place)
CachedCause old new ask (Turns launch several) = CachedStopped old.files ask (Turns launch several)
CachedCause old new ask Memory = ⊤
CachedCause old new ask _ = ⊥

-- ---- which files a refusal leaves

-- the buffers are saved, and saving an entry failed: the entries before it are kept, and every other name but its own
-- is as before
pub record EntriesStopped (old new : Option FileMap) (source : List ℕ) (text : Text) (after : List (List ℕ)) :
    Type 0 where
  pub saved : AllSavedAs old new (saves_of text.buffers) after
  pub earlier : FileMap
  pub are_kept : AreKept old source text earlier
  pub name : List ℕ
  pub bytes : List ℕ
  pub is_kept : IsKept old source text name bytes
  pub kept_there : (other : List ℕ) → Contains (kept_names earlier) (Some other) → (other ≡ name → ⊥) →
      HoldsKept old new source text other
  pub others : KeepsAllBut old new (saves_of text.buffers ++ (kept_names earlier ++ Some name ∷ []))

-- saving had begun: it failed at a buffer, or at an entry
pub record CachedSaveStopped (old new : Option FileMap) (ask : Files) : Type 0 where
  pub source : List ℕ
  pub text : Text
  pub kernels : List Runs
  pub taken : CachedTaken old ask source text kernels
  pub plain : NoCacheName text.buffers
  pub before : List (List ℕ)
  pub after : List (List ℕ)
  pub run : HaveRun old text kernels before after
  pub stops : (StopsAt old new (saves_of text.buffers) after × KeepsAllBut old new (saves_of text.buffers)) ⊎
      EntriesStopped old new source text after

abbrev pub CachedLeaves : Standing → Standing → Files → RunError → Type 0
CachedLeaves old new ask Failed = (new.files ≡ old.files) ⊎ CachedSaveStopped old.files new.files ask
CachedLeaves old new ask _ = new.files ≡ old.files

-- ---- what honest files decide

-- L19 of a run: all is read and no condition stands on its launches, and a buffer is saved under such a name
pub record SavesUnderCacheName (files : Option FileMap) (ask : Files) : Type 0 where
  pub text : Text
  pub units : List Unit'
  pub bound : RunBound files ask text units
  pub stands : NoCacheName text.buffers → ⊥

-- with honest files: what they decide of a run without the cache, where that is not L19, or else L19
abbrev pub CachedFinds : Option FileMap → Files → RunError → Type 0
CachedFinds files ask error =
    Honest files × (((SavesUnderCacheName files ask → ⊥) × Finds files ask error) ⊎
    ((error ≡ Launch SavedUnderCacheName) × SavesUnderCacheName files ask))

-- with honest files: what a run loads is there and accepted, its launches are done, and no buffer is saved under such
-- a name
pub record CachedAccepted (files : Option FileMap) (ask : Files) : Type 0 where
  pub honest : Honest files
  pub text : Text
  pub units : List Unit'
  pub plain : NoCacheName text.buffers
  pub run : Accepted files ask text units ⊎ AcceptedClean files ask text units
