-- The kernels that a run with the cache holds, and the files that it saves behind the buffers.
use Rattle.std.specs.Prelude.{◌≡◌, ◌⊎◌, ⊤, ℕ, List, [], ◌∷◌, ◌++◌, Option, Some, None, option_map, length, All}
use Rattle.std.specs.Prelude.{Contains, IsUtf8}
use Rattle.wg_outside.specs.Counts.{Rose}
use Rattle.wg_outside.specs.Files.{FileMap, told_file}
use Rattle.cl_front.specs.Typed.{HasNoTypedUnit}
use Rattle.command_words.specs.Command.{Files}
use Rattle.launch_file.specs.declared.text.LaunchPart.{LaunchPart}
use Rattle.launch_file.specs.Texts.{Text, Part}
use Rattle.wg_cache.specs.declared.types.Entry.{Entry}
use Rattle.wg_cache.specs.Entries.{IsEntryOf}
use Rattle.wg_cache.specs.Keys.{IsCacheName}
use Rattle.wg_object.specs.Plain.{PlainObject}
use Rattle.wg_object.specs.Shell.{IsShell}
use Rattle.wg_object.specs.Valid.{IsEight}
use Rattle.wg_object.specs.View.{object_of}
use Rattle.wg_top.specs.declared.RunError.{RunError}
use Rattle.wg_top.specs.declared.RunError.TheVariants.{Failed, Source, Memory}
use Rattle.wg_top.specs.declared.Summary.{Summary}
use Rattle.wg_top.specs.declared.cached.Held.{Held}
use Rattle.wg_top.specs.declared.runnable.Runnable.{Runnable}
use Rattle.wg_top.specs.Causes.{Standing}
use Rattle.wg_top.specs.Cached.{kernel_key, cache_name, IsFound, IsNotFound, IsFresh, IsLaunchFault, CachedRead}
use Rattle.wg_top.specs.Cached.{CachedDone, CachedCause, CachedLeaves}

-- the entry of a kernel, with that object
pub record IsEntryFor (source : List ℕ) (text : Text) (kernel : List ℕ) (o : PlainObject) (entry : Entry) : Type 0 where
  pub name_is : entry.name ≡ cache_name source text kernel
  pub utf8 : IsUtf8 entry.name
  pub is : IsEntryOf entry.bytes.items (kernel_key source text kernel) o
  pub short : IsEight (length entry.bytes.items)

-- the object was found, or the source is compiled to it and this is its entry
abbrev pub HasObject : Option FileMap → (source : List ℕ) → Text → (kernel : List ℕ) → PlainObject → Option Entry →
    Type 0
HasObject files source text kernel o None = IsFound files source text kernel o
HasObject files source text kernel o (Some entry) =
    IsFresh files source text kernel o × IsEntryFor source text kernel o entry

-- a kernel that a launch names, with such an object and its shell
pub record IsHeld (files : Option FileMap) (source : List ℕ) (text : Text) (held : Held) : Type 0 where
  pub part : Part
  pub is_launch : Contains text.list part
  pub named : held.kernel.now ≡ part.kernel
  pub has : HasObject files source text held.kernel.now (object_of held.object) held.entry
  pub shell : IsShell (object_of held.object) held.shell

-- one of the kernels has that name
abbrev pub IsNamedIn : List Held → (kernel : List ℕ) → Type 0
IsNamedIn [] kernel = ⊥
IsNamedIn (one ∷ held) kernel = (one.kernel.now ≡ kernel) ⊎ IsNamedIn held kernel

-- one behind others, where none of them has that name
pub record IsHeldBehind (files : Option FileMap) (source : List ℕ) (text : Text) (kernel : List ℕ)
    (old new : List Held) : Type 0 where
  pub one : Held
  pub new_is : new ≡ old ++ one ∷ []
  pub named : one.kernel.now ≡ kernel
  pub has : HasObject files source text kernel (object_of one.object) one.entry
  pub shell : IsShell (object_of one.object) one.shell

abbrev pub IsHeldOnce : Option FileMap → (source : List ℕ) → Text → (kernel : List ℕ) → (old new : List Held) → Type 0
IsHeldOnce files source text kernel old new =
    ((new ≡ old) × IsNamedIn old kernel) ⊎ IsHeldBehind files source text kernel old new

-- what is bound and run is the shell and the object of one of that name
pub record IsRunnable (held : List Held) (kernel : List ℕ) (r : Runnable) : Type 0 where
  pub one : Held
  pub among : Contains held one
  pub named : one.kernel.now ≡ kernel
  pub program : r.program.now ≡ one.shell
  pub group : r.group.now ≡ one.object.group

-- the same for each launch
abbrev pub AreRunnables : List Held → List LaunchPart → List Runnable → Type 0
AreRunnables held [] [] = ⊤
AreRunnables held (part ∷ parts) (r ∷ rs) = IsRunnable held part.kernel r × AreRunnables held parts rs
AreRunnables held _ _ = ⊥

-- there is a name, which begins as those of cache files do
abbrev pub IsSavedSo : Option (List ℕ) → Type 0
IsSavedSo None = ⊥
IsSavedSo (Some name) = IsCacheName name

-- the cause of a refusal while a kernel is found or compiled
abbrev pub HoldCause : Standing → Standing → (source : List ℕ) → Text → (kernel : List ℕ) → RunError → Type 0
HoldCause old new source text kernel Failed = Rose old.faults new.faults
HoldCause old new source text kernel (Source condition place) =
    IsNotFound old.files source text kernel × HasNoTypedUnit source text.defines kernel condition place
HoldCause old new source text kernel Memory = ⊤
HoldCause old new source text kernel _ = ⊥

-- the same of the kernels of all launches
abbrev pub HoldingCause : Standing → Standing → (source : List ℕ) → Text → RunError → Type 0
HoldingCause old new source text Failed = Rose old.faults new.faults
HoldingCause old new source text (Source condition place) = IsLaunchFault old.files source text condition place
HoldingCause old new source text Memory = ⊤
HoldingCause old new source text _ = ⊥

-- the files that are to be kept
abbrev pub kept_with : Option Entry → FileMap → FileMap
kept_with None kept = kept
kept_with (Some entry) kept = (entry.name, entry.bytes.items) ∷ kept

abbrev pub kept_of : List Held → FileMap
kept_of [] = []
kept_of (one ∷ held) = kept_with one.entry (kept_of held)

-- each name is as if these files had been saved, in order
abbrev pub AreSaved : (old new : Option FileMap) → FileMap → Type 0
AreSaved old new kept = (name : List ℕ) → told_file new name ≡ told_file (option_map (λ fs. fs ++ kept) old) name

-- saving one of them failed: each name but its own is as if those before it had been saved
pub record AreSavedUpTo (old new : Option FileMap) (kept : FileMap) : Type 0 where
  pub earlier : FileMap
  pub failing : List ℕ × List ℕ
  pub later : FileMap
  pub is : kept ≡ earlier ++ failing ∷ later
  pub others : (name : List ℕ) → (name ≡ failing.0 → ⊥) →
      told_file new name ≡ told_file (option_map (λ fs. fs ++ earlier) old) name

-- once the kernels are held, of whatever was read: how the run is done
abbrev pub HeldDone : (old new : Option FileMap) → Text → List Held → Summary → Type 0
HeldDone old new text held summary =
    (source : List ℕ) (ask : Files) → CachedRead old ask source text → All (IsHeld old source text) held →
    CachedDone old new ask summary

-- why it is refused
abbrev pub HeldCause : (old new : Standing) → Text → List Held → RunError → Type 0
HeldCause old new text held error =
    (source : List ℕ) (ask : Files) → CachedRead old.files ask source text → All (IsHeld old.files source text) held →
    CachedCause old new ask error

-- and which files that leaves
abbrev pub HeldLeaves : (old new : Standing) → Text → List Held → RunError → Type 0
HeldLeaves old new text held error =
    (source : List ℕ) (ask : Files) → CachedRead old.files ask source text → All (IsHeld old.files source text) held →
    CachedLeaves old new ask error
