-- What `build` and `exec` read, and why they are refused before anything is saved or bound: on the model alone.
use Rattle.std.specs.Prelude.{◌≡◌, ◌⊎◌, ⊤, ℕ, List, [], ◌∷◌, Option, Some, None, take}
use Rattle.wg_num.specs.declared.types.Place.{Place}
use Rattle.wg_outside.specs.Counts.{Rose}
use Rattle.wg_outside.specs.Files.{FileMap, HasFileStart, LacksFile, told_file}
use Rattle.cl_meaning.specs.Typed.{Unit'}
use Rattle.cl_check_sound.specs.Law.{DefinesFit}
use Rattle.cl_front.specs.declared.condition.Condition.{Condition}
use Rattle.cl_front.specs.Typed.{HasTypedUnit, HasNoTypedUnit}
use Rattle.command_words.specs.Command.{BuildFiles, ObjectFiles}
use Rattle.launch_file.specs.declared.refusal.Refusal.{Refusal}
use Rattle.launch_file.specs.Refusals.{Reads, IsRefused}
use Rattle.launch_file.specs.Texts.{Text, Part}
use Rattle.wg_top.specs.declared.RunError.{RunError}
use Rattle.wg_top.specs.declared.RunError.TheVariants.{Failed, Absent, Source, Launch, Memory}
use Rattle.wg_top.specs.Causes.{Standing, SourceLoaded, LaunchLoaded}

-- ---- build

-- the kernel that the first launch of a launch file names
abbrev pub first_kernel : List Part → Option (List ℕ)
first_kernel [] = None
first_kernel (part ∷ parts) = Some part.kernel

-- the source violates the condition at that place: it has no unit, or the first launch's kernel is at fault
pub record IsFirstFault (source : List ℕ) (text : Text) (condition : Condition) (place : Place) : Type 0 where
  pub kernel : List ℕ
  pub first : first_kernel text.list ≡ Some kernel
  pub fault : HasNoTypedUnit source text.defines kernel condition place

-- the cause of a refusal of the source
abbrev pub FirstCause : List ℕ → Text → RunError → Type 0
FirstCause source text (Source condition place) = IsFirstFault source text condition place
FirstCause source text Memory = ⊤
FirstCause source text _ = ⊥

-- source and launch file were loaded, and the launch file was read
pub record BuildRead (files : Option FileMap) (ask : BuildFiles) (source : List ℕ) (text : Text) : Type 0 where
  pub source_loaded : SourceLoaded files ask.source source
  pub launch_bytes : List ℕ
  pub launch_loaded : LaunchLoaded files ask.launch launch_bytes
  pub reads : Reads launch_bytes ask.lanes None text

-- the launch file was read, and the source violates the condition at that place
pub record BuildRefused (files : Option FileMap) (ask : BuildFiles) (condition : Condition) (place : Place) :
    Type 0 where
  pub source : List ℕ
  pub text : Text
  pub read : BuildRead files ask source text
  pub fault : IsFirstFault source text condition place

-- and the numbers that the launch file gives for names are below 2^63
pub record BuildReported (files : Option FileMap) (ask : BuildFiles) (condition : Condition) (place : Place) :
    Type 0 where
  pub refused : BuildRefused files ask condition place
  pub fit : DefinesFit refused.text.defines

-- the launch file violates that condition, and no earlier one
pub record BuildUnread (files : Option FileMap) (ask : BuildFiles) (refusal : Refusal) : Type 0 where
  pub source : List ℕ
  pub source_loaded : SourceLoaded files ask.source source
  pub launch_bytes : List ℕ
  pub launch_loaded : LaunchLoaded files ask.launch launch_bytes
  pub refused : IsRefused launch_bytes ask.lanes None refusal

-- if files are visible, the source does not exist, or it does and the launch file does not
abbrev pub LacksBuild : Option FileMap → BuildFiles → Type 0
LacksBuild files ask =
    LacksFile files ask.source ⊎ ((bytes : List ℕ) × SourceLoaded files ask.source bytes × LacksFile files ask.launch)

-- what the files decide of `build`
abbrev pub BuildFinds : Option FileMap → BuildFiles → RunError → Type 0
BuildFinds files ask Absent = LacksBuild files ask
BuildFinds files ask (Source condition place) = BuildRefused files ask condition place
BuildFinds files ask (Launch refusal) = BuildUnread files ask refusal
BuildFinds files ask _ = ⊥

-- the cause of each refusal of `build`: that, a fault of the store, or out of memory
abbrev pub BuildCause : Standing → Standing → BuildFiles → RunError → Type 0
BuildCause old new ask Failed = Rose old.faults new.faults
BuildCause old new ask Absent = Rose old.misses new.misses × LacksBuild old.files ask
BuildCause old new ask (Source condition place) = BuildReported old.files ask condition place
BuildCause old new ask (Launch refusal) = BuildUnread old.files ask refusal
BuildCause old new ask Memory = ⊤
BuildCause old new ask _ = ⊥

-- files are visible, source and launch file exist, the launch file violates no condition, and the kernel of its first
-- launch is one of the source
pub record BuildAccepted (files : Option FileMap) (ask : BuildFiles) (text : Text) (u : Unit') : Type 0 where
  pub source_bytes : List ℕ
  pub launch_bytes : List ℕ
  pub source_told : told_file files ask.source ≡ Some (Some source_bytes)
  pub launch_told : told_file files ask.launch ≡ Some (Some launch_bytes)
  pub reads : Reads (take 1048577 launch_bytes) ask.lanes None text
  pub kernel : List ℕ
  pub first : first_kernel text.list ≡ Some kernel
  pub compiled : HasTypedUnit (take 262145 source_bytes) text.defines kernel u

-- the first 2^64 - 1 bytes of the object file were loaded: these
abbrev pub ObjectLoaded : Option FileMap → List ℕ → List ℕ → Type 0
ObjectLoaded files name bytes = HasFileStart files name 18446744073709551615 bytes

-- object file and launch file were loaded, and the launch file was read
pub record ExecRead (files : Option FileMap) (ask : ObjectFiles) (bytes : List ℕ) (text : Text) : Type 0 where
  pub object_loaded : ObjectLoaded files ask.object bytes
  pub launch_bytes : List ℕ
  pub launch_loaded : LaunchLoaded files ask.launch launch_bytes
  pub reads : Reads launch_bytes None ask.turns text

-- the launch file violates that condition, and no earlier one
pub record ExecUnread (files : Option FileMap) (ask : ObjectFiles) (refusal : Refusal) : Type 0 where
  pub bytes : List ℕ
  pub object_loaded : ObjectLoaded files ask.object bytes
  pub launch_bytes : List ℕ
  pub launch_loaded : LaunchLoaded files ask.launch launch_bytes
  pub refused : IsRefused launch_bytes None ask.turns refusal

-- if files are visible, the object file does not exist, or it does and the launch file does not
abbrev pub LacksExec : Option FileMap → ObjectFiles → Type 0
LacksExec files ask =
    LacksFile files ask.object ⊎ ((bytes : List ℕ) × ObjectLoaded files ask.object bytes × LacksFile files ask.launch)
