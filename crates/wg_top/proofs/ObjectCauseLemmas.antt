-- Why `build` and `exec` end as they do, from the steps that they take.
use Rattle.std.proofs.Common.{◌≡◌, ℕ, List, [], Option, Some, None, inl, inr, refl, sym, ◌∙◌, subst}
use Rattle.wg_outside.specs.Files.{FileMap, HasFileStart, LacksFile, HasSaved, KeepsOthers}
use Rattle.buffer_io.specs.Loads.{LacksOneFile}
use Rattle.cl_check_sound.specs.Law.{DefinesFit}
use Rattle.cl_prep.specs.declared.prep.Define.{Define}
use Rattle.command_words.specs.Command.{BuildFiles, ObjectFiles}
use Rattle.launch_file.specs.Binding.{loads_of}
use Rattle.launch_file.specs.Texts.{Text}
use Rattle.launch_file.specs.declared.refusal.Refusal.TheVariants.{OtherKernel}
use Rattle.wg_object.specs.Plain.{PlainObject}
use Rattle.wg_object.specs.Valid.{IsObjectOf}
use Rattle.wg_top.specs.declared.RunError.{RunError}
use Rattle.wg_top.specs.declared.RunError.TheVariants.{Failed, Absent, Source, Launch, Range, Parted, Turns, Memory}
use Rattle.wg_top.specs.declared.RunError.TheVariants.{NotObject}
use Rattle.wg_top.specs.declared.Summary.{Summary}
use Rattle.wg_top.specs.Causes.{Standing, HasNoFewer, SourceLoaded}
use Rattle.wg_top.specs.Stages.{SourceCause, TextRead, LaunchCause, KernelCause, ProgramCause, TypedCause}
use Rattle.wg_top.specs.Programs.{AreRun, AreStopped, AreSaveStopped, RunsCause, RunsLeave}
use Rattle.wg_top.specs.Objects.{first_kernel, FirstCause, BuildCause, ObjectLoaded, ExecRead}
use Rattle.wg_top.specs.CompiledObjects.{BuildLeaves, IsFirstText, IsMadeText, IsBuilt, ExecTaken, ExecStopped}
use Rattle.wg_top.specs.CompiledObjects.{ExecDone, ExecCause, ExecLeaves, TakingCause, NameKernel, runs_each}
use Rattle.wg_top.specs.CompiledObjects.{IsTextFrom}
use Rattle.wg_top.proofs.CauseLemmas.{rose_over}

-- ---- build

-- a refusal while the source is loaded
pub build_source_cause : (old new : Standing) (ask : BuildFiles) (e : RunError) → SourceCause old new ask.source e →
    BuildCause old new ask e
build_source_cause old new ask Failed c = c
build_source_cause old new ask Absent c = (c.0, inl c.1)
build_source_cause old new ask Memory c = tt
build_source_cause old new ask _ c = absurd c

-- a refusal while the launch file is read
pub build_launch : (old mid new : Standing) (ask : BuildFiles) (bytes : List ℕ) (e : RunError) →
    SourceLoaded old.files ask.source bytes → mid.files ≡ old.files → HasNoFewer old mid → HasNoFewer mid new →
    LaunchCause mid new ask.launch ask.lanes None e → BuildCause old new ask e
build_launch old mid new ask bytes Failed loaded same before after c =
    rose_over old.faults mid.faults new.faults before.faults after.faults c
build_launch old mid new ask bytes Absent loaded same before after c = (
  rose_over old.misses mid.misses new.misses before.misses after.misses c.0,
  inr (bytes, loaded, subst (λ (f : Option FileMap). LacksFile f ask.launch) same c.1),
)
build_launch old mid new ask bytes (Launch first) loaded same before after c =
    record {
      source = bytes;
      source_loaded = loaded;
      launch_bytes = c.bytes;
      launch_loaded = subst (λ (f : Option FileMap). HasFileStart f ask.launch 1048577 c.bytes) same c.loaded;
      refused = c.refused;
    }
build_launch old mid new ask bytes Memory loaded same before after c = tt
build_launch old mid new ask bytes _ loaded same before after c = absurd c

-- a refusal of the source
pub build_first : (old new : Standing) (ask : BuildFiles) (bytes held : List ℕ) (text : Text) (e : RunError) →
    TextRead old.files ask.launch ask.lanes None text → DefinesFit text.defines →
    SourceLoaded old.files ask.source bytes → held ≡ bytes → FirstCause held text e → BuildCause old new ask e
build_first old new ask bytes held text (Source condition place) read fit loaded same c =
    record {
      refused = record {
        source = held;
        text = text;
        read = record {
          source_loaded = subst (λ (b : List ℕ). SourceLoaded old.files ask.source b) (sym same) loaded;
          launch_bytes = read.bytes;
          launch_loaded = read.loaded;
          reads = read.reads;
        };
        fault = c;
      };
      fit = fit;
    }
build_first old new ask bytes held text Memory read fit loaded same c = tt
build_first old new ask bytes held text _ read fit loaded same c = absurd c

-- the text was made
pub made_text : (files : Option FileMap) (ask : BuildFiles) (bytes held : List ℕ) (text : Text) (object : List ℕ) →
    TextRead files ask.launch ask.lanes None text → DefinesFit text.defines → SourceLoaded files ask.source bytes →
    held ≡ bytes → IsFirstText held text object → IsMadeText files ask object
made_text files ask bytes held text object read fit loaded same is = record {
  source = held;
  text = text;
  read = record {
    source_loaded = subst (λ (b : List ℕ). SourceLoaded files ask.source b) (sym same) loaded;
    launch_bytes = read.bytes;
    launch_loaded = read.loaded;
    reads = read.reads;
  };
  fit = fit;
  is = is;
}

-- the refusal of the first launch's kernel
pub first_cause : (bytes : List ℕ) (text : Text) (kernel : List ℕ) (e : RunError) →
    first_kernel text.list ≡ Some kernel → KernelCause bytes text.defines kernel e → FirstCause bytes text e
first_cause bytes text kernel (Source condition place) first c =
    record { kernel = kernel; first = first; fault = inr c }
first_cause bytes text kernel Memory first c = tt
first_cause bytes text kernel _ first c = absurd c

-- its text was saved
pub is_built : (old mid new : Option FileMap) (ask : BuildFiles) (bytes held : List ℕ) → IsMadeText old ask bytes →
    mid ≡ old → held ≡ bytes → HasSaved mid new ask.object held → KeepsOthers mid new ask.object → IsBuilt old new ask
is_built old mid new ask bytes held made same is saved others = record {
  bytes = bytes;
  made = made;
  saved = subst (λ (f : Option FileMap). HasSaved f new ask.object bytes) same
      (subst (λ (b : List ℕ). HasSaved mid new ask.object b) is saved);
  others = subst (λ (f : Option FileMap). KeepsOthers f new ask.object) same others;
}

-- which files a refusal leaves: before saving none is changed
pub build_left : (old new : Standing) (ask : BuildFiles) (e : RunError) → new.files ≡ old.files →
    BuildLeaves old new ask e
build_left old new ask Failed same = inl same
build_left old new ask Absent same = same
build_left old new ask (Source condition place) same = same
build_left old new ask NotObject same = same
build_left old new ask (Launch first) same = same
build_left old new ask (Range number several group item place) same = same
build_left old new ask (Parted number several group item place) same = same
build_left old new ask (Turns number several) same = same
build_left old new ask Memory same = same

-- saving the text failed
pub build_stopped : (old mid new : Standing) (ask : BuildFiles) (bytes : List ℕ) → IsMadeText old.files ask bytes →
    mid.files ≡ old.files → KeepsOthers mid.files new.files ask.object → BuildLeaves old new ask Failed
build_stopped old mid new ask bytes made same others = inr (record {
  bytes = bytes;
  made = made;
  others = subst (λ (f : Option FileMap). KeepsOthers f new.files ask.object) same others;
})

-- ---- exec

pub exec_launch : (old mid new : Standing) (ask : ObjectFiles) (bytes : List ℕ) (e : RunError) →
    ObjectLoaded old.files ask.object bytes → mid.files ≡ old.files → HasNoFewer old mid → HasNoFewer mid new →
    LaunchCause mid new ask.launch None ask.turns e → TakingCause old new ask e
exec_launch old mid new ask bytes Failed loaded same before after c =
    rose_over old.faults mid.faults new.faults before.faults after.faults c
exec_launch old mid new ask bytes Absent loaded same before after c = (
  rose_over old.misses mid.misses new.misses before.misses after.misses c.0,
  inr (bytes, loaded, subst (λ (f : Option FileMap). LacksFile f ask.launch) same c.1),
)
exec_launch old mid new ask bytes (Launch first) loaded same before after c =
    inl (record {
      bytes = bytes;
      object_loaded = loaded;
      launch_bytes = c.bytes;
      launch_loaded = subst (λ (f : Option FileMap). HasFileStart f ask.launch 1048577 c.bytes) same c.loaded;
      refused = c.refused;
    })
exec_launch old mid new ask bytes Memory loaded same before after c = tt
exec_launch old mid new ask bytes _ loaded same before after c = absurd c

-- what was read
pub exec_read : (files later : Option FileMap) (ask : ObjectFiles) (bytes held : List ℕ) (text : Text) →
    ObjectLoaded files ask.object bytes → held ≡ bytes → later ≡ files →
    TextRead later ask.launch None ask.turns text → ExecRead files ask held text
exec_read files later ask bytes held text loaded is same read = record {
  object_loaded = subst (λ (b : List ℕ). ObjectLoaded files ask.object b) (sym is) loaded;
  launch_bytes = read.bytes;
  launch_loaded = subst (λ (f : Option FileMap). HasFileStart f ask.launch 1048577 read.bytes) same read.loaded;
  reads = read.reads;
}

pub exec_taken : (files : Option FileMap) (ask : ObjectFiles) (bytes : List ℕ) (text : Text) (o : PlainObject) →
    ExecRead files ask bytes text → IsObjectOf bytes o → NameKernel text o → ExecTaken files ask text o
exec_taken files ask bytes text o read is names = record { bytes = bytes; read = read; is_text = is; names = names }

pub exec_other : (old new : Standing) (ask : ObjectFiles) (bytes : List ℕ) (text : Text) (o : PlainObject) →
    ExecRead old.files ask bytes text → IsObjectOf bytes o → (NameKernel text o → ⊥) →
    TakingCause old new ask (Launch OtherKernel)
exec_other old new ask bytes text o read is other =
    inr (refl, record { bytes = bytes; text = text; object = o; read = read; is_text = is; other = other })

pub exec_none : (old new : Standing) (ask : ObjectFiles) (bytes : List ℕ) (text : Text) →
    ExecRead old.files ask bytes text → ((o : PlainObject) → IsObjectOf bytes o → ⊥) →
    TakingCause old new ask NotObject
exec_none old new ask bytes text read none = record { bytes = bytes; text = text; read = read; none = none }

-- a refusal before the launches are bound
pub taking_cause : (old new : Standing) (ask : ObjectFiles) (e : RunError) → TakingCause old new ask e →
    ExecCause old new ask e
taking_cause old new ask Failed c = c
taking_cause old new ask Absent c = (c.0, inl c.1)
taking_cause old new ask NotObject c = inl c
taking_cause old new ask (Launch first) c = inl c
taking_cause old new ask Memory c = tt
taking_cause old new ask _ c = absurd c

pub taking_leaves : (old new : Standing) (ask : ObjectFiles) (e : RunError) → new.files ≡ old.files →
    ExecLeaves old new ask e
taking_leaves old new ask Failed same = inl same
taking_leaves old new ask _ same = same

-- a refusal behind that
stops : (files later : Option FileMap) (ask : ObjectFiles) (text : Text) (o : PlainObject) (e : RunError) →
    ExecTaken files ask text o → later ≡ files → AreStopped later text (runs_each o text.list) e →
    ExecStopped files ask e
stops files later ask text o e taken same s = record {
  text = text;
  object = o;
  taken = taken;
  stopped = subst (λ (f : Option FileMap). AreStopped f text (runs_each o text.list) e) same s;
}

pub taken_cause : (old mid new : Standing) (ask : ObjectFiles) (text : Text) (o : PlainObject) (e : RunError) →
    ExecTaken old.files ask text o → mid.files ≡ old.files → HasNoFewer old mid → HasNoFewer mid new →
    RunsCause mid new text (runs_each o text.list) e → ExecCause old new ask e
taken_cause old mid new ask text o Failed taken same before after c =
    rose_over old.faults mid.faults new.faults before.faults after.faults c
taken_cause old mid new ask text o Absent taken same before after c = (
  rose_over old.misses mid.misses new.misses before.misses after.misses c.0,
  inr (record {
    text = text;
    object = o;
    taken = taken;
    accepted = c.1;
    lacks = subst (λ (f : Option FileMap). LacksOneFile f (loads_of text.buffers)) same c.2;
  }),
)
taken_cause old mid new ask text o (Launch first) taken same before after c =
    inr (record { text = text; object = o; taken = taken; refused = c })
taken_cause old mid new ask text o (Range number several group item place) taken same before after c =
    inr (stops old.files mid.files ask text o (Range number several group item place) taken same c)
taken_cause old mid new ask text o (Parted number several group item place) taken same before after c =
    inr (stops old.files mid.files ask text o (Parted number several group item place) taken same c)
taken_cause old mid new ask text o (Turns number several) taken same before after c =
    inr (stops old.files mid.files ask text o (Turns number several) taken same c)
taken_cause old mid new ask text o Memory taken same before after c = tt
taken_cause old mid new ask text o _ taken same before after c = absurd c

pub taken_leaves : (old mid new : Standing) (ask : ObjectFiles) (text : Text) (o : PlainObject) (e : RunError) →
    ExecTaken old.files ask text o → mid.files ≡ old.files → RunsLeave mid new text (runs_each o text.list) e →
    ExecLeaves old new ask e
taken_leaves old mid new ask text o Failed taken same (inl all) = inl (all ∙ same)
taken_leaves old mid new ask text o Failed taken same (inr s) =
    inr (record {
      text = text;
      object = o;
      taken = taken;
      stopped = subst (λ (f : Option FileMap). AreSaveStopped f new.files text (runs_each o text.list)) same s;
    })
taken_leaves old mid new ask text o Absent taken same left = left ∙ same
taken_leaves old mid new ask text o (Source condition place) taken same left = left ∙ same
taken_leaves old mid new ask text o (Launch first) taken same left = left ∙ same
taken_leaves old mid new ask text o (Range number several group item place) taken same left = left ∙ same
taken_leaves old mid new ask text o (Parted number several group item place) taken same left = left ∙ same
taken_leaves old mid new ask text o (Turns number several) taken same left = left ∙ same
taken_leaves old mid new ask text o Memory taken same left = left ∙ same
taken_leaves old mid new ask text o NotObject taken same left = left ∙ same

pub exec_done : (old mid new : Option FileMap) (ask : ObjectFiles) (text : Text) (o : PlainObject)
    (summary : Summary) → ExecTaken old ask text o → mid ≡ old → AreRun mid new text (runs_each o text.list) summary →
    ExecDone old new ask summary
exec_done old mid new ask text o summary taken same run = record {
  text = text;
  object = o;
  taken = taken;
  run = subst (λ (f : Option FileMap). AreRun f new text (runs_each o text.list) summary) same run;
}

-- the text without its launches
abbrev pub without_launches : Text → Text
without_launches text = record text { list = [] }

-- a source without a unit
pub refused_first : (bytes : List ℕ) (text : Text) (kernel : List ℕ) (e : RunError) →
    first_kernel text.list ≡ Some kernel → ProgramCause bytes (without_launches text) e → FirstCause bytes text e
refused_first bytes text kernel (Source condition place) first (inl stands) =
    record { kernel = kernel; first = first; fault = inl stands }
refused_first bytes text kernel (Source condition place) first (inr none) = absurd none
refused_first bytes text kernel Memory first c = tt
refused_first bytes text kernel _ first c = absurd c

-- for whatever kernel
pub stands_typed : (bytes : List ℕ) (text : Text) (kernel : List ℕ) (e : RunError) →
    ProgramCause bytes (without_launches text) e → TypedCause bytes text.defines kernel e
stands_typed bytes text kernel (Source condition place) (inl stands) = inl stands
stands_typed bytes text kernel (Source condition place) (inr none) = absurd none
stands_typed bytes text kernel Memory c = tt
stands_typed bytes text kernel _ c = absurd c

-- the fault of a kernel
pub kernel_typed : (bytes : List ℕ) (defines : List Define) (kernel : List ℕ) (e : RunError) →
    KernelCause bytes defines kernel e → TypedCause bytes defines kernel e
kernel_typed bytes defines kernel (Source condition place) c = inr c
kernel_typed bytes defines kernel Memory c = tt
kernel_typed bytes defines kernel _ c = absurd c

-- the text of the first launch's kernel
pub first_is : (bytes : List ℕ) (text : Text) (kernel object : List ℕ) → first_kernel text.list ≡ Some kernel →
    IsTextFrom bytes text.defines kernel text.lanes object → IsFirstText bytes text object
first_is bytes text kernel object first is = record { kernel = kernel; first = first; is = is }
