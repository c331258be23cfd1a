-- Why a run with the cache ends as it does, from the steps that it takes.
use Rattle.std.proofs.Common.{◌≡◌, ◌<◌, ◌≤◌, ◌^◌, ◌++◌, ℕ, zero, suc, List, [], ◌∷◌, length, map, take, drop, get_or}
use Rattle.std.proofs.Common.{Option, Some}
use Rattle.std.proofs.Common.{None, inl, inr, refl}
use Rattle.std.proofs.Common.{sym, ◌∙◌, ap, subst, arith}
use Rattle.std.specs.Prelude.{◌⊎◌, All, Contains, IfSome, IsUtf8}
use Rattle.std.proofs.lemmas.List.{length-map}
use Rattle.std.proofs.lemmas.List.Elements.{All-contains, All-weaker, Contains-append_left}
use Rattle.std.proofs.lemmas.List.Elements.{Contains-append_right}
use Rattle.cl_model.specs.Lists.{Each}
use Rattle.wg_outside.specs.Counts.{Rose}
use Rattle.wg_outside.specs.Files.{FileMap, HasFileStart, told_file}
use Rattle.buffer_io.specs.Saves.{KeepsAllBut}
use Rattle.command_words.specs.Command.{Files}
use Rattle.launch_file.specs.declared.text.LaunchPart.{LaunchPart}
use Rattle.launch_file.specs.declared.refusal.Refusal.TheVariants.{SavedUnderCacheName}
use Rattle.launch_file.specs.Binding.{saves_of}
use Rattle.launch_file.specs.declared.text.LaunchText.{LaunchText}
use Rattle.launch_file.specs.Texts.{Text, Part, part_of, text_of}
use Rattle.launch_file.specs.Values.{HasNumber}
use Rattle.cl_prep.specs.declared.prep.Define.{Define}
use Rattle.wg_cache.specs.Keys.{IsCacheName}
use Rattle.wg_cache.specs.Laws.{AreDefines}
use Rattle.wg_cache.specs.declared.types.Entry.{Entry}
use Rattle.wg_object.specs.Plain.{PlainObject}
use Rattle.wg_object.specs.Shell.{IsShell}
use Rattle.wg_object.specs.View.{object_of}
use Rattle.wg_top.specs.declared.RunError.{RunError}
use Rattle.wg_top.specs.declared.RunError.TheVariants.{Failed, Absent, Source, Launch, Range, Parted, Turns, Memory}
use Rattle.wg_top.specs.declared.RunError.TheVariants.{NotObject}
use Rattle.wg_top.specs.declared.Summary.{Summary}
use Rattle.wg_top.specs.declared.cached.Held.{Held}
use Rattle.wg_top.specs.declared.runnable.Runnable.{Runnable}
use Rattle.wg_top.specs.Causes.{Standing, HasNoFewer, SourceLoaded, LacksText, NoCacheName}
use Rattle.wg_top.specs.Given.{IsText}
use Rattle.wg_top.specs.Stages.{SourceCause, TextRead, LaunchCause, TypedCause}
use Rattle.wg_top.specs.Programs.{Runs, runs_of, HasKinds, runs_refusal, AreStopped, AreRun, RunsBindCause}
use Rattle.wg_top.specs.Programs.{RunsCause, RunsLeave}
use Rattle.wg_top.specs.CompiledObjects.{object_runs}
use Rattle.wg_top.specs.Cached.{IsFound, IsNotFound, IsFresh, RunsKernel, RunKernels, AreKept, kept_names}
use Rattle.wg_top.specs.Cached.{CachedRead, CachedTaken, CachedDone, IsLaunchFault, CachedFault, CachedLacksBuffer}
use Rattle.wg_top.specs.Cached.{CachedStopped, CachedCause, CachedLeaves, CachedSaveStopped, cache_name}
use Rattle.wg_top.specs.Holding.{HasObject, IsHeld, IsNamedIn, IsRunnable, AreRunnables, HoldCause, HoldingCause}
use Rattle.wg_top.specs.Holding.{kept_of, AreSaved, AreSavedUpTo, HeldDone, HeldCause, HeldLeaves}
use Rattle.wg_top.proofs.CauseLemmas.{rose_over, launch_cause}
use Rattle.wg_top.proofs.RunLemmas.{numbers_fit}
use Rattle.wg_top.proofs.ObjectLemmas.{runs_is, object_kinds}
use Rattle.wg_top.proofs.ProgramLemmas.{split_of}
use Rattle.wg_top.proofs.CachedLemmas.{IsAmong, among_names, names_among, all_kept, launch_there}
use Rattle.wg_top.proofs.CachedLemmas.{kept_name, there, holds_kept, buffers_saved, not_kept, holds_found}

-- ---- before the kernels are held

pub cached_source : (old new : Standing) (ask : Files) (e : RunError) → SourceCause old new ask.source e →
    CachedCause old new ask e
cached_source old new ask Failed c = c
cached_source old new ask Absent c = (c.0, inl (inl c.1))
cached_source old new ask Memory c = tt
cached_source old new ask _ c = absurd c

pub cached_launch : (old mid new : Standing) (ask : Files) (bytes : List ℕ) (e : RunError) →
    SourceLoaded old.files ask.source bytes → mid.files ≡ old.files → HasNoFewer old mid → HasNoFewer mid new →
    LaunchCause mid new ask.launch ask.lanes ask.turns e → CachedCause old new ask e
cached_launch old mid new ask bytes Failed loaded same before after c =
    launch_cause old mid new ask bytes Failed loaded same before after c
cached_launch old mid new ask bytes Absent loaded same before after c =
    let cause = launch_cause old mid new ask bytes Absent loaded same before after c in (cause.0, inl cause.1)
cached_launch old mid new ask bytes (Launch first) loaded same before after c =
    inl (launch_cause old mid new ask bytes (Launch first) loaded same before after c)
cached_launch old mid new ask bytes Memory loaded same before after c = tt
cached_launch old mid new ask bytes _ loaded same before after c = absurd c

-- what was read
are_defines : (defines : List Define) → All HasNumber defines → AreDefines defines
are_defines [] all = tt
are_defines (d ∷ defines) all =
    (below d.value (all 0 d (omega arith)), are_defines defines (λ k e lt. all (suc k) e (omega arith)))
  where
    below : (n : ℕ) → n ≤ 9223372036854775807 → n < 2 ^ 64
    below n h = omega (arith, h)

pub cached_read : (old mid : Option FileMap) (ask : Files) (bytes held : List ℕ) (text : LaunchText) →
    SourceLoaded old ask.source bytes → held ≡ bytes → mid ≡ old → IsText text →
    TextRead mid ask.launch ask.lanes ask.turns (text_of text) → CachedRead old ask held (text_of text)
cached_read old mid ask bytes held text loaded is same fine read = record {
  source_loaded = subst (λ (b : List ℕ). SourceLoaded old ask.source b) (sym is) loaded;
  launch_bytes = read.bytes;
  launch_loaded = subst (λ (f : Option FileMap). HasFileStart f ask.launch 1048577 read.bytes) same read.loaded;
  reads = read.reads;
  numbers = are_defines text.defines.list.items fine.numbers;
  fit = numbers_fit text.defines.list.items fine.numbers;
  width = text.lanes;
  lanes_are = refl;
  some = (let long = length-map text.list.items part_of in let one = fine.some in omega (arith, long, one));
}

-- a kernel is not compiled
pub hold_typed : (old new : Standing) (source : List ℕ) (text : Text) (kernel : List ℕ) (e : RunError) →
    IsNotFound old.files source text kernel → TypedCause source text.defines kernel e →
    HoldCause old new source text kernel e
hold_typed old new source text kernel (Source condition place) lacks c = (lacks, c)
hold_typed old new source text kernel Memory lacks c = tt
hold_typed old new source text kernel _ lacks c = absurd c

-- a kernel is not there
pub cached_holding : (old mid new : Standing) (ask : Files) (source : List ℕ) (text : Text) (e : RunError) →
    CachedRead old.files ask source text → mid.files ≡ old.files → HasNoFewer old mid → HasNoFewer mid new →
    HoldingCause mid new source text e → CachedCause old new ask e
cached_holding old mid new ask source text Failed read same before after c =
    rose_over old.faults mid.faults new.faults before.faults after.faults c
cached_holding old mid new ask source text (Source condition place) read same before after c =
    record {
      source = source;
      text = text;
      read = read;
      fault = subst (λ (f : Option FileMap). IsLaunchFault f source text condition place) same c;
    }
cached_holding old mid new ask source text Memory read same before after c = tt
cached_holding old mid new ask source text _ read same before after c = absurd c

-- ---- from a later moment of the store, with the same files

pub stands_over : (old mid new : Standing) → HasNoFewer old mid → HasNoFewer mid new → HasNoFewer old new
stands_over old mid new a b =
    record { faults = omega (arith, a.faults, b.faults); misses = omega (arith, a.misses, b.misses) }

-- the shells of what is held
pub held_shells : (files : Option FileMap) (source : List ℕ) (text : Text) (held : List Held) →
    All (IsHeld files source text) held → All (λ h. IsShell (object_of h.object) h.shell) held
held_shells files source text held all =
    All-weaker (IsHeld files source text) (λ h. IsShell (object_of h.object) h.shell) (λ h is. is.shell) held all

-- the name of an entry is text
entry_utf8 : (files : Option FileMap) (source : List ℕ) (text : Text) (kernel : List ℕ) (o : PlainObject)
    (entry : Option Entry) → HasObject files source text kernel o entry → IfSome entry (λ e. IsUtf8 e.name)
entry_utf8 files source text kernel o None has = tt
entry_utf8 files source text kernel o (Some entry) has = has.1.utf8

pub held_names : (files : Option FileMap) (source : List ℕ) (text : Text) (held : List Held) →
    All (IsHeld files source text) held → All (λ h. IfSome h.entry (λ e. IsUtf8 e.name)) held
held_names files source text held all =
    All-weaker (IsHeld files source text) (λ h. IfSome h.entry (λ e. IsUtf8 e.name))
    (λ h is. entry_utf8 files source text h.kernel.now (object_of h.object) h.entry is.has) held all

pub cause_over : (old mid new : Standing) (ask : Files) (e : RunError) → mid.files ≡ old.files → HasNoFewer old mid →
    HasNoFewer mid new → CachedCause mid new ask e → CachedCause old new ask e
cause_over old mid new ask Failed same before after c =
    rose_over old.faults mid.faults new.faults before.faults after.faults c
cause_over old mid new ask Absent same before after c = (
  rose_over old.misses mid.misses new.misses before.misses after.misses c.0,
  subst (λ (f : Option FileMap). LacksText f ask ⊎ CachedLacksBuffer f ask) same c.1,
)
cause_over old mid new ask (Source condition place) same before after c =
    subst (λ (f : Option FileMap). CachedFault f ask condition place) same c
cause_over old mid new ask (Launch first) same before after c =
    subst (λ (f : Option FileMap). CachedCause (record old { files = f }) new ask (Launch first)) same c
cause_over old mid new ask (Range number several group item place) same before after c =
    subst (λ (f : Option FileMap). CachedStopped f ask (Range number several group item place)) same c
cause_over old mid new ask (Parted number several group item place) same before after c =
    subst (λ (f : Option FileMap). CachedStopped f ask (Parted number several group item place)) same c
cause_over old mid new ask (Turns number several) same before after c =
    subst (λ (f : Option FileMap). CachedStopped f ask (Turns number several)) same c
cause_over old mid new ask Memory same before after c = tt
cause_over old mid new ask NotObject same before after c = absurd c

pub leaves_over : (old mid new : Standing) (ask : Files) (e : RunError) → mid.files ≡ old.files →
    CachedLeaves mid new ask e → CachedLeaves old new ask e
leaves_over old mid new ask Failed same left =
    subst (λ (f : Option FileMap). (new.files ≡ f) ⊎ CachedSaveStopped f new.files ask) same left
leaves_over old mid new ask Absent same left = left ∙ same
leaves_over old mid new ask (Source condition place) same left = left ∙ same
leaves_over old mid new ask (Launch first) same left = left ∙ same
leaves_over old mid new ask (Range number several group item place) same left = left ∙ same
leaves_over old mid new ask (Parted number several group item place) same left = left ∙ same
leaves_over old mid new ask (Turns number several) same left = left ∙ same
leaves_over old mid new ask Memory same left = left ∙ same
leaves_over old mid new ask NotObject same left = left ∙ same

-- nothing was saved before
pub leaves_same : (old new : Standing) (ask : Files) (e : RunError) → new.files ≡ old.files → CachedLeaves old new ask e
leaves_same old new ask Failed same = inl same
leaves_same old new ask Absent same = same
leaves_same old new ask (Source condition place) same = same
leaves_same old new ask (Launch first) same = same
leaves_same old new ask (Range number several group item place) same = same
leaves_same old new ask (Parted number several group item place) same = same
leaves_same old new ask (Turns number several) same = same
leaves_same old new ask Memory same = same
leaves_same old new ask NotObject same = same

held_same : (old mid : Option FileMap) (source : List ℕ) (text : Text) (held : List Held) → mid ≡ old →
    All (IsHeld old source text) held → All (IsHeld mid source text) held
held_same old mid source text held same all =
    subst (λ (f : Option FileMap). All (IsHeld f source text) held) (sym same) all

read_same : (old mid : Option FileMap) (ask : Files) (source : List ℕ) (text : Text) → mid ≡ old →
    CachedRead old ask source text → CachedRead mid ask source text
read_same old mid ask source text same read =
    subst (λ (f : Option FileMap). CachedRead f ask source text) (sym same) read

pub held_done : (old mid new : Option FileMap) (ask : Files) (source : List ℕ) (text : Text) (held : List Held)
    (summary : Summary) → mid ≡ old → CachedRead old ask source text → All (IsHeld old source text) held →
    HeldDone mid new text held summary → CachedDone old new ask summary
held_done old mid new ask source text held summary same read all done =
    subst (λ (f : Option FileMap). CachedDone f new ask summary) same
    (done source ask (read_same old mid ask source text same read) (held_same old mid source text held same all))

pub held_cause : (old mid new : Standing) (ask : Files) (source : List ℕ) (text : Text) (held : List Held)
    (e : RunError) → mid.files ≡ old.files → HasNoFewer old mid → HasNoFewer mid new →
    CachedRead old.files ask source text → All (IsHeld old.files source text) held → HeldCause mid new text held e →
    CachedCause old new ask e
held_cause old mid new ask source text held e same before after read all cause =
    cause_over old mid new ask e same before after
    (cause source ask (read_same old.files mid.files ask source text same read)
    (held_same old.files mid.files source text held same all))

pub held_leaves : (old mid new : Standing) (ask : Files) (source : List ℕ) (text : Text) (held : List Held)
    (e : RunError) → mid.files ≡ old.files → CachedRead old.files ask source text →
    All (IsHeld old.files source text) held → HeldLeaves mid new text held e → CachedLeaves old new ask e
held_leaves old mid new ask source text held e same read all left =
    leaves_over old mid new ask e same
    (left source ask (read_same old.files mid.files ask source text same read)
    (held_same old.files mid.files source text held same all))

-- ---- what is bound and run

-- as many as launches
pub runnables_many : (held : List Held) (list : List LaunchPart) (rs : List Runnable) → AreRunnables held list rs →
    length rs ≡ length list
runnables_many held [] [] are = refl
runnables_many held (p ∷ list) (r ∷ rs) are = ap suc (runnables_many held list rs are.1)
runnables_many held [] (r ∷ rs) are = absurd are
runnables_many held (p ∷ list) [] are = absurd are

-- one more
pub runnables_more : (held : List Held) (list : List LaunchPart) (rs : List Runnable) (part : LaunchPart)
    (r : Runnable) → AreRunnables held list rs → IsRunnable held part.kernel r →
    AreRunnables held (list ++ part ∷ []) (rs ++ r ∷ [])
runnables_more held [] [] part r are one = (one, tt)
runnables_more held (p ∷ list) (q ∷ rs) part r are one = (are.0, runnables_more held list rs part r are.1 one)
runnables_more held [] (q ∷ rs) part r are one = absurd are
runnables_more held (p ∷ list) [] part r are one = absurd are

-- they have the parameters that their launches are bound to
pub runnables_kinds : (held : List Held) (list : List LaunchPart) (rs : List Runnable) →
    All (λ h. IsShell (object_of h.object) h.shell) held → AreRunnables held list rs → All HasKinds rs
runnables_kinds held [] [] shells are k d lt = absurd (omega arith)
runnables_kinds held (p ∷ list) (r ∷ rs) shells are zero d lt =
    let one = are.0 in
    object_kinds one.one.object r (subst (IsShell (object_of one.one.object)) (sym one.program)
    (All-contains (λ h. IsShell (object_of h.object) h.shell) held one.one shells one.among)) one.group
runnables_kinds held (p ∷ list) (r ∷ rs) shells are (suc k) d lt =
    runnables_kinds held list rs shells are.1 k d (omega arith)
runnables_kinds held [] (r ∷ rs) shells are k d lt = absurd are
runnables_kinds held (p ∷ list) [] shells are k d lt = absurd are

module _ (files : Option FileMap) (source : List ℕ) (text : Text) (held : List Held)
    (all : All (IsHeld files source text) held) where
  chosen_by : (kernel : List ℕ) (o : PlainObject) (entry : Option Entry) → HasObject files source text kernel o entry →
      IsFound files source text kernel o ⊎ IsFresh files source text kernel o
  chosen_by kernel o None has = inl has
  chosen_by kernel o (Some entry) has = inr has.0

  runs_one : (kernel : List ℕ) (r : Runnable) → IsRunnable held kernel r →
      RunsKernel files source text kernel (runs_of r)
  runs_one kernel r is =
      let one : IsHeld files source text is.one =
      All-contains (IsHeld files source text) held is.one all is.among in
      record {
        object = object_of is.one.object;
        chosen = subst (λ (k : List ℕ). IsFound files source text k (object_of is.one.object) ⊎
            IsFresh files source text k (object_of is.one.object)) is.named
            (chosen_by is.one.kernel.now (object_of is.one.object) is.one.entry one.has);
        runs = runs_is is.one.object r (subst (IsShell (object_of is.one.object)) (sym is.program) one.shell) is.group;
      }

  pub runs_chosen : (list : List LaunchPart) (rs : List Runnable) → AreRunnables held list rs →
      RunKernels files source text (map part_of list) (map runs_of rs)
  runs_chosen [] [] are = tt
  runs_chosen (p ∷ list) (r ∷ rs) are = (runs_one p.kernel r are.0, runs_chosen list rs are.1)
  runs_chosen [] (r ∷ rs) are = absurd are
  runs_chosen (p ∷ list) [] are = absurd are

  -- the kernel of a name
  runs_named : (kernel : List ℕ) (hs : List Held) → All (IsHeld files source text) hs → IsNamedIn hs kernel →
      (r : Runs) × RunsKernel files source text kernel r
  runs_named kernel [] known named = absurd named
  runs_named kernel (h ∷ hs) known (inl same) =
      let one = known 0 h (omega arith) in (
        object_runs (object_of h.object),
        record {
          object = object_of h.object;
          chosen = subst (λ (k : List ℕ). IsFound files source text k (object_of h.object) ⊎
              IsFresh files source text k (object_of h.object)) same
              (chosen_by h.kernel.now (object_of h.object) h.entry one.has);
          runs = refl;
        },
      )
  runs_named kernel (h ∷ hs) known (inr later) =
      runs_named kernel hs (λ k d lt. known (suc k) d (omega arith)) later

  pub runs_all : (list : List LaunchPart) → Each (λ p. IsNamedIn held p.kernel) list →
      (rs : List Runs) × RunKernels files source text (map part_of list) rs
  runs_all [] named = ([], tt)
  runs_all (p ∷ list) named =
      let one = runs_named p.kernel held all named.0 in
      let rest = runs_all list named.1 in
      (one.0 ∷ rest.0, (one.1, rest.1))

-- a launch whose kernel is not there, behind those that have theirs
pub holding : (old mid new : Standing) (source : List ℕ) (text : Text) (held : List Held) (list : List LaunchPart)
    (k : ℕ) (part : LaunchPart) (e : RunError) → mid.files ≡ old.files → HasNoFewer old mid → HasNoFewer mid new →
    map part_of list ≡ text.list → k < length list → part ≡ get_or list k part →
    All (IsHeld old.files source text) held → Each (λ p. IsNamedIn held p.kernel) (take k list) →
    HoldCause mid new source text part.kernel e → HoldingCause old new source text e
holding old mid new source text held list k part Failed same before after are lt is all named c =
    rose_over old.faults mid.faults new.faults before.faults after.faults c
holding old mid new source text held list k part (Source condition place) same before after are lt is all named c =
    let rs = runs_all old.files source text held all (take k list) named in
    record {
      earlier = map part_of (take k list);
      part = part_of part;
      later = map part_of (drop (suc k) list);
      list_is = sym are ∙ split_of part_of list k part lt is;
      kernels = rs.0;
      chosen = rs.1;
      lacks = subst (λ (f : Option FileMap). IsNotFound f source text part.kernel) same c.0;
      fault = c.1;
    }
holding old mid new source text held list k part Memory same before after are lt is all named c = tt
holding old mid new source text held list k part _ same before after are lt is all named c = absurd c

-- ---- once the kernels are held

-- what was taken
taken : (files : Option FileMap) (ask : Files) (source : List ℕ) (text : Text) (held : List Held)
    (list : List LaunchPart) (rs : List Runnable) → map part_of list ≡ text.list → CachedRead files ask source text →
    All (IsHeld files source text) held → AreRunnables held list rs →
    CachedTaken files ask source text (map runs_of rs)
taken files ask source text held list rs same read all are = record {
  read = read;
  chosen = subst (λ (ps : List Part). RunKernels files source text ps (map runs_of rs)) same
      (runs_chosen files source text held all list rs are);
}

module _ (text : Text) (held : List Held) (list : List LaunchPart) (rs : List Runnable)
    (same : map part_of list ≡ text.list) (are : AreRunnables held list rs) where
  pub bind_refused : (old new : Standing) (e : RunError) → RunsBindCause text (map runs_of rs) e →
      HeldCause old new text held e
  bind_refused old new (Launch first) c = λ source ask read all.
      inr (inl (record {
        source = source;
        text = text;
        kernels = map runs_of rs;
        taken = taken old.files ask source text held list rs same read all are;
        refused = c;
      }))
  bind_refused old new Memory c = λ source ask read all. tt
  bind_refused old new _ c = absurd c

  pub bind_leaves : (old : Standing) (e : RunError) → HeldLeaves old old text held e
  bind_leaves old e = λ source ask read all. leaves_same old old ask e refl

  pub named_refused : (old new : Standing) → runs_refusal text (map runs_of rs) ≡ None →
      (NoCacheName text.buffers → ⊥) → HeldCause old new text held (Launch SavedUnderCacheName)
  named_refused old new accepted stands = λ source ask read all.
      inr (inr (
        refl,
        record {
          source = source;
          text = text;
          kernels = map runs_of rs;
          taken = taken old.files ask source text held list rs same read all are;
          accepted = accepted;
          stands = stands;
        },
      ))

  module _ (plain : NoCacheName text.buffers) where
    stopped : (files : Option FileMap) (e : RunError) → AreStopped files text (map runs_of rs) e → (source : List ℕ)
        (ask : Files) → CachedRead files ask source text → All (IsHeld files source text) held →
        CachedStopped files ask e
    stopped files e s source ask read all = record {
      source = source;
      text = text;
      kernels = map runs_of rs;
      taken = taken files ask source text held list rs same read all are;
      plain = plain;
      stopped = s;
    }

    pub run_refused : (old new : Standing) (e : RunError) → RunsCause old new text (map runs_of rs) e →
        HeldCause old new text held e
    run_refused old new Failed c = λ source ask read all. c
    run_refused old new Absent c = λ source ask read all. (
      c.0,
      inr (record {
        source = source;
        text = text;
        kernels = map runs_of rs;
        taken = taken old.files ask source text held list rs same read all are;
        accepted = c.1;
        plain = plain;
        lacks = c.2;
      }),
    )
    run_refused old new (Launch first) c = bind_refused old new (Launch first) c
    run_refused old new (Range number several group item place) c =
        stopped old.files (Range number several group item place) c
    run_refused old new (Parted number several group item place) c =
        stopped old.files (Parted number several group item place) c
    run_refused old new (Turns number several) c = stopped old.files (Turns number several) c
    run_refused old new Memory c = λ source ask read all. tt
    run_refused old new NotObject c = absurd c
    run_refused old new (Source condition place) c = absurd c

    pub run_leaves : (old new : Standing) (e : RunError) → RunsLeave old new text (map runs_of rs) e →
        HeldLeaves old new text held e
    run_leaves old new Failed (inl stays) = λ source ask read all. inl stays
    run_leaves old new Failed (inr s) = λ source ask read all.
        inr (record {
          source = source;
          text = text;
          kernels = map runs_of rs;
          taken = taken old.files ask source text held list rs same read all are;
          plain = plain;
          before = s.before;
          after = s.after;
          run = s.run;
          stops = inl (s.stops, s.others);
        })
    run_leaves old new Absent left = λ source ask read all. left
    run_leaves old new (Launch first) left = λ source ask read all. left
    run_leaves old new (Range number several group item place) left = λ source ask read all. left
    run_leaves old new (Parted number several group item place) left = λ source ask read all. left
    run_leaves old new (Turns number several) left = λ source ask read all. left
    run_leaves old new Memory left = λ source ask read all. left
    run_leaves old new NotObject left = λ source ask read all. left
    run_leaves old new (Source condition place) left = λ source ask read all. left

-- ---- the entries

-- each launch names one that is held
named_at : (held : List Held) (list : List LaunchPart) (part : Part) → Each (λ p. IsNamedIn held p.kernel) list →
    Contains (map part_of list) part → IsNamedIn held part.kernel
named_at held [] part named (k, lt, is) = absurd (omega arith)
named_at held (p ∷ list) part named (zero, lt, is) = subst (λ (q : Part). IsNamedIn held q.kernel) is named.0
named_at held (p ∷ list) part named (suc k, lt, is) = named_at held list part named.1 (k, omega arith, is)

-- all but the saves and what is kept
others_kept : (old new : Option FileMap) (saves : List (Option (List ℕ))) (kept : FileMap) →
    ((name : List ℕ) → (Contains saves (Some name) → ⊥) → (IsAmong kept name → ⊥) →
    told_file new name ≡ told_file old name) → KeepsAllBut old new (saves ++ kept_names kept)
others_kept old new saves kept each name other =
    each name (λ among. other (Contains-append_left saves (kept_names kept) (Some name) among))
    (λ among. other (Contains-append_right saves (kept_names kept) (Some name) (among_names kept name among)))

module _ (text : Text) (held : List Held) (list : List LaunchPart) (rs : List Runnable)
    (same : map part_of list ≡ text.list) (are : AreRunnables held list rs) (plain : NoCacheName text.buffers)
    (named : Each (λ p. IsNamedIn held p.kernel) list) where
  pub held_kept : (old mid new : Option FileMap) (summary : Summary) →
      AreRun old mid text (map runs_of rs) summary → AreSaved mid new (kept_of held) →
      HeldDone old new text held summary
  held_kept old mid new summary run saved source ask read all =
      let kept = kept_of held in
      let entries = all_kept old source text held all in
      record {
        source = source;
        text = text;
        kernels = map runs_of rs;
        taken = taken old ask source text held list rs same read all are;
        plain = plain;
        before = run.before;
        after = run.after;
        run = run.run;
        saved = buffers_saved old mid new source text kept entries plain run.others run.after run.saved
            (λ name other. saved name);
        kept = kept;
        are_kept = entries;
        kept_there = λ name among. there old mid new source text kept entries plain run.others name
            (names_among kept name among) (saved name);
        others = others_kept old new (saves_of text.buffers) kept (λ name unsaved other.
            not_kept old mid new source text kept entries plain run.others name unsaved other (saved name));
        entries = λ part among. elim (launch_there old source text part.kernel held all (named_at held list part named
            (subst (λ (ps : List Part). Contains ps part) (sym same) among))) [
              | inl found ↦ holds_found old mid new source text kept entries plain run.others part found.0 among found.1
                  (saved (cache_name source text part.kernel))
              | inr here ↦ holds_kept old mid new source text kept entries plain run.others
                  (cache_name source text part.kernel) here (saved (cache_name source text part.kernel))
            ];
        groups = run.groups;
        items = run.items;
      }

  -- the entries before the one that failed
  front : (files : Option FileMap) (source : List ℕ) (xs ys : FileMap) → AreKept files source text (xs ++ ys) →
      AreKept files source text xs × AreKept files source text ys
  front files source [] ys entries = (tt, entries)
  front files source (f ∷ xs) ys entries =
      let rest = front files source xs ys entries.1 in ((entries.0, rest.0), rest.1)

  names_with : (xs : FileMap) (name : List ℕ) (other : List ℕ) →
      (Contains (kept_names xs ++ Some name ∷ []) (Some other) → ⊥) → (IsAmong xs other → ⊥) × (other ≡ name → ⊥)
  names_with xs name other none = (
    λ among. none (Contains-append_left (kept_names xs) (Some name ∷ []) (Some other) (among_names xs other among)),
    λ is. none (Contains-append_right (kept_names xs) (Some name ∷ []) (Some other) (
      0,
      omega arith,
      ap Some
          (sym is),
    )),
  )

  pub held_stopped : (old mid new : Standing) (summary : Summary) →
      AreRun old.files mid.files text (map runs_of rs) summary → AreSavedUpTo mid.files new.files (kept_of held) →
      HeldLeaves old new text held Failed
  held_stopped old mid new summary run x source ask read all =
      let whole : AreKept old.files source text (x.earlier ++ x.failing ∷ x.later) =
      subst (λ (kept : FileMap). AreKept old.files source text kept) x.is (all_kept old.files source text held all) in
      let parts = front old.files source x.earlier (x.failing ∷ x.later) whole in
      let failing : IsCacheName x.failing.0 =
      kept_name old.files source text (x.failing ∷ []) x.failing.0 (parts.1.0, tt) (inl refl) in
      inr (record {
        source = source;
        text = text;
        kernels = map runs_of rs;
        taken = taken old.files ask source text held list rs same read all are;
        plain = plain;
        before = run.before;
        after = run.after;
        run = run.run;
        stops = inr (record {
          saved = buffers_saved old.files mid.files new.files source text x.earlier parts.0 plain run.others run.after
              run.saved (λ name other. x.others name (λ is. other (subst IsCacheName (sym is) failing)));
          earlier = x.earlier;
          are_kept = parts.0;
          name = x.failing.0;
          bytes = x.failing.1;
          is_kept = parts.1.0;
          kept_there = λ other among apart. there old.files mid.files new.files source text x.earlier parts.0 plain
              run.others other (names_among x.earlier other among) (x.others other apart);
          others = λ name none.
              let two = names_with x.earlier x.failing.0 name (λ among. none (Contains-append_right
              (saves_of text.buffers) (kept_names x.earlier ++ Some x.failing.0 ∷ []) (Some name) among)) in
              not_kept old.files mid.files new.files source text x.earlier parts.0 plain run.others name
              (λ among. none (Contains-append_left (saves_of text.buffers)
              (kept_names x.earlier ++ Some x.failing.0 ∷ []) (Some name) among)) two.0 (x.others name two.1);
        });
      })

  -- saving them failed, whose fault rose
  pub kept_failed : (old mid new : Standing) → HasNoFewer old mid → HasNoFewer mid new → Rose mid.faults new.faults →
      HeldCause old new text held Failed
  kept_failed old mid new before after rose = λ source ask read all.
      rose_over old.faults mid.faults new.faults before.faults after.faults rose
