-- A run whose files are there and accepted, where no fault rises, is done, or wants memory.
use Rattle.std.proofs.Common.{◌≡◌, ℕ, Bool, List, take, Option, Some, None, inl, inr, refl, sym, ◌∙◌, ap₂, subst, arith}
use Rattle.std.specs.Prelude.{◌⊎◌, Result, Ok, Err, IfOk, IfErr}
use Rattle.wg_outside.specs.Counts.{Rose}
use Rattle.wg_outside.specs.Files.{FileMap, HasFileStart, LacksFile, told_file}
use Rattle.buffer_io.specs.Loads.{LacksOneFile}
use Rattle.command_words.specs.Command.{Files}
use Rattle.cl_model.specs.Sizes.{Launch as ModelLaunch}
use Rattle.launch_file.specs.Binding.{loads_of}
use Rattle.launch_file.specs.Refusals.{Reads}
use Rattle.launch_file.specs.Texts.{Text}
use Rattle.launch_file.proofs.Unique.{one_text, read_or_refused}
use Rattle.wg_top.specs.declared.RunError.{RunError}
use Rattle.wg_top.specs.declared.RunError.TheVariants.{Failed, Absent, Source, Launch, Range, Parted, Turns, Memory}
use Rattle.wg_top.specs.declared.RunError.TheVariants.{NotObject}
use Rattle.cl_meaning.specs.Typed.{Unit'}
use Rattle.cl_front.specs.declared.condition.Condition.{Condition}
use Rattle.cl_front.specs.Front.{HasUnit}
use Rattle.lane_code.specs.declared.end.RunEnd.TheVariants as run
use Rattle.lane_code.specs.Program.{Plain}
use Rattle.wg_top.specs.CompiledLaunches.{programs_in, LaunchesRan, EndsSo}
use Rattle.wg_top.specs.Units.{HaveTypedUnits, bind_refusal}
use Rattle.wg_top.specs.Launches.{launches_in}
use Rattle.wg_top.specs.Stages.{BackCause}
use Rattle.cl_check_sound.specs.Law.{DefinesFit}
use Rattle.wg_top.specs.Causes.{Standing, HasNoFewer, ReadingFinds, BuffersLoaded, RunRead, IsReadable, IsTaken}
use Rattle.wg_top.specs.Causes.{AcceptedClean, LeavesClean, HasLoops, LacksText, LacksName, IsSourceFault}
use Rattle.wg_top.specs.CompiledCauses.{Cause, RunStopped, RunStops, StopsIn, IsRun, IsDone, Accepted, AcceptedRun}
use Rattle.wg_top.specs.Loops.{HaveNoLoop}
use Rattle.wg_top.specs.Outcomes.{models_in, AreClean}
use Rattle.wg_top.specs.Lines.{status_of}
use Rattle.wg_top.specs.Outside.{Outside, EndsClean}
use Rattle.wg_top.specs.Ends.{Ends}
use Rattle.cl_front.proofs.FrontLemmas.{refused_or_unit}
use Rattle.wg_top.specs.declared.Summary.{Summary}
use Rattle.wg_top.proofs.LaunchLemmas.{done_only}
use Rattle.wg_top.proofs.EndLemmas.{leaves_all}
use Rattle.wg_top.proofs.CauseLemmas.{is_done, back_cause}
use Rattle.wg_top.proofs.ChainLemmas.{are_done, may_end}
use Rattle.wg_top.proofs.CleanLemmas.{leaves_clean, never_stops}
use Rattle.wg_top.proofs.LoopLemmas.{no_turns_of}
use Rattle.wg_top.proofs.ProgramLemmas.{one_units, no_refused}

-- what is loaded of a file that is told
pub start_is : (files : Option FileMap) (name : List ℕ) (most : ℕ) (bytes held : List ℕ) →
    told_file files name ≡ Some (Some held) → HasFileStart files name most bytes → bytes ≡ take most held
start_is files name most bytes held told h = let e : Some (take most held) ≡ Some bytes = rw told at h in cc

-- a file that is told is there
pub not_lacked : (files : Option FileMap) (name held : List ℕ) → told_file files name ≡ Some (Some held) →
    LacksFile files name → ⊥
not_lacked files name held told h = let e : Some held ≡ None = rw told at h in cc

-- two readings of one launch file
pub same_text : (bytes others : List ℕ) (ask : Files) (a b : Text) → bytes ≡ others →
    Reads bytes ask.lanes ask.turns a → Reads others ask.lanes ask.turns b → a ≡ b
same_text bytes others ask a b same x y =
    one_text bytes ask.lanes ask.turns a b x (subst (λ (bs : List ℕ). Reads bs ask.lanes ask.turns b) (sym same) y)

-- a source that is compiled for each launch is not at fault
pub no_fault : (bytes others : List ℕ) (text other : Text) (s : List Unit') (condition : Condition)
    (place : _) → bytes ≡ others → text ≡ other → IsSourceFault bytes text condition place →
    HasUnit others other.defines → HaveTypedUnits others other.defines other.list s → ⊥
no_fault bytes others text other s condition place same_bytes same fault unit are =
    let u : HasUnit bytes text.defines =
    subst (λ (t : Text). HasUnit bytes t.defines) (sym same) (subst (λ (b : List ℕ). HasUnit b other.defines)
    (sym same_bytes) unit) in
    let c : HaveTypedUnits bytes text.defines text.list s =
    subst (λ (t : Text). HaveTypedUnits bytes t.defines t.list s) (sym same)
    (subst (λ (b : List ℕ). HaveTypedUnits b other.defines other.list s) (sym same_bytes) are) in
    elim fault [
      | inl stands ↦ refused_or_unit bytes text.defines condition place stands u
      | inr first ↦ no_refused bytes text.defines text.list s condition place first c
    ]

-- two readings have the same typed units
pub same_units : (bytes others : List ℕ) (text other : Text) (us vs : List Unit') → bytes ≡ others → text ≡ other →
    HaveTypedUnits bytes text.defines text.list us → HaveTypedUnits others other.defines other.list vs → us ≡ vs
same_units bytes others text other us vs same_bytes same x y =
    one_units bytes text.defines text.list us vs x (subst (λ (t : Text). HaveTypedUnits bytes t.defines t.list vs)
    (sym same) (subst (λ (b : List ℕ). HaveTypedUnits b other.defines other.list vs) (sym same_bytes) y))

-- launches that are all done are not refused
pub none_refused : (several : Bool) (ps : List Plain) (launches : List ModelLaunch) (before after : List (List ℕ))
    (e : RunError) → LaunchesRan ps launches before after → EndsSo several ps launches before e → ⊥
none_refused several ps launches before after (Range number s group item place) ran ends = let e =
    done_only ps launches before after ends.1.behind (run.Range group item ends.1.site) ran ends.1.ends in
    let never : ⊥ = cc e in never
none_refused several ps launches before after (Parted number s group item place) ran ends = let e =
    done_only ps launches before after ends.1.behind (run.Parted group item ends.1.site) ran ends.1.ends in
    let never : ⊥ = cc e in never
none_refused several ps launches before after (Turns number s) ran ends = let e =
    done_only ps launches before after ends.1.behind run.Turns ran ends.1.ends in let never : ⊥ = cc e in never
none_refused several ps launches before after _ ran ends = ends

-- the launch file that was loaded is the one that is there
read_text : (files : Option FileMap) (ask : Files) (text read : Text) (s : List Unit') (bytes : List ℕ) →
    IsReadable files ask text s → HasFileStart files ask.launch 1048577 bytes → Reads bytes ask.lanes ask.turns read →
    read ≡ text
read_text files ask text read s bytes all loaded is =
    same_text bytes (take 1048577 all.launch_bytes) ask read text
    (start_is files ask.launch 1048577 bytes all.launch_bytes all.launch_told loaded) is all.reads

-- what is read is not refused while it is read
none_unread : (files : Option FileMap) (ask : Files) (text : Text) (s : List Unit') → IsReadable files ask text s →
    LacksText files ask → ⊥
none_unread files ask text s all lacks = elim lacks [
  | inl first ↦ not_lacked files ask.source all.source_bytes all.source_told first
  | inr second ↦ not_lacked files ask.launch all.launch_bytes all.launch_told second.2
]

pub none_found : (files : Option FileMap) (ask : Files) (text : Text) (s : List Unit') (e : RunError) →
    IsReadable files ask text s → ReadingFinds files ask e → ⊥
none_found files ask text s Absent all finds = none_unread files ask text s all finds
none_found files ask text s (Source condition place) all finds =
    let same = read_text files ask text finds.text s finds.launch_bytes all finds.launch_loaded finds.reads in
    let bytes : finds.source_bytes ≡ take 262145 all.source_bytes =
    start_is files ask.source 262145 finds.source_bytes all.source_bytes all.source_told finds.source_loaded in
    no_fault finds.source_bytes (take 262145 all.source_bytes) finds.text text s condition place bytes same finds.fault
    all.unit all.compiled
none_found files ask text s (Launch first) all finds =
    let bytes : take 1048577 all.launch_bytes ≡ finds.launch_bytes =
    sym (start_is files ask.launch 1048577 finds.launch_bytes all.launch_bytes all.launch_told
    finds.launch_loaded) in
    read_or_refused finds.launch_bytes ask.lanes ask.turns text first
    (subst (λ (b : List ℕ). Reads b ask.lanes ask.turns text) bytes all.reads) finds.refused
none_found files ask text s _ all finds = finds

none_lacked : (files : Option FileMap) (ask : Files) (text : Text) (s : List Unit') → IsTaken files ask text s →
    LacksName files ask → ⊥
none_lacked files ask text s all lacks = elim lacks [
  | inl texts ↦ none_unread files ask text s all.readable texts
  | inr third ↦
      let same : third.0 ≡ text = read_text files ask text third.0 s third.2.read.launch_bytes all.readable
      third.2.read.launch_loaded third.2.read.reads in
      let one : LacksOneFile files (loads_of text.buffers) =
      subst (λ (t : Text). LacksOneFile files (loads_of t.buffers)) same third.3 in
      let told = all.buffers_told one.name one.is_load in
      not_lacked files one.name told.0 told.1 one.lacks
]

-- what was read is what is there
pub same_read : (files : Option FileMap) (ask : Files) (text other : Text) (s t : List Unit') →
    IsReadable files ask text s → RunRead files ask other t → (other ≡ text) × (t ≡ s)
same_read files ask text other s t all read =
    let same : other ≡ text = read_text files ask text other s read.launch_bytes all read.launch_loaded read.reads in
    let bytes : read.source_bytes ≡ take 262145 all.source_bytes =
    start_is files ask.source 262145 read.source_bytes all.source_bytes all.source_told read.source_loaded in (
      same,
      same_units read.source_bytes (take 262145 all.source_bytes) other text t s bytes same read.compiled
          all.compiled,
    )

-- a launch that is not done
pub stopped_of : (files : Option FileMap) (ask : Files) (e : RunError) → RunStops files ask e → RunStopped files ask e
stopped_of files ask e x = record { text = x.text; units = x.units; read = x.read; stopped = x.stops.stopped }

-- no launch of theirs is refused
pub ran_not_stopped : (files : Option FileMap) (text : Text) (s : List Unit') (e : RunError) →
    ((before : List (List ℕ)) → BuffersLoaded files text before → (after : List (List ℕ)) ×
    LaunchesRan (programs_in text s) (launches_in text) before after) → StopsIn files text s e → ⊥
ran_not_stopped files text s e all x =
    let done = all x.stopped.before x.stopped.loaded in
    none_refused text.several (programs_in text s) (launches_in text) x.stopped.before done.0 e done.1 x.stopped.ends

none_stopped : (files : Option FileMap) (ask : Files) (text : Text) (s : List Unit') (e : RunError) →
    Accepted files ask text s → RunStops files ask e → ⊥
none_stopped files ask text s e all x =
    let same = same_read files ask text x.text s x.units all.taken.readable x.read in
    ran_not_stopped files text s e all.done (subst (λ (us : List Unit'). StopsIn files text us e) same.1
    (subst (λ (t : Text). StopsIn files t x.units e) same.0 x.stops))

-- and none of clean launches
pub clean_not_stopped : (files : Option FileMap) (text : Text) (s : List Unit') (e : RunError) →
    ((before : List (List ℕ)) → BuffersLoaded files text before → AreClean (models_in s) (launches_in text) before) →
    StopsIn files text s e → ⊥
clean_not_stopped files text s e clean x =
    never_stops s (launches_in text) x.stopped.before e x.made (clean x.stopped.before x.stopped.loaded)
    (may_end (programs_in text s) (models_in s) (launches_in text) x.stopped.before e x.outcome)

none_unclean : (files : Option FileMap) (ask : Files) (text : Text) (s : List Unit') (e : RunError) →
    AcceptedClean files ask text s → RunStops files ask e → ⊥
none_unclean files ask text s e all x =
    let same = same_read files ask text x.text s x.units all.taken.readable x.read in
    clean_not_stopped files text s e all.clean (subst (λ (us : List Unit'). StopsIn files text us e) same.1
    (subst (λ (t : Text). StopsIn files t x.units e) same.0 x.stops))

-- a refusal without a fault of the store is another than that
pub not_failed : (old new : Standing) (ask : Files) (e : RunError) → (Rose old.faults new.faults → ⊥) →
    Cause old new ask e → e ≡ Failed → ⊥
not_failed old new ask e quiet cause is = quiet (subst (λ (x : RunError). Cause old new ask x) is cause)

complete : (old new : Standing) (ask : Files) (text : Text) (s : List Unit') (e : RunError) (n : ℕ) →
    IsTaken old.files ask text s → ((d : RunError) → RunStops old.files ask d → ⊥) → (e ≡ Failed → ⊥) →
    n ≡ status_of e → Cause old new ask e → n ≡ 8
complete old new ask text s Failed n all never other is cause = absurd (other refl)
complete old new ask text s Absent n all never other is cause = absurd (none_lacked old.files ask text s all cause.1)
complete old new ask text s (Source condition place) n all never other is cause =
    absurd (none_found old.files ask text s (Source condition place) all.readable cause.refused)
complete old new ask text s (Launch first) n all never other is cause = absurd (elim cause [
  | inl unread ↦ none_found old.files ask text s (Launch first) all.readable unread
  | inr unbound ↦
      let same = same_read old.files ask text unbound.text s unbound.units all.readable unbound.read in
      let e : Some first ≡ None = sym unbound.refused ∙ (ap₂ bind_refusal same.0 same.1 ∙ all.accepted) in
      let never : ⊥ = cc e in never
])
complete old new ask text s (Range launch several group item place) n all never other is cause =
    absurd (never (Range launch several group item place) cause)
complete old new ask text s (Parted launch several group item place) n all never other is cause =
    absurd (never (Parted launch several group item place) cause)
complete old new ask text s (Turns launch several) n all never other is cause =
    absurd (never (Turns launch several) cause)
complete old new ask text s Memory n all never other is cause = is
complete old new ask text s NotObject n all never other is cause = absurd cause

-- of a run that is accepted
pub run_complete : (old new : Standing) (ask : Files) (e : RunError) (n : ℕ) → AcceptedRun old.files ask →
    (e ≡ Failed → ⊥) → n ≡ status_of e → Cause old new ask e → n ≡ 8
run_complete old new ask e n all other is cause = elim (all.2) [
  | inl done ↦ complete old new ask all.0 all.1 e n done.taken (λ d stops. none_stopped old.files ask all.0 all.1 d
      done stops) other is cause
  | inr clean ↦ complete old new ask all.0 all.1 e n clean.taken (λ d stops. none_unclean old.files ask all.0 all.1 d
      clean stops) other is cause
]

pub ends_complete : (old new : Outside) (ask : Files) (n : ℕ) → Ends old new ask n → AcceptedRun old.store.files ask →
    (Rose old.store.faults new.store.faults → ⊥) → (Rose old.out.faults new.out.faults → ⊥) → (n ≡ 0) ⊎ (n ≡ 8)
ends_complete old new ask n ends all quiet out_quiet = elim ends [
  | inl done ↦ inl done.status_is
  | inr more ↦ elim more [
    | inl unsaid ↦ absurd (out_quiet unsaid.failed)
    | inr refused ↦ inr (run_complete old.store new.store ask refused.error n all
        (not_failed old.store new.store ask refused.error quiet refused.cause) refused.status_is refused.cause)
  ]
]

-- ---- clean launches

-- what a run of clean launches leaves
pub run_leaves : (old new : Option FileMap) (text : Text) (s : List Unit') (summary : Summary) →
    ((before : List (List ℕ)) → BuffersLoaded old text before → AreClean (models_in s) (launches_in text) before) →
    IsRun old new text s summary → LeavesClean old new text s
run_leaves old new text s summary clean r = record {
  before = r.run.before;
  loaded = r.run.loaded;
  after = r.after;
  leaves = leaves_clean s (launches_in text) r.run.before r.after r.run.made (clean r.run.before r.run.loaded)
      (are_done (programs_in text s) (models_in s) (launches_in text) r.run.before r.after r.run.ran);
  saved = r.saved;
  others = r.others;
}

done_clean : (old new : Option FileMap) (ask : Files) (text : Text) (s : List Unit') (summary : Summary) →
    AcceptedClean old ask text s → IsDone old new ask summary → LeavesClean old new text s
done_clean old new ask text s summary all done =
    let same = same_read old ask text done.text s done.units all.taken.readable done.read in
    run_leaves old new text s summary all.clean (subst (λ (us : List Unit'). IsRun old new text us summary) same.1
    (subst (λ (t : Text). IsRun old new t done.units summary) same.0 done.run))

-- a refusal of clean launches is want of memory
refused_clean : (old new : Standing) (ask : Files) (text : Text) (s : List Unit') (e : RunError) (n : ℕ) →
    AcceptedClean old.files ask text s → (Rose old.faults new.faults → ⊥) → n ≡ status_of e → Cause old new ask e →
    n ≡ 8
refused_clean old new ask text s e n all quiet is cause =
    complete old new ask text s e n all.taken (λ d stops. none_unclean old.files ask text s d all stops)
    (not_failed old new ask e quiet cause) is cause

-- a status says which
is_memory : (e : RunError) → status_of e ≡ 8 → e ≡ Memory
is_memory Failed is = absurd (omega (arith, is))
is_memory Absent is = absurd (omega (arith, is))
is_memory (Source condition place) is = absurd (omega (arith, is))
is_memory (Launch first) is = absurd (omega (arith, is))
is_memory (Range launch several group item place) is = absurd (omega (arith, is))
is_memory (Parted launch several group item place) is = absurd (omega (arith, is))
is_memory (Turns launch several) is = absurd (omega (arith, is))
is_memory Memory is = refl
is_memory NotObject is = absurd (omega (arith, is))

pub memory_clean : (old new : Standing) (ask : Files) (text : Text) (s : List Unit') (e : RunError) →
    AcceptedClean old.files ask text s → (Rose old.faults new.faults → ⊥) → Cause old new ask e → e ≡ Memory
memory_clean old new ask text s e all quiet cause =
    is_memory e (refused_clean old new ask text s e (status_of e) all quiet refl cause)

-- the same of a run that was read, by its answer
pub run_clean : (old mid new : Option FileMap) (ask : Files) (read_text : Text) (units : List Unit')
    (r : Result Summary RunError) → RunRead old ask read_text units → DefinesFit read_text.defines → mid ≡ old →
    IfOk r (IsRun mid new read_text units) →
    IfOk r (λ summary. (text : Text) (s : List Unit') → AcceptedClean old ask text s → LeavesClean old new text s)
run_clean old mid new ask read_text units (Ok summary) read fit same run =
    λ text s all. done_clean old new ask text s summary all (is_done old mid new ask read_text units summary read fit
    same run)
run_clean old mid new ask read_text units (Err e) read fit same run = tt

pub run_memory : (old mid new : Standing) (ask : Files) (read_text : Text) (units : List Unit')
    (r : Result Summary RunError) → RunRead old.files ask read_text units → DefinesFit read_text.defines →
    mid.files ≡ old.files → HasNoFewer old mid → HasNoFewer mid new → IfErr r (BackCause mid new read_text units)
    → IfErr r (λ e. (text : Text) (s : List Unit') → AcceptedClean old.files ask text s →
    (Rose old.faults new.faults → ⊥) → e ≡ Memory)
run_memory old mid new ask read_text units (Ok summary) read fit same before after cause = tt
run_memory old mid new ask read_text units (Err e) read fit same before after cause =
    λ text s all quiet. memory_clean old new ask text s e all quiet (back_cause old mid new ask read_text units e read
    fit same before after cause)

pub ends_clean : (old new : Outside) (ask : Files) (text : Text) (s : List Unit') (n : ℕ) → Ends old new ask n →
    AcceptedClean old.store.files ask text s → (Rose old.store.faults new.store.faults → ⊥) →
    (Rose old.out.faults new.out.faults → ⊥) → EndsClean old.store.files new.store.files text s n
ends_clean old new ask text s n ends all quiet out_quiet = elim ends [
  | inl done ↦ inl (done.status_is, done_clean old.store.files new.store.files ask text s done.summary all done.done)
  | inr more ↦ elim more [
    | inl unsaid ↦ absurd (out_quiet unsaid.failed)
    | inr refused ↦
        let eight : n ≡ 8 =
        refused_clean old.store new.store ask text s refused.error n all quiet refused.status_is refused.cause in
        inr (
          eight,
          leaves_all old.store new.store ask refused.error n refused.status_is refused.leaves
              (λ one. omega (arith, eight, one)),
        )
  ]
]

-- ---- loops

-- a refusal for too many iterations says that there is a loop
pub stopped_loops : (files : Option FileMap) (text : Text) (s : List Unit') (number : ℕ) (several : Bool) →
    StopsIn files text s (Turns number several) → HaveNoLoop (models_in s) → ⊥
stopped_loops files text s number several x free =
    no_turns_of s (launches_in text) x.stopped.before number several x.made free
    (may_end (programs_in text s) (models_in s) (launches_in text) x.stopped.before (Turns number several) x.outcome)

has_loops : (files : Option FileMap) (ask : Files) (number : ℕ) (several : Bool) →
    RunStops files ask (Turns number several) → HasLoops files ask
has_loops files ask number several x = record {
  text = x.text;
  units = x.units;
  read = x.read;
  loops = stopped_loops files x.text x.units number several x.stops;
}

pub refused_loops : (old new : Standing) (ask : Files) (e : RunError) (n : ℕ) → n ≡ status_of e → Cause old new ask e →
    n ≡ 7 → HasLoops old.files ask
refused_loops old new ask Failed n is cause seven = absurd (omega arith)
refused_loops old new ask Absent n is cause seven = absurd (omega arith)
refused_loops old new ask (Source condition place) n is cause seven = absurd (omega arith)
refused_loops old new ask (Launch first) n is cause seven = absurd (omega arith)
refused_loops old new ask (Range launch several group item place) n is cause seven = absurd (omega arith)
refused_loops old new ask (Parted launch several group item place) n is cause seven = absurd (omega arith)
refused_loops old new ask (Turns launch several) n is cause seven = has_loops old.files ask launch several cause
refused_loops old new ask Memory n is cause seven = absurd (omega arith)
refused_loops old new ask NotObject n is cause seven = absurd (omega arith)

pub ends_loops : (old new : Outside) (ask : Files) (n : ℕ) → Ends old new ask n → n ≡ 7 → HasLoops old.store.files ask
ends_loops old new ask n ends seven = elim ends [
  | inl done ↦ absurd (omega (arith, done.status_is, seven))
  | inr more ↦ elim more [
    | inl unsaid ↦ absurd (omega (arith, unsaid.status_is, seven))
    | inr refused ↦ refused_loops old.store new.store ask refused.error n refused.status_is refused.cause seven
  ]
]
