-- `exec` of an object that a source is compiled to does what `run` does with that source.
use Rattle.std.proofs.Common.{◌≡◌, ℕ, List, [], ◌∷◌, map, Option, Some, None, inl, inr, refl, sym, ◌∙◌, ap, subst}
use Rattle.std.proofs.Common.{arith}
use Rattle.std.specs.Prelude.{◌⊎◌, sum, Contains}
use Rattle.wg_outside.specs.Counts.{Rose}
use Rattle.wg_outside.specs.Files.{FileMap, told_file}
use Rattle.cl_prep.specs.declared.prep.Define.{Define}
use Rattle.cl_meaning.specs.Typed.{Unit'}
use Rattle.command_words.specs.Command.{ObjectFiles}
use Rattle.launch_file.specs.Binding.{Needs, loads_of}
use Rattle.launch_file.specs.Texts.{Text, Part}
use Rattle.wg_object.specs.Plain.{PlainObject}
use Rattle.wg_top.specs.declared.RunError.{RunError}
use Rattle.wg_top.specs.declared.RunError.TheVariants.{Failed, Absent, Source, Launch, Range, Parted, Turns, Memory}
use Rattle.wg_top.specs.declared.RunError.TheVariants.{NotObject}
use Rattle.wg_top.specs.declared.Summary.{Summary}
use Rattle.wg_top.specs.Units.{needs_in, bind_refusal}
use Rattle.wg_top.specs.CompiledLaunches.{programs_in}
use Rattle.wg_top.specs.Launches.{launches_in}
use Rattle.wg_top.specs.Outcomes.{models_in}
use Rattle.wg_top.specs.Loops.{HaveNoLoop}
use Rattle.wg_top.specs.Causes.{Standing}
use Rattle.wg_top.specs.CompiledCauses.{IsRun, IsStopped, StopsIn}
use Rattle.wg_top.specs.Programs.{Runs, HaveRun, AreRun, AreStopped, AreSaveStopped, RunsCause, RunsLeave}
use Rattle.wg_top.specs.Stages.{BackCause, LeavesOthers}
use Rattle.wg_top.specs.CompiledObjects.{CompilesTo, needs_of_object, object_runs, runs_each, ExecTaken, ExecCause}
use Rattle.wg_top.specs.CompiledObjects.{ExecLeaves, TakingCause, TakingFinds}
use Rattle.wg_top.specs.Lines.{error_line, status_of}
use Rattle.wg_top.specs.Outside.{Outside, Says, EndsClean}
use Rattle.wg_top.specs.Ends.{EndsExec}
use Rattle.wg_top.specs.ExecOfSource.{IsOfSource, EndsUnits, EndsUntaken, EndsTaken, IsReadableOfSource}
use Rattle.wg_top.specs.ExecOfSource.{AcceptedOfSource, CleanOfSource, UnitsFind, ObjectHasLoops, IsExecOfSource}
use Rattle.wg_top.proofs.ChainLemmas.{launches_ran}
use Rattle.wg_top.proofs.CompleteLemmas.{not_lacked, ran_not_stopped, clean_not_stopped, run_leaves, stopped_loops}
use Rattle.wg_top.proofs.EndLemmas.{status_above}
use Rattle.wg_top.proofs.ExecLemmas.{taken_twice, early}
use Rattle.wg_top.proofs.FoundLemmas.{Found, unbound, no_buffer, stopped, fits, status_at, found_agree}
use Rattle.wg_top.proofs.ObjectLemmas.{one_needs}
use Rattle.wg_top.proofs.OutcomeLemmas.{IsRunFor, AreRunsFor}
use Rattle.wg_top.proofs.ProgramsLemmas.{back_for, left_for, run_for}

-- ---- an object's program is one for the unit of its source

same_needs : (o : PlainObject) (n : Needs) → o.params ≡ n.kinds → sum o.locals ≡ n.local_bytes →
    o.sizes ≡ n.required → needs_of_object o ≡ n
same_needs o n kinds locals sizes = one_needs o.params n.kinds (sum o.locals) n.local_bytes o.sizes n.required kinds
    locals sizes

module _ (source : List ℕ) (defines : List Define) (kernel : List ℕ) (lanes : ℕ) (o : PlainObject)
    (c : CompilesTo source defines kernel lanes o) where
  pub one_run : IsRunFor lanes c.typed (object_runs o)
  one_run = record {
    made = c.made;
    group = c.group;
    program = c.program;
    needs = same_needs o (needs_in c.typed) c.kinds c.local_bytes c.sizes;
  }

  pub each_run : (parts : List Part) →
      AreRunsFor lanes parts (map (λ (part : Part). c.typed) parts) (runs_each o parts)
  each_run [] = tt
  each_run (part ∷ parts) = (one_run, each_run parts)

-- ---- the launches of a launch file, as a run of the source has it

-- the launch file with other numbers for names and lanes
abbrev with_source : Text → List Define → ℕ → Text
with_source read defines lanes = record read { defines = defines; lanes = lanes }

have_run_with : (files : Option FileMap) (read : Text) (defines : List Define) (lanes : ℕ) (rs : List Runs)
    (before after : List (List ℕ)) → HaveRun files read rs before after →
    HaveRun files (with_source read defines lanes) rs before after
have_run_with files read defines lanes rs before after r =
    record { accepted = r.accepted; room = r.room; loaded = r.loaded; ran = r.ran }

stopped_with : (files : Option FileMap) (read : Text) (defines : List Define) (lanes : ℕ) (rs : List Runs)
    (e : RunError) → AreStopped files read rs e → AreStopped files (with_source read defines lanes) rs e
stopped_with files read defines lanes rs e s =
    record { accepted = s.accepted; room = s.room; before = s.before; loaded = s.loaded; ends = s.ends }

cause_with : (old new : Standing) (read : Text) (defines : List Define) (lanes : ℕ) (rs : List Runs) (e : RunError) →
    RunsCause old new read rs e → RunsCause old new (with_source read defines lanes) rs e
cause_with old new read defines lanes rs Failed h = h
cause_with old new read defines lanes rs Absent h = h
cause_with old new read defines lanes rs (Launch first) h = h
cause_with old new read defines lanes rs (Range number several group item place) h =
    stopped_with old.files read defines lanes rs (Range number several group item place) h
cause_with old new read defines lanes rs (Parted number several group item place) h =
    stopped_with old.files read defines lanes rs (Parted number several group item place) h
cause_with old new read defines lanes rs (Turns number several) h =
    stopped_with old.files read defines lanes rs (Turns number several) h
cause_with old new read defines lanes rs Memory h = h
cause_with old new read defines lanes rs NotObject h = h
cause_with old new read defines lanes rs (Source condition place) h = h

save_with : (old new : Option FileMap) (read : Text) (defines : List Define) (lanes : ℕ) (rs : List Runs) →
    AreSaveStopped old new read rs → AreSaveStopped old new (with_source read defines lanes) rs
save_with old new read defines lanes rs s = record {
  before = s.before;
  after = s.after;
  run = have_run_with old read defines lanes rs s.before s.after s.run;
  stops = s.stops;
  others = s.others;
}

leave_with : (old new : Standing) (read : Text) (defines : List Define) (lanes : ℕ) (rs : List Runs) (e : RunError) →
    RunsLeave old new read rs e → RunsLeave old new (with_source read defines lanes) rs e
leave_with old new read defines lanes rs Failed (inl same) = inl same
leave_with old new read defines lanes rs Failed (inr s) =
    inr (save_with old.files new.files read defines lanes rs s)
leave_with old new read defines lanes rs Absent h = h
leave_with old new read defines lanes rs (Launch first) h = h
leave_with old new read defines lanes rs (Range number several group item place) h = h
leave_with old new read defines lanes rs (Parted number several group item place) h = h
leave_with old new read defines lanes rs (Turns number several) h = h
leave_with old new read defines lanes rs Memory h = h
leave_with old new read defines lanes rs NotObject h = h
leave_with old new read defines lanes rs (Source condition place) h = h

run_with : (old new : Option FileMap) (read : Text) (defines : List Define) (lanes : ℕ) (rs : List Runs)
    (summary : Summary) → AreRun old new read rs summary → AreRun old new (with_source read defines lanes) rs summary
run_with old new read defines lanes rs summary r = record {
  before = r.before;
  after = r.after;
  run = have_run_with old read defines lanes rs r.before r.after r.run;
  saved = r.saved;
  others = r.others;
  groups = r.groups;
  items = r.items;
}

-- what holds of that launch file and of the units of the source
of_source : (o : PlainObject) (read text : Text) (units : List Unit') (P : Text → List Unit' → Type 0)
    (s : IsOfSource o read text units) → P (with_source read text.defines text.lanes)
    (map (λ (part : Part). s.compiles.typed) read.list) → P text units
of_source o read text units P s p =
    subst (λ (t : Text). P t units) (sym s.text_is)
    (subst (λ (us : List Unit'). P (with_source read text.defines text.lanes) us) (sym s.units_are) p)

-- ---- how `exec` ends

module _ (old new : Outside) (ask : ObjectFiles) (n : ℕ) where
  taken_done : (read : Text) (o : PlainObject) (summary : Summary) → ExecTaken old.store.files ask read o →
      AreRun old.store.files new.store.files read (runs_each o read.list) summary →
      ((text : Text) (units : List Unit') → IsRun old.store.files new.store.files text units summary →
      EndsUnits old new ask.object text units n) → EndsTaken old new ask n
  taken_done read o summary taken run ends = record {
    read = read;
    object = o;
    taken = taken;
    ends = λ text units s. of_source o read text units (λ t us. EndsUnits old new ask.object t us n) s
        (ends (with_source read text.defines text.lanes) (map (λ (part : Part). s.compiles.typed) read.list)
        (run_for old.store new.store (with_source read text.defines text.lanes)
        (map (λ (part : Part). s.compiles.typed) read.list) (runs_each o read.list)
        (each_run s.source text.defines o.kernel text.lanes o s.compiles read.list) summary
        (run_with old.store.files new.store.files read text.defines text.lanes (runs_each o read.list) summary run)));
  }

  taken_refused : (e : RunError) (read : Text) (o : PlainObject) → ExecTaken old.store.files ask read o →
      n ≡ status_of e → RunsCause old.store new.store read (runs_each o read.list) e →
      RunsLeave old.store new.store read (runs_each o read.list) e → Says old.err new.err (error_line ask.object e) →
      new.out ≡ old.out → EndsTaken old new ask n
  taken_refused e read o taken is cause leaves said out = record {
    read = read;
    object = o;
    taken = taken;
    ends = λ text units s. of_source o read text units (λ t us. EndsUnits old new ask.object t us n) s
        (inr (inr (record {
          error = e;
          status_is = is;
          cause = back_for old.store new.store (with_source read text.defines text.lanes)
              (map (λ (part : Part). s.compiles.typed) read.list) (runs_each o read.list)
              (each_run s.source text.defines o.kernel text.lanes o s.compiles read.list) e
              (cause_with old.store new.store read text.defines text.lanes (runs_each o read.list) e cause);
          leaves = left_for old.store new.store (with_source read text.defines text.lanes)
              (map (λ (part : Part). s.compiles.typed) read.list) (runs_each o read.list)
              (each_run s.source text.defines o.kernel text.lanes o s.compiles read.list) e
              (leave_with old.store new.store read text.defines text.lanes (runs_each o read.list) e leaves);
          said = said;
          out_stays = out;
        })));
  }

  untaken : (e : RunError) → n ≡ status_of e → TakingCause old.store new.store ask e →
      new.store.files ≡ old.store.files → Says old.err new.err (error_line ask.object e) → new.out ≡ old.out →
      EndsUntaken old new ask n
  untaken e is cause stays said out =
      record { error = e; status_is = is; cause = cause; stays = stays; said = said; out_stays = out }

  refused : (e : RunError) → n ≡ status_of e → ExecCause old.store new.store ask e →
      ExecLeaves old.store new.store ask e → Says old.err new.err (error_line ask.object e) → new.out ≡ old.out →
      EndsUntaken old new ask n ⊎ EndsTaken old new ask n
  refused Failed is cause (inl stays) said out = inl (untaken Failed is cause stays said out)
  refused Failed is cause (inr s) said out =
      inr (taken_refused Failed s.text s.object s.taken is cause (inr s.stopped) said out)
  refused Absent is cause leaves said out = elim (cause.1) [
    | inl lacks ↦ inl (untaken Absent is (cause.0, lacks) leaves said out)
    | inr x ↦ inr (taken_refused Absent x.text x.object x.taken is (cause.0, x.accepted, x.lacks) leaves said out)
  ]
  refused NotObject is (inl none) leaves said out = inl (untaken NotObject is none leaves said out)
  refused NotObject is (inr never) leaves said out = absurd never
  refused (Launch first) is (inl unread) leaves said out = inl (untaken (Launch first) is unread leaves said out)
  refused (Launch first) is (inr x) leaves said out =
      inr (taken_refused (Launch first) x.text x.object x.taken is x.refused leaves said out)
  refused (Range number several group item place) is (inl never) leaves said out = absurd never
  refused (Range number several group item place) is (inr x) leaves said out =
      inr (taken_refused (Range number several group item place) x.text x.object x.taken is x.stopped leaves said out)
  refused (Parted number several group item place) is (inl never) leaves said out = absurd never
  refused (Parted number several group item place) is (inr x) leaves said out =
      inr (taken_refused (Parted number several group item place) x.text x.object x.taken is x.stopped leaves said out)
  refused (Turns number several) is (inl never) leaves said out = absurd never
  refused (Turns number several) is (inr x) leaves said out =
      inr (taken_refused (Turns number several) x.text x.object x.taken is x.stopped leaves said out)
  refused Memory is cause leaves said out = inl (untaken Memory is tt leaves said out)
  refused (Source condition place) is (inl never) leaves said out = absurd never
  refused (Source condition place) is (inr never) leaves said out = absurd never

  ends_of : EndsExec old new ask n → EndsUntaken old new ask n ⊎ EndsTaken old new ask n
  ends_of (inl d) =
      inr (taken_done d.done.text d.done.object d.summary d.done.taken d.done.run (λ text units run. inl (record {
        summary = d.summary;
        status_is = d.status_is;
        run = run;
        said = d.said;
        err_stays = d.err_stays;
      })))
  ends_of (inr (inl u)) =
      inr (taken_done u.done.text u.done.object u.summary u.done.taken u.done.run (λ text units run. inr (inl (record {
        summary = u.summary;
        status_is = u.status_is;
        run = run;
        failed = u.failed;
        part = u.part;
        said = u.said;
      }))))
  ends_of (inr (inr r)) = refused r.error r.status_is r.cause r.leaves r.said r.out_stays

-- ---- where the files are told

module _ (fs : FileMap) (old new : Outside) (ask : ObjectFiles) (n : ℕ) (same : old.store.files ≡ Some fs) where
  module _ (read : Text) (o : PlainObject) (taken : ExecTaken (Some fs) ask read o) (text : Text)
      (units : List Unit') where
    -- a refusal before there is an object is a fault or want of memory
    untaken_units : (e : RunError) → n ≡ status_of e → TakingCause old.store new.store ask e →
        new.store.files ≡ old.store.files → Says old.err new.err (error_line ask.object e) → new.out ≡ old.out →
        EndsUnits old new ask.object text units n
    untaken_units Failed is cause stays said out =
        inr (inr (record {
          error = Failed;
          status_is = is;
          cause = cause;
          leaves = inl stays;
          said = said;
          out_stays = out;
        }))
    untaken_units Memory is cause stays said out =
        inr (inr (record {
          error = Memory;
          status_is = is;
          cause = tt;
          leaves = stays;
          said = said;
          out_stays = out;
        }))
    untaken_units Absent is cause stays said out =
        absurd (early fs ask Absent read o (subst (λ (f : Option FileMap). TakingFinds f ask Absent) same cause.1)
        taken)
    untaken_units NotObject is cause stays said out =
        absurd (early fs ask NotObject read o (subst (λ (f : Option FileMap). TakingFinds f ask NotObject) same cause)
        taken)
    untaken_units (Launch first) is cause stays said out =
        absurd (early fs ask (Launch first) read o (subst (λ (f : Option FileMap). TakingFinds f ask (Launch first))
        same cause) taken)
    untaken_units _ is cause stays said out = absurd cause

    told_units : EndsUntaken old new ask n ⊎ EndsTaken old new ask n → IsOfSource o read text units →
        EndsUnits old new ask.object text units n
    told_units (inl u) s = untaken_units u.error u.status_is u.cause u.stays u.said u.out_stays
    told_units (inr t) s =
        let one = taken_twice fs ask t.read read t.object o
        (subst (λ (f : Option FileMap). ExecTaken f ask t.read t.object) same t.taken) taken in
        t.ends text units (subst (λ (p : PlainObject). IsOfSource p t.read text units) (sym one.1)
        (subst (λ (r : Text). IsOfSource o r text units) (sym one.0) s))

  -- what the files find of units
  module _ (text : Text) (units : List Unit') where
    abbrev FoundUnits : Type 0
    FoundUnits = Found fs text (bind_refusal text units) (programs_in text units)

    abbrev status_found : FoundUnits → ℕ
    status_found x = status_at fs text (bind_refusal text units) (programs_in text units) x

    found_stopped : (e : RunError) → IsStopped (Some fs) text units e → FoundUnits
    found_stopped e x = stopped e x.before x.accepted x.loaded x.ends

    found : (e : RunError) → UnitsFind (Some fs) text units e → (x : FoundUnits) × (status_found x ≡ status_of e)
    unfolding status_at found_stopped
    found Absent finds = (no_buffer finds.0 finds.1, refl)
    found (Launch first) finds = (unbound first finds, refl)
    found (Range number several group item place) finds =
        (found_stopped (Range number several group item place) finds, refl)
    found (Parted number several group item place) finds =
        (found_stopped (Parted number several group item place) finds, refl)
    found (Turns number several) finds = (found_stopped (Turns number several) finds, refl)
    found _ finds = absurd finds

    found_done : (after : Option FileMap) (summary : Summary) → IsRun (Some fs) after text units summary →
        (x : FoundUnits) × (status_found x ≡ 0)
    unfolding status_at
    found_done after summary r = (
      fits r.run.before r.after r.accepted r.run.loaded (launches_ran (programs_in text units) (models_in units)
          (launches_in text) r.run.before r.after r.run.ran),
      refl,
    )

    one_status : (e d : RunError) → UnitsFind (Some fs) text units e → UnitsFind (Some fs) text units d →
        status_of e ≡ status_of d
    one_status e d a b =
        let x = found e a in
        let y = found d b in
        sym x.1 ∙ (found_agree fs text (bind_refusal text units) (programs_in text units) x.0 y.0 ∙ y.1)

    not_done : (after : Option FileMap) (summary : Summary) (e : RunError) →
        IsRun (Some fs) after text units summary → UnitsFind (Some fs) text units e → ⊥
    not_done after summary e r finds =
        let x = found_done after summary r in
        let y = found e finds in
        let zero : 0 ≡ status_of e = sym x.1 ∙
        (found_agree fs text (bind_refusal text units) (programs_in text units) x.0 y.0 ∙ y.1) in
        (status_above e (status_of e) refl).0 (sym zero)

    -- a cause that no fault is is found
    module _ (e : RunError) (finds : UnitsFind (Some fs) text units e) (quiet : Rose old.store.faults
        new.store.faults → ⊥) where
      at : (d : RunError) → StopsIn old.store.files text units d → IsStopped (Some fs) text units d
      at d x = subst (λ (f : Option FileMap). IsStopped f text units d) same x.stopped

      refused_exact : (d : RunError) → n ≡ status_of d → BackCause old.store new.store text units d →
          (n ≡ status_of e) ⊎ (n ≡ 8)
      refused_exact Failed is cause = absurd (quiet cause)
      refused_exact Absent is cause =
          inl (is ∙ one_status Absent e (subst (λ (f : Option FileMap). UnitsFind f text units Absent) same
          (cause.1, cause.2)) finds)
      refused_exact (Launch first) is cause = inl (is ∙ one_status (Launch first) e cause finds)
      refused_exact (Range number several group item place) is cause =
          inl (is ∙ one_status (Range number several group item place) e
          (at (Range number several group item place) cause) finds)
      refused_exact (Parted number several group item place) is cause =
          inl (is ∙ one_status (Parted number several group item place) e
          (at (Parted number several group item place) cause) finds)
      refused_exact (Turns number several) is cause =
          inl (is ∙ one_status (Turns number several) e (at (Turns number several) cause) finds)
      refused_exact Memory is cause = inr is
      refused_exact NotObject is cause = absurd cause
      refused_exact (Source condition place) is cause = absurd cause

      units_exact : EndsUnits old new ask.object text units n → (n ≡ status_of e) ⊎ (n ≡ 8)
      units_exact (inl d) =
          absurd (not_done new.store.files d.summary e (subst (λ (f : Option FileMap). IsRun f new.store.files text
          units d.summary) same d.run) finds)
      units_exact (inr (inl u)) =
          absurd (not_done new.store.files u.summary e (subst (λ (f : Option FileMap). IsRun f new.store.files text
          units u.summary) same u.run) finds)
      units_exact (inr (inr r)) = refused_exact r.error r.status_is r.cause

-- ---- launches that are accepted

module _ (old new : Outside) (file : List ℕ) (text : Text) (units : List Unit') (n : ℕ)
    (buffers_told : (name : List ℕ) → Contains (loads_of text.buffers) (Some name) → (bytes : List ℕ) ×
    (told_file old.store.files name ≡ Some (Some bytes))) (accepted : bind_refusal text units ≡ None)
    (never : (e : RunError) → StopsIn old.store.files text units e → ⊥)
    (quiet : Rose old.store.faults new.store.faults → ⊥) where
  is_memory : (e : RunError) → n ≡ status_of e → BackCause old.store new.store text units e → n ≡ 8
  is_memory Failed is cause = absurd (quiet cause)
  is_memory Absent is cause =
      let lacks = cause.2 in
      let told = buffers_told lacks.name lacks.is_load in
      absurd (not_lacked old.store.files lacks.name told.0 told.1 lacks.lacks)
  is_memory (Launch first) is cause =
      let e : Some first ≡ None = sym cause ∙ accepted in absurd (let never : ⊥ = cc e in never)
  is_memory (Range number several group item place) is cause =
      absurd (never (Range number several group item place) cause)
  is_memory (Parted number several group item place) is cause =
      absurd (never (Parted number several group item place) cause)
  is_memory (Turns number several) is cause = absurd (never (Turns number several) cause)
  is_memory Memory is cause = is
  is_memory NotObject is cause = absurd cause
  is_memory (Source condition place) is cause = absurd cause

  units_complete : (Rose old.out.faults new.out.faults → ⊥) → EndsUnits old new file text units n →
      (n ≡ 0) ⊎ (n ≡ 8)
  units_complete out_quiet (inl d) = inl d.status_is
  units_complete out_quiet (inr (inl u)) = absurd (out_quiet u.failed)
  units_complete out_quiet (inr (inr r)) = inr (is_memory r.error r.status_is r.cause)

-- a refusal that is no fault changes no file
leaves_all : (old new : Standing) (text : Text) (units : List Unit') (e : RunError) → (e ≡ Failed → ⊥) →
    LeavesOthers old new text units e → new.files ≡ old.files
leaves_all old new text units Failed other leaves = absurd (other refl)
leaves_all old new text units Absent other leaves = leaves
leaves_all old new text units (Launch first) other leaves = leaves
leaves_all old new text units (Range number several group item place) other leaves = leaves
leaves_all old new text units (Parted number several group item place) other leaves = leaves
leaves_all old new text units (Turns number several) other leaves = leaves
leaves_all old new text units Memory other leaves = leaves
leaves_all old new text units NotObject other leaves = leaves
leaves_all old new text units (Source condition place) other leaves = leaves

not_failed : (e : RunError) (n : ℕ) → n ≡ status_of e → n ≡ 8 → e ≡ Failed → ⊥
not_failed e n is eight same = let one : 8 ≡ 1 = sym eight ∙ (is ∙ ap status_of same) in omega (arith, one)

-- ---- loops

refused_loops : (old new : Standing) (text : Text) (units : List Unit') (e : RunError) (n : ℕ) → n ≡ status_of e →
    BackCause old new text units e → n ≡ 7 → HaveNoLoop (models_in units) → ⊥
refused_loops old new text units Failed n is cause seven free = omega arith
refused_loops old new text units Absent n is cause seven free = omega arith
refused_loops old new text units (Launch first) n is cause seven free = omega arith
refused_loops old new text units (Range number several group item place) n is cause seven free = omega arith
refused_loops old new text units (Parted number several group item place) n is cause seven free = omega arith
refused_loops old new text units (Turns number several) n is cause seven free =
    stopped_loops old.files text units number several cause free
refused_loops old new text units Memory n is cause seven free = omega arith
refused_loops old new text units NotObject n is cause seven free = omega arith
refused_loops old new text units (Source condition place) n is cause seven free = omega arith

pub units_loops : (old new : Outside) (file : List ℕ) (text : Text) (units : List Unit') (n : ℕ) →
    EndsUnits old new file text units n → n ≡ 7 → HaveNoLoop (models_in units) → ⊥
units_loops old new file text units n (inl d) seven free = omega (arith, d.status_is, seven)
units_loops old new file text units n (inr (inl u)) seven free = omega (arith, u.status_is, seven)
units_loops old new file text units n (inr (inr r)) seven free =
    refused_loops old.store new.store text units r.error n r.status_is r.cause seven free

not_seven : (old new : Standing) (ask : ObjectFiles) (e : RunError) (n : ℕ) → n ≡ status_of e →
    TakingCause old new ask e → n ≡ 7 → ⊥
not_seven old new ask Failed n is cause seven = omega arith
not_seven old new ask Absent n is cause seven = omega arith
not_seven old new ask NotObject n is cause seven = omega arith
not_seven old new ask (Launch first) n is cause seven = omega arith
not_seven old new ask Memory n is cause seven = omega arith
not_seven old new ask _ n is cause seven = cause

object_loops : (old new : Outside) (ask : ObjectFiles) (n : ℕ) → EndsUntaken old new ask n ⊎ EndsTaken old new ask n →
    n ≡ 7 → ObjectHasLoops old.store.files ask
object_loops old new ask n (inl u) seven =
    absurd (not_seven old.store new.store ask u.error n u.status_is u.cause seven)
object_loops old new ask n (inr t) seven = record {
  read = t.read;
  object = t.object;
  taken = t.taken;
  loops = λ text units s. units_loops old new ask.object text units n (t.ends text units s) seven;
}

-- ---- together

module _ (old new : Outside) (ask : ObjectFiles) (n : ℕ) (ends : EndsUntaken old new ask n ⊎ EndsTaken old new ask n)
  where
    read_units : (files : Option FileMap) (text : Text) (units : List Unit') → old.store.files ≡ files →
        IsReadableOfSource files ask text units → EndsUnits old new ask.object text units n
    read_units None text units same r = absurd (let told = r.told in let never : ⊥ = cc told in never)
    read_units (Some fs) text units same r =
        told_units fs old new ask n same r.read r.object r.taken text units ends r.source

    read_exact : (files : Option FileMap) (text : Text) (units : List Unit') (e : RunError) → old.store.files ≡ files →
        IsReadableOfSource files ask text units → UnitsFind files text units e →
        (Rose old.store.faults new.store.faults → ⊥) → (n ≡ status_of e) ⊎ (n ≡ 8)
    read_exact None text units e same r finds quiet = absurd (let told = r.told in let never : ⊥ = cc told in never)
    read_exact (Some fs) text units e same r finds quiet =
        units_exact fs old new ask n same text units e finds quiet (read_units (Some fs) text units same r)

    accepted_complete : (text : Text) (units : List Unit') → AcceptedOfSource old.store.files ask text units ⊎
        CleanOfSource old.store.files ask text units → (Rose old.store.faults new.store.faults → ⊥) →
        (Rose old.out.faults new.out.faults → ⊥) → (n ≡ 0) ⊎ (n ≡ 8)
    accepted_complete text units (inl a) quiet out_quiet =
        units_complete old new ask.object text units n a.taken.buffers_told a.taken.accepted
        (λ e. ran_not_stopped old.store.files text units e a.done) quiet out_quiet
        (read_units old.store.files text units refl a.taken.readable)
    accepted_complete text units (inr c) quiet out_quiet =
        units_complete old new ask.object text units n c.taken.buffers_told c.taken.accepted
        (λ e. clean_not_stopped old.store.files text units e c.clean) quiet out_quiet
        (read_units old.store.files text units refl c.taken.readable)

    units_clean : (text : Text) (units : List Unit') → CleanOfSource old.store.files ask text units →
        (Rose old.store.faults new.store.faults → ⊥) → (Rose old.out.faults new.out.faults → ⊥) →
        EndsUnits old new ask.object text units n → EndsClean old.store.files new.store.files text units n
    units_clean text units c quiet out_quiet (inl d) =
        inl (d.status_is, run_leaves old.store.files new.store.files text units d.summary c.clean d.run)
    units_clean text units c quiet out_quiet (inr (inl u)) = absurd (out_quiet u.failed)
    units_clean text units c quiet out_quiet (inr (inr r)) =
        let eight : n ≡ 8 =
        is_memory old new ask.object text units n c.taken.buffers_told c.taken.accepted
        (λ e. clean_not_stopped old.store.files text units e c.clean) quiet r.error r.status_is r.cause in
        inr (
          eight,
          leaves_all old.store new.store text units r.error (not_failed r.error n r.status_is eight) r.leaves,
        )

    of_this : IsExecOfSource old new ask n
    of_this = record {
      ends = ends;
      ends_told = λ text units r. read_units old.store.files text units refl r;
      looped = object_loops old new ask n ends;
      exact = λ text units e r finds quiet. read_exact old.store.files text units e refl r finds quiet;
      complete = accepted_complete;
      clean = λ text units c quiet out_quiet. units_clean text units c quiet out_quiet
          (read_units old.store.files text units refl c.taken.readable);
    }

pub exec_of_source : (old new : Outside) (ask : ObjectFiles) (n : ℕ) → EndsExec old new ask n →
    IsExecOfSource old new ask n
exec_of_source old new ask n ends = of_this old new ask n (ends_of old new ask n ends)
