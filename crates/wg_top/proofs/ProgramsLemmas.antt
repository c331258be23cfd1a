-- Launches over plain programs, and over the programs of compiled kernels.
use Rattle.std.proofs.Common.{◌≡◌, ℕ, zero, suc, List, [], ◌∷◌, length, map, Option, None, refl, sym, ◌∙◌, ap}
use Rattle.std.proofs.Common.{ap₂}
use Rattle.std.proofs.Common.{subst, arith, inl, inr}
use Rattle.std.specs.Prelude.{All, sum}
use Rattle.wg_outside.specs.Files.{FileMap}
use Rattle.buffer_io.specs.Loads.{AllStartAs}
use Rattle.buffer_io.specs.Saves.{AllSavedAs, KeepsAllBut, StopsAt}
use Rattle.cl_model.specs.Sizes.{Launch}
use Rattle.cl_model.specs.View.{launch_of}
use Rattle.cl_meaning.specs.Typed.{Unit'}
use Rattle.cl_meaning.specs.View.{unit_of}
use Rattle.group_run.specs.declared.launcher.Launcher.{Launcher}
use Rattle.lane_code.specs.Fits.{LaunchFits}
use Rattle.lane_code.specs.Program.{Plain}
use Rattle.lane_code.specs.View.{plain_of}
use Rattle.launch_file.specs.Binding.{lengths_of, loads_of, saves_of}
use Rattle.launch_file.specs.Texts.{Text}
use Rattle.wg_compile.specs.declared.Compiled.{Compiled}
use Rattle.wg_compile.specs.Correct.{IsCompilation}
use Rattle.wg_top.specs.declared.RunError.{RunError}
use Rattle.wg_top.specs.declared.RunError.TheVariants.{Failed, Absent, Source, Launch as Refused, Range, Parted, Turns}
use Rattle.wg_top.specs.declared.RunError.TheVariants.{NotObject}
use Rattle.wg_top.specs.declared.RunError.TheVariants.{Memory}
use Rattle.wg_top.specs.declared.Summary.{Summary}
use Rattle.wg_top.specs.declared.runnable.Runnable.{Runnable}
use Rattle.wg_top.specs.Causes.{Standing, BuffersLoaded}
use Rattle.wg_top.specs.CompiledCauses.{HasRun, IsRun}
use Rattle.wg_top.specs.Launches.{launches_in, all_groups, all_items}
use Rattle.wg_top.specs.CompiledLaunches.{LaunchesRan, EndsSo, programs_in}
use Rattle.wg_top.specs.CompiledOutcomes.{AreMade, HaveGroupPrograms}
use Rattle.wg_top.specs.Programs.{HasKinds, Runs, runs_of, programs_of, runs_refusal, HaveRoom, HaveRun, AreStopped}
use Rattle.wg_top.specs.Programs.{AreRun, AreSaveStopped, RunsCause, RunsLeave}
use Rattle.wg_top.specs.Stages.{BackCause, LeavesOthers}
use Rattle.wg_top.specs.Units.{needs_in, bind_refusal}
use Rattle.wg_top.proofs.MeaningLemmas.{AreLike}
use Rattle.wg_top.proofs.MiddleLemmas.{params_in}
use Rattle.wg_top.proofs.OutcomeLemmas.{AreRunsFor, kernel_runs, are_made, have_programs, are_like, same_refusal}
use Rattle.wg_top.proofs.OutcomeLemmas.{ran_outcome, stop_outcome}
use Rattle.wg_top.proofs.RunLemmas.{is_stopped, has_run, save_stopped, started_lengths}

-- ---- plain programs

-- what was made ready has room
pub prepared : (all : List Launcher) →
    All (λ q. LaunchFits (plain_of q.program).params (sum (plain_of q.program).locals) (launch_of q.launch)) all →
    HaveRoom (map (λ q. plain_of q.program) all) (map (λ q. launch_of q.launch) all)
prepared [] fit = tt
prepared (q ∷ all) fit = (fit 0 q (omega arith), prepared all (λ k d lt. fit (suc k) d (omega arith)))

-- the launches ran
pub have_run : (files : Option FileMap) (text : Text) (rs : List Runs) (before after : List (List ℕ))
    (programs : List Plain) (launches : List Launch) → runs_refusal text rs ≡ None →
    HaveRoom (programs_of rs) (launches_in text) → BuffersLoaded files text before → programs ≡ programs_of rs →
    launches ≡ launches_in text → LaunchesRan programs launches before after → HaveRun files text rs before after
have_run files text rs before after programs launches accepted room loaded same are ran = record {
  accepted = accepted;
  room = room;
  loaded = loaded;
  ran = subst (λ (ls : List Launch). LaunchesRan (programs_of rs) ls before after) are
      (subst (λ (ps : List Plain). LaunchesRan ps launches before after) same ran);
}

-- a launch is not done
module _ (files : Option FileMap) (text : Text) (rs : List Runs) (before : List (List ℕ)) (programs : List Plain)
    (launches : List Launch) (accepted : runs_refusal text rs ≡ None)
    (room : HaveRoom (programs_of rs) (launches_in text)) (loaded : BuffersLoaded files text before)
    (same : programs ≡ programs_of rs) (are : launches ≡ launches_in text) where
  stopped : (e : RunError) → EndsSo text.several programs launches before e → AreStopped files text rs e
  stopped e ends = record {
    accepted = accepted;
    room = room;
    before = before;
    loaded = loaded;
    ends = subst (λ (ls : List Launch). EndsSo text.several (programs_of rs) ls before e) are
        (subst (λ (ps : List Plain). EndsSo text.several ps launches before e) same ends);
  }

pub runs_stopped : (old new : Standing) (text : Text) (rs : List Runs) (before : List (List ℕ)) (programs : List Plain)
    (launches : List Launch) (e : RunError) → runs_refusal text rs ≡ None →
    HaveRoom (programs_of rs) (launches_in text) → BuffersLoaded old.files text before → programs ≡ programs_of rs →
    launches ≡ launches_in text → EndsSo text.several programs launches before e → RunsCause old new text rs e
runs_stopped old new text rs before programs launches (Range number several group item place) accepted room loaded
    same are ends =
    stopped old.files text rs before programs launches accepted room loaded same are
    (Range number several group item place) ends
runs_stopped old new text rs before programs launches (Parted number several group item place) accepted room loaded
    same are ends =
    stopped old.files text rs before programs launches accepted room loaded same are
    (Parted number several group item place) ends
runs_stopped old new text rs before programs launches (Turns number several) accepted room loaded same are ends =
    stopped old.files text rs before programs launches accepted room loaded same are (Turns number several) ends
runs_stopped old new text rs before programs launches _ accepted room loaded same are ends = absurd ends

-- it leaves all files
pub runs_leave : (old new : Standing) (text : Text) (rs : List Runs) (several : _) (before : List (List ℕ))
    (programs : List Plain) (launches : List Launch) (e : RunError) → new.files ≡ old.files →
    EndsSo several programs launches before e → RunsLeave old new text rs e
runs_leave old new text rs several before programs launches (Range number s group item place) same ends = same
runs_leave old new text rs several before programs launches (Parted number s group item place) same ends = same
runs_leave old new text rs several before programs launches (Turns number s) same ends = same
runs_leave old new text rs several before programs launches _ same ends = absurd ends

-- a save failed
pub saves_stopped : (old mid new : Option FileMap) (text : Text) (rs : List Runs) (saves : List (Option (List ℕ)))
    (before after : List (List ℕ)) → mid ≡ old → saves ≡ saves_of text.buffers → HaveRun old text rs before after →
    StopsAt mid new saves after → KeepsAllBut mid new saves → AreSaveStopped old new text rs
saves_stopped old mid new text rs saves before after stays same run stops others = record {
  before = before;
  after = after;
  run = run;
  stops = subst (λ (f : Option FileMap). StopsAt f new (saves_of text.buffers) after) stays
      (subst (λ (ls : List (Option (List ℕ))). StopsAt mid new ls after) same stops);
  others = subst (λ (f : Option FileMap). KeepsAllBut f new (saves_of text.buffers)) stays
      (subst (λ (ls : List (Option (List ℕ))). KeepsAllBut mid new ls) same others);
}

-- all was saved
pub are_run : (old mid new : Option FileMap) (text : Text) (rs : List Runs) (saves : List (Option (List ℕ)))
    (before after : List (List ℕ)) (summary : Summary) (launches : List Launch) → mid ≡ old →
    saves ≡ saves_of text.buffers → HaveRun old text rs before after → AllSavedAs mid new saves after →
    KeepsAllBut mid new saves → launches ≡ launches_in text → summary.groups ≡ all_groups launches →
    summary.items ≡ all_items launches → AreRun old new text rs summary
are_run old mid new text rs saves before after summary launches stays same run saved others are groups items = record {
  before = before;
  after = after;
  run = run;
  saved = subst (λ (f : Option FileMap). AllSavedAs f new (saves_of text.buffers) after) stays
      (subst (λ (ls : List (Option (List ℕ))). AllSavedAs mid new ls after) same saved);
  others = subst (λ (f : Option FileMap). KeepsAllBut f new (saves_of text.buffers)) stays
      (subst (λ (ls : List (Option (List ℕ))). KeepsAllBut mid new ls) same others);
  groups = groups ∙ ap all_groups are;
  items = items ∙ ap all_items are;
}

-- ---- compiled kernels

first_same : {A : Type 0} {x y : A} {xs ys : List A} → x ∷ xs ≡ y ∷ ys → x ≡ y
first_same e = cc e

rest_same : {A : Type 0} {x y : A} {xs ys : List A} → x ∷ xs ≡ y ∷ ys → xs ≡ ys
rest_same e = cc e

-- the runnables of compiled kernels
pub runs_are : (cs : List Compiled) (rs : List Runnable) → map (λ r. r.program.now) rs ≡ map (λ c. c.program) cs →
    map (λ r. r.group.now) rs ≡ map (λ c. c.group) cs → map runs_of rs ≡ map kernel_runs cs
runs_are [] [] programs groups = refl
runs_are (c ∷ cs) (r ∷ rs) programs groups =
    ap₂ (λ x xs. x ∷ xs)
    (ap₂ (λ p g. record { needs = needs_in (unit_of p); program = plain_of g }) (first_same programs)
    (first_same groups)) (runs_are cs rs (rest_same programs) (rest_same groups))
runs_are [] (r ∷ rs) programs groups = absurd (let never : ⊥ = cc programs in never)
runs_are (c ∷ cs) [] programs groups = absurd (let never : ⊥ = cc programs in never)

-- they have the parameters that their launches are bound to
pub kinds_are : (width : ℕ) (cs : List Compiled) (rs : List Runnable) →
    map (λ r. r.program.now) rs ≡ map (λ c. c.program) cs → map (λ r. r.group.now) rs ≡ map (λ c. c.group) cs →
    All (IsCompilation width) cs → All HasKinds rs
kinds_are width [] [] programs groups passes k d lt = absurd (omega arith)
kinds_are width (c ∷ cs) (r ∷ rs) programs groups passes zero d lt =
    ap (λ p. (needs_in (unit_of p)).kinds) (first_same programs) ∙ (params_in width c (passes 0 c (omega arith)) ∙
    sym (ap (λ g. (plain_of g).params) (first_same groups)))
kinds_are width (c ∷ cs) (r ∷ rs) programs groups passes (suc k) d lt =
    kinds_are width cs rs (rest_same programs) (rest_same groups) (λ n e less. passes (suc n) e (omega arith)) k d
    (omega arith)
kinds_are width [] (r ∷ rs) programs groups passes k d lt = absurd (let never : ⊥ = cc programs in never)
kinds_are width (c ∷ cs) [] programs groups passes k d lt = absurd (omega arith)

-- ---- programs that are run for units

-- buffers that were loaded have their lengths
loaded_sizes : (files : Option FileMap) (text : Text) (before : List (List ℕ)) → BuffersLoaded files text before →
    map (λ (b : List ℕ). length b) before ≡ lengths_of text.buffers
loaded_sizes files text before loaded =
    started_lengths (λ (b : List ℕ). b) files (lengths_of text.buffers) (loads_of text.buffers) before
    (subst (λ (bs : List (List ℕ)). AllStartAs files (lengths_of text.buffers) (loads_of text.buffers) bs)
    (sym (map_same before)) loaded)
  where
    map_same : (bs : List (List ℕ)) → map (λ (b : List ℕ). b) bs ≡ bs
    map_same [] = refl
    map_same (b ∷ bs) = ap (λ xs. b ∷ xs) (map_same bs)

module _ (old new : Standing) (text : Text) (units : List Unit') (rs : List Runs)
    (all : AreRunsFor text.lanes text.list units rs) where
  refused : runs_refusal text rs ≡ bind_refusal text units
  refused = same_refusal text.lanes text.buffers text.list units rs all

  like : AreLike (programs_in text units) (programs_of rs)
  like = are_like text.lanes text.list units rs all

  made : AreMade units
  made = are_made text.lanes text.list units rs all

  compiled : HaveGroupPrograms text.lanes text.list units
  compiled = have_programs text.lanes text.list units rs all

  pub ran_for : (before after : List (List ℕ)) → HaveRun old.files text rs before after →
      HasRun old.files text units after
  ran_for before after run =
      has_run old.files text units before after (programs_of rs) (launches_in text) run.loaded like refl run.ran made
      compiled (ran_outcome text units rs all run.room before (loaded_sizes old.files text before run.loaded) after)

  stopped_for : (e : RunError) → AreStopped old.files text rs e → BackCause old new text units e
  stopped_for e s =
      is_stopped old new text units s.before (programs_of rs) (launches_in text) e (sym refused ∙ s.accepted) s.loaded
      like refl s.ends made compiled (stop_outcome text units rs all s.room s.before (loaded_sizes old.files text
      s.before s.loaded))

  pub back_for : (e : RunError) → RunsCause old new text rs e → BackCause old new text units e
  back_for Failed h = h
  back_for Absent h = (h.0, sym refused ∙ h.1, h.2)
  back_for (Refused refusal) h = sym refused ∙ h
  back_for (Range number several group item place) h = stopped_for (Range number several group item place) h
  back_for (Parted number several group item place) h = stopped_for (Parted number several group item place) h
  back_for (Turns number several) h = stopped_for (Turns number several) h
  back_for Memory h = tt
  back_for NotObject h = absurd h
  back_for (Source condition place) h = absurd h

  pub left_for : (e : RunError) → RunsLeave old new text rs e → LeavesOthers old new text units e
  left_for Failed (inl same) = inl same
  left_for Failed (inr s) =
      inr (save_stopped old.files old.files new.files text units (saves_of text.buffers) s.after
      (sym refused ∙ s.run.accepted) refl refl (ran_for s.before s.after s.run) s.stops s.others)
  left_for Absent h = h
  left_for (Refused refusal) h = h
  left_for (Range number several group item place) h = h
  left_for (Parted number several group item place) h = h
  left_for (Turns number several) h = h
  left_for Memory h = h
  left_for NotObject h = h
  left_for (Source condition place) h = h

  pub run_for : (summary : Summary) → AreRun old.files new.files text rs summary →
      IsRun old.files new.files text units summary
  run_for summary r = record {
    accepted = sym refused ∙ r.run.accepted;
    after = r.after;
    run = ran_for r.before r.after r.run;
    saved = r.saved;
    others = r.others;
    groups = r.groups;
    items = r.items;
  }
