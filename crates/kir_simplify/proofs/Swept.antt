-- A kernel without the values that no line reads does what the given one does.
use Rattle.std.proofs.Common.{◌≡◌, ℕ, zero, suc, ℤ, List, [], ◌∷◌, Option, Some, None}
use Rattle.std.proofs.Common.{slice_get, refl, sym, ap, ap₂, ◌∙◌, subst, arith, true, false, if◌then◌else◌}
use Rattle.std.proofs.Common.{Bool as Test}
use Rattle.std.specs.Prelude.{◌&&◌, ◌||◌, not}
use Rattle.std.proofs.lemmas.Bool.{true≢false}
use Rattle.std.proofs.lemmas.Option.{none-some, same_Some}
use Rattle.work_items.specs.Items.{Next, Ends, Waits, Goes, Begins, Loads, Stores, Move, IsWaiting}
use Rattle.work_items.specs.Runs.{IsRun}
use Rattle.work_items.specs.Simulation.{GoesIn, SameLabel, both_end, both_wait, both_go, both_begin, both_load}
use Rattle.work_items.specs.Simulation.{both_store, MatchesAt, Simulates, RelatedAt, AreRelated}
use Rattle.work_items.specs.Histories.{Deed, deeds_of}
use Rattle.work_items.specs.Coming.{MayLead, arrived, by_step, by_test}
use Rattle.work_items.proofs.Lift.{every_step}
use Rattle.work_items.proofs.HistoryLemmas.{history_matched, history_then}
use Rattle.work_items.specs.Histories.{History, nothing, going}
use Rattle.std.proofs.Common.{append-nil}
use Rattle.cl_model.specs.Sizes.{Launch, item_count, group_of}
use Rattle.cl_model.specs.Fitting.{FitsProgram}
use Rattle.cl_model.specs.Meaning.{lengths_of, MayBeTold}
use Rattle.cl_model.specs.Values.{is_zero}
use Rattle.kir.specs.Tree.{Lines, NoLine, SetThen, LoadThen, StoreThen, ClearThen, IfThen, LoopThen, BarrierThen}
use Rattle.kir.specs.Tree.{CellKind, OfVariable, OfFlag, OfValue, Cell, Kernel}
use Rattle.kir.specs.Places.{ToAnswer, Place, Point, Tasks, NoTask, LinesAt, AnswerAt}
use Rattle.kir.specs.Places.{begun_in, point_of, lines_at}
use Rattle.kir.specs.Steps.{shell_of, Item, with_tasks, branched, answered, item_next}
use Rattle.kir.specs.Fits.{is_kernel}
use Rattle.kir.specs.Meaning.{machine_of, start_item, start_items, start_world, AnswersTo, GoesOn, ItemCanCome}
use Rattle.kir.specs.Meaning.{ItemHistory}
use Rattle.kir.specs.Live.{tasks_read, tasks_set, live_at}
use Rattle.kir.specs.Cuts.{is_barrier, is_choice, is_line, ends_part, is_cut, is_behind_round, is_stop}
use Rattle.kir.specs.Homes.{IsOf}
use Rattle.kir.specs.Uniformity.{IsEven}
use Rattle.kir.proofs.Aligned.{AlikeRun, alike_run}
use Rattle.kir_simplify.specs.Reading.{reads_in}
use Rattle.kir_simplify.specs.Simple.{is_value_kind, is_value_of, is_unread}
use Rattle.kir_simplify.specs.Faithful.{IsVariableCell, point_at, StandsFor, StandAlike, RunAlike, IsFaithful}
use Rattle.kir_simplify.specs.Passes.{swept, swept_of}
use Rattle.kir_simplify.proofs.Folded.{next_alike, may_lead, steps_on, done_by}
use Rattle.kir_simplify.proofs.SweptItems.{Spot, with_both, placed, swept_tasks, AreFine, Agree, Beside, IsKept}
use Rattle.kir_simplify.proofs.SweptItems.{IsReady, kept_skip, front, AreFronts, RestFronts, Fronted, Skipped, skipped}
use Rattle.kir_simplify.proofs.SweptItems.{agree_left, left_out, rest_fronts}
use Rattle.kir_simplify.proofs.SweptItems.{branch_beside, answered_beside, labels, start_beside, back, or_first}
use Rattle.kir_simplify.proofs.SweptItems.{or_second}
use Rattle.kir_simplify.proofs.SweptText.{placed_loops, back_placed, barrier_there, choice_there, line_there}
use Rattle.kir_simplify.proofs.SweptText.{ends_there, behind_there, same_loads, same_stores, same_counts, keeps_fewer}
use Rattle.kir_simplify.proofs.SweptLive.{live_there, live_front}

module _ (kernel : Kernel) where
  abbrev simple : Kernel
  simple = swept_of kernel

  abbrev S : Lines → Lines
  S lines = swept (is_unread kernel) lines

  abbrev place : Place → Place
  place p = (placed kernel p).at

  -- a variable's cell is not left out
  variable_kept : (c : ℕ) → IsVariableCell kernel c → is_unread kernel c ≡ false
  variable_kept c (v, is) =
      ap (λ (o : Option Cell). is_value_of o && not (reads_in c kernel.body)) is.there ∙
      ap (λ (b : Test). b && not (reads_in c kernel.body)) (by_kind is.cell.kind is.is_of)
    where
      by_kind : (kind : CellKind) → IsOf v kind → is_value_kind kind ≡ false
      by_kind (OfVariable w path name) e = refl
      by_kind OfFlag e = absurd e
      by_kind OfValue e = absurd e

  -- ---- where the two stand

  begun_same : (k : Tasks) (ps : List Place) → AreFine kernel k ps → begun_in (swept_tasks kernel k ps) ≡ begun_in k
  begun_same NoTask ps f = refl
  begun_same (LinesAt at lines k) [] f = absurd f
  begun_same (LinesAt at lines k) (p ∷ ps) f = begun_same k ps f.1
  begun_same (AnswerAt at test answer body n k) [] f = absurd f
  begun_same (AnswerAt at test answer body n k) (p ∷ ps) f = ap (λ ns. n ∷ ns) (begun_same k ps f.1)

  abbrev moved : (Place → Place) → Option Point → Option Point
  moved f None = None
  moved f (Some point) = Some (point_at f point)

  -- at a line that is kept, the place stands for the place
  point_moved : (k : Tasks) (ps : List Place) → AreFine kernel k ps → IsReady kernel k →
      moved place (point_of (swept_tasks kernel k ps)) ≡ point_of k
  point_moved NoTask ps f r = refl
  point_moved (LinesAt at lines k) [] f r = absurd f
  point_moved (LinesAt at lines k) (p ∷ ps) f r =
      ap₂ (λ (x : Place) (ns : List ℕ). Some (record { at = x; begun = ns }))
      (ap (λ (s : Spot). s.at) (f.0.place ∙ kept_skip kernel at lines r)) (begun_same k ps f.1)
  point_moved (AnswerAt at test answer body n k) [] f r = absurd f
  point_moved (AnswerAt at test answer body n k) (p ∷ ps) f r =
      ap₂ (λ (x : Place) (ns : List ℕ). Some (record { at = ToAnswer ∷ x; begun = n ∷ ns })) f.0.there
      (begun_same k ps f.1)

  -- and before it is gone to, the front of the place
  point_front : (k : Tasks) (ps : List Place) → AreFine kernel k ps → AreFronts kernel k ps →
      moved (front kernel) (point_of (swept_tasks kernel k ps)) ≡ point_of k
  point_front NoTask ps f r = refl
  point_front (LinesAt at lines k) [] f r = absurd f
  point_front (LinesAt at lines k) (p ∷ ps) f r =
      ap₂ (λ (x : Place) (ns : List ℕ). Some (record { at = x; begun = ns })) (sym r.0) (begun_same k ps f.1)
  point_front (AnswerAt at test answer body n k) [] f r = absurd f
  point_front (AnswerAt at test answer body n k) (p ∷ ps) f r =
      ap₂ (λ (x : Place) (ns : List ℕ). Some (record { at = ToAnswer ∷ x; begun = n ∷ ns })) f.0.there
      (begun_same k ps f.1)

  stands_for : (i' i : Item) → (b : Beside kernel i' i) → IsReady kernel i.tasks → StandsFor place i' i
  stands_for i' i b r point is =
      sym (point_moved i.tasks b.places b.fine r) ∙
      ap (moved place) (sym (ap (λ (x : Item). point_of x.tasks) b.same) ∙ is)

  stands_front : (i' i : Item) → (b : Fronted kernel i' i) → StandsFor (front kernel) i' i
  stands_front i' i b point is =
      sym (point_front i.tasks b.beside.places b.beside.fine b.fronts) ∙
      ap (moved (front kernel)) (sym (ap (λ (x : Item). point_of x.tasks) b.beside.same) ∙ is)

  cell_same : (i' i : Item) → Beside kernel i' i → (c : ℕ) → is_unread kernel c ≡ false → i'.cells c ≡ i.cells c
  cell_same i' i b c kept = ap (λ (x : Item). x.cells c) b.same ∙ b.agree c kept

  -- ---- what the first line reads and sets

  kept_set : (to : ℕ) (rest : Lines) → (P : Lines → Test) → (whole : Lines) → is_unread kernel to ≡ false →
      P (if is_unread kernel to then rest else whole) ≡ P whole
  kept_set to rest P whole e = ap (λ (b : Test). P (if b then rest else whole)) e

  reads_same : (c : ℕ) (k : Tasks) (ps : List Place) → AreFine kernel k ps → IsReady kernel k →
      tasks_read c (swept_tasks kernel k ps) ≡ tasks_read c k
  reads_same c NoTask ps f r = refl
  reads_same c (LinesAt at lines k) [] f r = absurd f
  reads_same c (LinesAt at NoLine k) (p ∷ ps) f r = refl
  reads_same c (LinesAt at (SetThen to work rest) k) (p ∷ ps) f r =
      kept_set to (S rest) (λ lines. tasks_read c (LinesAt p lines (swept_tasks kernel k ps)))
      (SetThen to work (S rest)) r
  reads_same c (LinesAt at (LoadThen site to element root index rest) k) (p ∷ ps) f r = refl
  reads_same c (LinesAt at (StoreThen site element root index from rest) k) (p ∷ ps) f r = refl
  reads_same c (LinesAt at (ClearThen array rest) k) (p ∷ ps) f r = refl
  reads_same c (LinesAt at (IfThen site test chosen other rest) k) (p ∷ ps) f r = refl
  reads_same c (LinesAt at (LoopThen site test_first test answer body rest) k) (p ∷ ps) f r = refl
  reads_same c (LinesAt at (BarrierThen site rest) k) (p ∷ ps) f r = refl
  reads_same c (AnswerAt at test answer body n k) [] f r = absurd f
  reads_same c (AnswerAt at test answer body n k) (p ∷ ps) f r = refl

  sets_same : (c : ℕ) (k : Tasks) (ps : List Place) → AreFine kernel k ps → IsReady kernel k →
      tasks_set c (swept_tasks kernel k ps) ≡ tasks_set c k
  sets_same c NoTask ps f r = refl
  sets_same c (LinesAt at lines k) [] f r = absurd f
  sets_same c (LinesAt at NoLine k) (p ∷ ps) f r = refl
  sets_same c (LinesAt at (SetThen to work rest) k) (p ∷ ps) f r =
      kept_set to (S rest) (λ lines. tasks_set c (LinesAt p lines (swept_tasks kernel k ps)))
      (SetThen to work (S rest)) r
  sets_same c (LinesAt at (LoadThen site to element root index rest) k) (p ∷ ps) f r = refl
  sets_same c (LinesAt at (StoreThen site element root index from rest) k) (p ∷ ps) f r = refl
  sets_same c (LinesAt at (ClearThen array rest) k) (p ∷ ps) f r = refl
  sets_same c (LinesAt at (IfThen site test chosen other rest) k) (p ∷ ps) f r = refl
  sets_same c (LinesAt at (LoopThen site test_first test answer body rest) k) (p ∷ ps) f r = refl
  sets_same c (LinesAt at (BarrierThen site rest) k) (p ∷ ps) f r = refl
  sets_same c (AnswerAt at test answer body n k) [] f r = absurd f
  sets_same c (AnswerAt at test answer body n k) (p ∷ ps) f r = refl

  module _ (launch : Launch) where
    -- ---- a simulation

    one_further : (k : ℕ) (i mid to : Item) → GoesIn (item_next kernel launch) k i mid →
        item_next kernel launch mid ≡ Goes to →
        GoesIn (item_next kernel launch) (suc k) i to
    one_further zero i mid to g e = (to, ap (item_next kernel launch) g ∙ e, refl)
    one_further (suc k) i mid to g e = (g.0, g.1, one_further k g.0 mid to g.2 e)

    matched : (i' i : Item) → (s : Skipped kernel launch i' i) → (n m : Next Item) →
        item_next kernel launch s.item ≡ m →
        (IsWaiting n → point_of s.item.tasks ≡ moved place (point_of i'.tasks)) → SameLabel (Fronted kernel) n m
        → (k : ℕ) × (t : Item) × GoesIn (item_next kernel launch) k i t ×
        MatchesAt (machine_of kernel launch) (Fronted kernel) (moved place (point_of i'.tasks)) n t
    matched i' i s _ _ e there (both_go {t = t} r) =
        (suc s.steps, t, one_further s.steps i s.item t s.goes e, r)
    matched i' i s _ _ e there both_end = (
      s.steps,
      s.item,
      s.goes,
      (subst (λ z. SameLabel (Fronted kernel) Ends z) (sym e) both_end, λ w. absurd w),
    )
    matched i' i s _ _ e there (both_wait {site = site} {s = a} r) = (
      s.steps,
      s.item,
      s.goes,
      (subst (λ z. SameLabel (Fronted kernel) (Waits site a) z) (sym e) (both_wait r), there),
    )
    matched i' i s _ _ e there (both_begin {s = a} r) = (
      s.steps,
      s.item,
      s.goes,
      (subst (λ z. SameLabel (Fronted kernel) (Begins a) z) (sym e) (both_begin r), λ w. absurd w),
    )
    matched i' i s _ _ e there (both_load {site = site} {access = access} {f = f} r) = (
      s.steps,
      s.item,
      s.goes,
      (subst (λ z. SameLabel (Fronted kernel) (Loads site access f) z) (sym e) (both_load r), λ w. absurd w),
    )
    matched i' i s _ _ e there (both_store {site = site} {object = object} {index = index} {bytes = bytes} {s = a}
        r) = (
          s.steps,
          s.item,
          s.goes,
          (
            subst (λ z. SameLabel (Fronted kernel) (Stores site object index bytes a) z) (sym e) (both_store r),
            λ w. absurd w,
          ),
        )

    point_there : (i' i : Item) → (s : Skipped kernel launch i' i) →
        point_of s.item.tasks ≡ moved place (point_of i'.tasks)
    point_there i' i s =
        sym (point_moved s.item.tasks s.beside.places s.beside.fine s.ready) ∙
        ap (moved place) (sym (ap (λ (x : Item). point_of x.tasks) s.beside.same))

    same_label : (i' i : Item) → (s : Skipped kernel launch i' i) →
        SameLabel (Fronted kernel) (item_next simple launch i') (item_next kernel launch s.item)
    same_label i' i s = labels kernel launch i' s.item s.beside s.fronts s.ready

    simulates : Simulates (machine_of simple launch) (machine_of kernel launch) (moved place) (Fronted kernel)
    simulates = record {
      same_group = λ item. refl;
      matches = λ i' i b.
          let s = skipped kernel launch i' i b in
          matched i' i s (item_next simple launch i') (item_next kernel launch s.item) refl
          (λ w. point_there i' i s) (same_label i' i s);
    }

    -- ---- where they can come to

    answers_at : (i : Item) (cells' : ℕ → ℤ) (t : Tasks) (v : ℤ) (k : Tasks) (ps : List Place) (to : Item) →
        Agree kernel cells' i.cells → AreFine kernel k ps → RestFronts kernel k ps → AnswersTo v i k to
        → (to' : Item) × AnswersTo v (with_both i cells' t) (swept_tasks kernel k ps) to' × Fronted kernel to' to
    answers_at i cells' t v NoTask ps to agree f fr h = absurd h
    answers_at i cells' t v (LinesAt at lines k) [] to agree f fr h = absurd f
    answers_at i cells' t v (LinesAt at (IfThen site test chosen other rest) k) (p ∷ ps) to agree f fr h = (
      with_tasks (with_both i cells' t) (branched v p (S chosen) (S other) (S rest) (swept_tasks kernel k ps)),
      refl,
      subst (λ x. Fronted kernel (with_tasks (with_both i cells' t)
          (branched v p (S chosen) (S other) (S rest) (swept_tasks kernel k ps))) x) h
          (branch_beside kernel launch i cells' t p at site test chosen other rest k ps agree f.0 f.1 fr (is_zero v)),
    )
    answers_at i cells' t v (LinesAt at NoLine k) (p ∷ ps) to agree f fr h = absurd h
    answers_at i cells' t v (LinesAt at (SetThen c work rest) k) (p ∷ ps) to agree f fr h = absurd h
    answers_at i cells' t v (LinesAt at (LoadThen site c element root index rest) k) (p ∷ ps) to agree f fr h = absurd h
    answers_at i cells' t v (LinesAt at (StoreThen site element root index from rest) k) (p ∷ ps) to agree f fr h =
        absurd h
    answers_at i cells' t v (LinesAt at (ClearThen array rest) k) (p ∷ ps) to agree f fr h = absurd h
    answers_at i cells' t v (LinesAt at (LoopThen site first test answer body rest) k) (p ∷ ps) to agree f fr h =
        absurd h
    answers_at i cells' t v (LinesAt at (BarrierThen site rest) k) (p ∷ ps) to agree f fr h = absurd h
    answers_at i cells' t v (AnswerAt at test answer body n k) [] to agree f fr h = absurd f
    answers_at i cells' t v (AnswerAt at test answer body n k) (p ∷ ps) to agree f fr h = (
      with_tasks (with_both i cells' t) (answered v p (S test) answer (S body) n (swept_tasks kernel k ps)),
      refl,
      subst (λ x. Fronted kernel (with_tasks (with_both i cells' t)
          (answered v p (S test) answer (S body) n (swept_tasks kernel k ps))) x) h
          (answered_beside kernel launch i cells' t p at test answer body n k ps agree f.0 f.1 fr (is_zero v)),
    )

    -- a line that is left out lies ahead: the given item goes past it by itself
    record LeftStep (i' i : Item) : Type 0 where
      after : Item
      step : item_next kernel launch i ≡ Goes after
      beside : Beside kernel i' after
      fronts : RestFronts kernel after.tasks beside.places
      no_test : (v : ℤ) (to : Item) → AnswersTo v i i.tasks to → ⊥

    data Ahead (i' i : Item) : Type 0 where
      ready_here : IsReady kernel i.tasks → Ahead i' i
      left_here : LeftStep i' i → Ahead i' i

    ahead_set : (i' : Item) (number : ℕ) (cells cells' : ℕ → ℤ) (at : Place) (to : ℕ) (work : _) (rest : Lines)
        (k : Tasks)
        (p : Place) (ps : List Place) → Agree kernel cells' cells → (f : AreFine kernel
        (LinesAt at (SetThen to work rest) k) (p ∷ ps)) →
        AreFronts kernel k ps → (b : Test) → is_unread kernel to ≡ b
        → i' ≡ record {
          number = number;
          cells = cells';
          tasks = LinesAt p (if b then S rest else SetThen to work (S rest)) (swept_tasks kernel k ps);
        }
        → Ahead i' (record { number = number; cells = cells; tasks = LinesAt at (SetThen to work rest) k })
    ahead_set i' number cells cells' at to work rest k p ps agree f fr false left same = ready_here left
    ahead_set i' number cells cells' at to work rest k p ps agree f fr true left same = left_here (record {
      after = _;
      step = refl;
      beside = record {
        cells = cells';
        places = p ∷ ps;
        same = same;
        agree = agree_left kernel cells' cells to _ left agree;
        fine = (left_out kernel launch i' number cells cells' at to work rest k p ps left f.0, f.1);
      };
      fronts = fr;
      no_test = λ v to h. h;
    })

    ahead : (i' : Item) (number : ℕ) (cells cells' : ℕ → ℤ) (t : Tasks) (ps : List Place) →
        i' ≡ record { number = number; cells = cells'; tasks = swept_tasks kernel t ps } → Agree kernel cells' cells →
        AreFine kernel t ps → RestFronts kernel t ps
        → Ahead i' (record { number = number; cells = cells; tasks = t })
    ahead i' number cells cells' NoTask ps same agree f fr = ready_here tt
    ahead i' number cells cells' (LinesAt at lines k) [] same agree f fr = absurd f
    ahead i' number cells cells' (LinesAt at (SetThen to work rest) k) (p ∷ ps) same agree f fr =
        ahead_set i' number cells cells' at to work rest k p ps agree f fr (is_unread kernel to) refl same
    ahead i' number cells cells' (LinesAt at NoLine k) (p ∷ ps) same agree f fr = ready_here tt
    ahead i' number cells cells' (LinesAt at (LoadThen site to element root index rest) k) (p ∷ ps) same agree f fr =
        ready_here tt
    ahead i' number cells cells' (LinesAt at (StoreThen site element root index from rest) k) (p ∷ ps) same agree f fr =
        ready_here tt
    ahead i' number cells cells' (LinesAt at (ClearThen array rest) k) (p ∷ ps) same agree f fr = ready_here tt
    ahead i' number cells cells' (LinesAt at (IfThen site test chosen other rest) k) (p ∷ ps) same agree f fr =
        ready_here tt
    ahead i' number cells cells' (LinesAt at (LoopThen site first test answer body rest) k) (p ∷ ps) same agree f fr =
        ready_here tt
    ahead i' number cells cells' (LinesAt at (BarrierThen site rest) k) (p ∷ ps) same agree f fr = ready_here tt
    ahead i' number cells cells' (AnswerAt at test answer body n k) [] same agree f fr = absurd f
    ahead i' number cells cells' (AnswerAt at test answer body n k) (p ∷ ps) same agree f fr = ready_here tt

    kept_barrier : (lines : Lines) → is_barrier lines ≡ true → IsKept kernel lines
    kept_barrier (BarrierThen site rest) e = tt
    kept_barrier NoLine e = tt
    kept_barrier (SetThen to work rest) e = absurd (true≢false (sym e))
    kept_barrier (LoadThen site to element root index rest) e = tt
    kept_barrier (StoreThen site element root index from rest) e = tt
    kept_barrier (ClearThen array rest) e = tt
    kept_barrier (IfThen site test chosen other rest) e = tt
    kept_barrier (LoopThen site first test answer body rest) e = tt

    -- where the given item stands at the barrier for which one stands, the other stands at that
    arrives : (point : Point) → is_barrier (lines_at kernel.body (place point.at)) ≡ true →
        (t : Tasks) (ps : List Place) →
        AreFine kernel t ps → point_of t ≡ Some (point_at place point) → point_of (swept_tasks kernel t ps) ≡ Some point
    arrives point bar NoTask ps f e = absurd (none-some _ e)
    arrives point bar (LinesAt at lines k) [] f e = absurd f
    arrives point bar (LinesAt at lines k) (p ∷ ps) f e =
        let same = same_Some (record { at = at; begun = begun_in k }) (point_at place point) e in
        let here : at ≡ place point.at = ap (λ (x : Point). x.at) same in
        let count : begun_in k ≡ point.begun = ap (λ (x : Point). x.begun) same in
        let kept = kept_barrier lines (ap is_barrier (f.0.is ∙ ap (lines_at kernel.body) here) ∙ bar) in
        let there : place p ≡ at = ap (λ (s : Spot). s.at) (f.0.place ∙ kept_skip kernel at lines kept) in
        let mine : p ≡ point.at = sym (back_placed kernel p) ∙ (ap (back kernel) (there ∙ here) ∙
        back_placed kernel point.at) in
        ap₂ (λ (x : Place) (ns : List ℕ). Some (record { at = x; begun = ns })) mine (begun_same k ps f.1 ∙ count)
    arrives point bar (AnswerAt at test answer body n k) [] f e = absurd f
    arrives point bar (AnswerAt at test answer body n k) (p ∷ ps) f e =
        let same = same_Some (record { at = ToAnswer ∷ at; begun = n ∷ begun_in k }) (point_at place point) e in
        absurd (true≢false (sym (ap (λ (x : Point). is_barrier (lines_at kernel.body x.at)) same ∙ bar)))

    by_ahead : (point : Point) → is_barrier (lines_at kernel.body (place point.at)) ≡ true → (q : Option Point) →
        q ≡ Some (point_at place point) → (i' i after : Item) → MayLead GoesOn (item_next kernel launch i) after →
        (b : Beside kernel i' i) →
        RestFronts kernel i.tasks b.places → ((x : Item) → (b' : Beside kernel x after) →
        RestFronts kernel after.tasks b'.places →
        ItemCanCome simple launch x (Some point)) → Ahead i' i → ItemCanCome simple launch i' (Some point)
    by_ahead point bar q e i' i after m b fr f (ready_here ready) =
        let r = may_lead GoesOn after (labels kernel launch i' i b fr ready) m in
        by_step r.1 (f r.0 r.2.beside (rest_fronts kernel launch after.tasks r.2.beside.places r.2.fronts))
    by_ahead point bar q e i' i after m b fr f (left_here s) =
        let same : s.after ≡ after = subst (λ n. MayLead GoesOn n after) s.step m in
        let there : (b' : Beside kernel i' after) × RestFronts kernel after.tasks b'.places =
        subst (λ (x : Item). (b' : Beside kernel i' x) × RestFronts kernel x.tasks b'.places) same (s.beside, s.fronts)
        in
        f i' there.0 there.1

    comes_too : (point : Point) → is_barrier (lines_at kernel.body (place point.at)) ≡ true → (q : Option Point) →
        q ≡ Some (point_at place point) → (i' i : Item) → (b : Beside kernel i' i) →
        RestFronts kernel i.tasks b.places →
        ItemCanCome kernel launch i q → ItemCanCome simple launch i' (Some point)
    comes_too point bar q e i' i b fr arrived =
        subst (λ x. ItemCanCome simple launch i' x)
        (ap (λ (x : Item). point_of x.tasks) b.same ∙ arrives point bar i.tasks b.places b.fine e) arrived
    comes_too point bar q e i' i b fr (by_step {after = after} m c) =
        by_ahead point bar q e i' i after m b fr (λ x b' fr'. comes_too point bar q e x after b' fr' c)
        (ahead i' i.number i.cells b.cells i.tasks b.places b.same b.agree b.fine fr)
    comes_too point bar q e i' i b fr (by_test {after = after} m c) =
        let r = answers_at i b.cells (swept_tasks kernel i.tasks b.places) m.0 i.tasks b.places after b.agree b.fine fr
        m.1 in
        by_test (m.0, subst (λ (x : Item). AnswersTo m.0 x x.tasks r.0) (sym b.same) r.1)
        (comes_too point bar q e r.0 after r.2.beside
        (rest_fronts kernel launch after.tasks r.2.beside.places r.2.fronts) c)

    -- ---- they stand alike

    module _ (buffers : List (List ℕ)) where
      alike : (i' i : Item) → (s : Skipped kernel launch i' i) → StandAlike kernel simple place launch buffers i' s.item
      alike i' i s = record {
        same_next = next_alike (same_label i' i s);
        waits = λ w. stands_for i' s.item s.beside s.ready;
        parting = λ point is never come. never (comes_too point
            (sym (barrier_there kernel point.at) ∙ is.barrier) (Some (point_at place point)) refl i' s.item s.beside
            s.fronts come);
        reads = λ c is e. (
          stands_for i' s.item s.beside s.ready,
          sym (reads_same c s.item.tasks s.beside.places s.beside.fine s.ready) ∙
              (sym (ap (λ (x : Item). tasks_read c x.tasks) s.beside.same) ∙ e),
          cell_same i' s.item s.beside c (variable_kept c is),
        );
        sets = λ c is e. (
          stands_for i' s.item s.beside s.ready,
          sym (sets_same c s.item.tasks s.beside.places s.beside.fine s.ready) ∙
              (sym (ap (λ (x : Item). tasks_set c x.tasks) s.beside.same) ∙ e),
        );
        sets_value = λ c is e done to' steps.
            let r = steps_on (lengths_of (shell_of kernel) launch buffers) (MayBeTold (shell_of kernel) launch
            buffers) done to' (same_label i' i s) steps in
            (r.0, r.1, cell_same to' r.0 r.2.beside c (variable_kept c is));
      }

      -- ---- histories and runs

      goes_on : (k : ℕ) (a b : Item) → GoesIn (item_next kernel launch) k a b →
          History (lengths_of (shell_of kernel) launch buffers) (MayBeTold (shell_of kernel) launch buffers)
          (item_next kernel launch) a [] b
      goes_on zero a b g = subst (λ x. History (lengths_of (shell_of kernel) launch buffers)
          (MayBeTold (shell_of kernel) launch buffers) (item_next kernel launch) a [] x) g nothing
      goes_on (suc k) a b g = going g.1 (goes_on k g.0 b g.2)

      -- the matching history, to where the item comes to first
      record Follows (item : ℕ) (deeds : List Deed) (i' : Item) : Type 0 where
        first : Item
        history : ItemHistory kernel launch buffers item deeds first
        beside : Fronted kernel i' first

      follows : (item : ℕ) (deeds : List Deed) (i' : Item) → ItemHistory simple launch buffers item deeds i' →
          Follows item deeds i'
      follows item deeds i' h =
          let m = history_matched (machine_of simple launch) (machine_of kernel launch) (moved place)
          (λ n. Fronted kernel) (every_step simulates) (lengths_of (shell_of kernel) launch buffers)
          (MayBeTold (shell_of kernel) launch buffers) 0 (start_item simple item) deeds i' (start_item kernel item) h
          (start_beside kernel item) in
          record { first = m.0; history = m.1; beside = m.2 }

      -- and on to the line that is kept
      on_to : (item : ℕ) (deeds : List Deed) (i' : Item) → (f : Follows item deeds i') →
          ItemHistory kernel launch buffers item deeds (skipped kernel launch i' f.first f.beside).item
      on_to item deeds i' f =
          let s = skipped kernel launch i' f.first f.beside in
          subst (λ ds. ItemHistory kernel launch buffers item ds s.item) (append-nil deeds)
          (history_then f.history (goes_on s.steps f.first s.item s.goes))

      related : (n : ℕ) → AreRelated (Fronted kernel) (start_world simple launch buffers)
          (start_world kernel launch buffers)
      related n = record {
        memory = refl;
        fault = refl;
        items = λ calm item. starts 0 (item_count launch) item;
      }
        where
          starts : (first count k : ℕ) → RelatedAt (Fronted kernel) (slice_get (start_items simple first count) k)
              (slice_get (start_items kernel first count) k)
          starts first zero k = tt
          starts first (suc count) zero = start_beside kernel first
          starts first (suc count) (suc k) = starts (suc first) count k

      run_alike : is_kernel kernel ≡ true → is_kernel simple ≡ true → FitsProgram (shell_of kernel) launch →
          (moves : List Move) → IsRun (machine_of simple launch) (start_world simple launch buffers) moves →
          RunAlike kernel simple place launch buffers moves
      run_alike valid valid' fits moves run = record {
        seen_alike = r.seen;
        each = λ item i' i here there. record {
          own_history = done_by simple launch buffers valid' fits moves run item i' here;
          history = subst (λ es. ItemHistory kernel launch buffers item (deeds_of (group_of launch) item es) i)
              r.seen.same_trace (done_by kernel launch buffers valid fits r.seen.moves' r.seen.run item i there);
          alike = r.each item i' i here there;
        };
      }
        where
          aligned : (n : ℕ) (i' i : Item) → Fronted kernel i' i → (k : ℕ) × (t : Item) ×
              GoesIn (item_next kernel launch) k i t × StandAlike kernel simple place launch buffers i' t
          aligned n i' i b =
              let s = skipped kernel launch i' i b in
              (s.steps, s.item, s.goes, alike i' i s)

          r : AlikeRun (machine_of simple launch) (machine_of kernel launch) (moved place) (λ n. Fronted kernel)
              (every_step simulates) (StandAlike kernel simple place launch buffers) aligned
              (λ s t a. a.same_next) (start_world simple launch buffers) (start_world kernel launch buffers) related
              moves
          r = alike_run (machine_of simple launch) (machine_of kernel launch) (moved place) (λ n. Fronted kernel)
              (every_step simulates) (StandAlike kernel simple place launch buffers) aligned (λ s t a. a.same_next)
              (start_world simple launch buffers) (start_world kernel launch buffers) related refl moves run

  -- ---- evenness

  -- a stop of the simple text is one where the line stands for which one stands, or at the front of the place
  data StopAt (p : Place) : Type 0 where
    at_place : is_stop kernel.body (place p) ≡ true → StopAt p
    at_front : is_stop kernel.body (front kernel p) ≡ true → StopAt p

  stop_front : (p : Place) → (ends_part kernel.body (front kernel p) || is_behind_round kernel.body (front kernel p)) ≡
      true →
      is_stop kernel.body (front kernel p) ≡ true
  stop_front p e =
      last_two (is_line (lines_at kernel.body (front kernel p))) (is_barrier (lines_at kernel.body (front kernel p)))
      (is_choice (lines_at kernel.body (front kernel p))) (ends_part kernel.body (front kernel p))
      (is_behind_round kernel.body (front kernel p)) e
    where
      last_two : (l b c d r : Test) → (d || r) ≡ true → (l || ((b || (c || d)) || r)) ≡ true
      last_two true b c d r e = refl
      last_two false true c d r e = refl
      last_two false false true d r e = refl
      last_two false false false d r e = e

  stops : (p : Place) → is_stop (S kernel.body) p ≡ true → StopAt p
  stops p e = by_parts (is_line (lines_at kernel.body (place p))) (is_barrier (lines_at kernel.body (place p)))
      (is_choice (lines_at kernel.body (place p))) (ends_part (S kernel.body) p) (is_behind_round (S kernel.body) p)
      refl
      refl refl refl refl
      (sym (ap₂ (λ x y. x || ((y || (is_choice (lines_at (S kernel.body) p) || ends_part (S kernel.body) p)) ||
      is_behind_round (S kernel.body) p)) (line_there kernel p) (barrier_there kernel p)
      ∙ ap (λ z. is_line (lines_at kernel.body (place p)) || ((is_barrier (lines_at kernel.body (place p)) ||
      (z || ends_part (S kernel.body) p)) || is_behind_round (S kernel.body) p)) (choice_there kernel p)) ∙ e)
    where
      by_parts : (l b c d r : Test) → is_line (lines_at kernel.body (place p)) ≡ l →
          is_barrier (lines_at kernel.body (place p)) ≡ b → is_choice (lines_at kernel.body (place p)) ≡ c →
          ends_part (S kernel.body) p ≡ d → is_behind_round (S kernel.body) p ≡ r
          → (l || ((b || (c || d)) || r)) ≡ true → StopAt p
      by_parts true b c d r el eb ec ed er e =
          at_place (ap (λ (x : Test). x || (is_cut kernel.body (place p) || is_behind_round kernel.body (place p))) el)
      by_parts false true c d r el eb ec ed er e = at_place (or_second (is_line (lines_at kernel.body (place p))) _
          (or_first (is_cut kernel.body (place p)) _ (or_first (is_barrier (lines_at kernel.body (place p))) _ eb)))
      by_parts false false true d r el eb ec ed er e = at_place (or_second (is_line (lines_at kernel.body (place p))) _
          (or_first (is_cut kernel.body (place p)) _ (or_second (is_barrier (lines_at kernel.body (place p))) _
          (or_first (is_choice (lines_at kernel.body (place p))) _ ec))))
      by_parts false false false true r el eb ec ed er e = at_front (stop_front p
          (or_first (ends_part kernel.body (front kernel p)) _ (sym (ends_there kernel p) ∙ ed)))
      by_parts false false false false true el eb ec ed er e = at_front (stop_front p
          (or_second (ends_part kernel.body (front kernel p)) _ (sym (behind_there kernel p) ∙ er)))
      by_parts false false false false false el eb ec ed er e = absurd (true≢false (sym e))

  even_too : (c : ℕ) → IsVariableCell kernel c → IsEven kernel (λ d. d ≡ c) → IsEven simple (λ d. d ≡ c)
  even_too c var even launch fits buffers fit one other a b group deeds deeds' i' j' h h' point p p' stop d is live =
      let x = follows launch buffers one deeds i' h in
      let y = follows launch buffers other deeds' j' h' in
      let kept = subst (λ e. is_unread kernel e ≡ false) (sym is) (variable_kept c var) in
      by_stop x y kept (stops point.at stop)
    where
      by_stop : (x : Follows launch buffers one deeds i') (y : Follows launch buffers other deeds' j') →
          is_unread kernel d ≡ false → StopAt point.at → i'.cells d ≡ j'.cells d
      by_stop x y kept (at_front stop) =
          cell_same i' x.first x.beside.beside d kept ∙
          (even launch fits buffers fit one other a b group deeds deeds' x.first y.first x.history y.history
          (point_at (front kernel) point) (stands_front i' x.first x.beside point p)
          (stands_front j' y.first y.beside point p') stop d is (live_front kernel d point.at live) ∙
          sym (cell_same j' y.first y.beside.beside d kept))
      by_stop x y kept (at_place stop) =
          let s = skipped kernel launch i' x.first x.beside in
          let t = skipped kernel launch j' y.first y.beside in
          cell_same i' s.item s.beside d kept ∙
          (even launch fits buffers fit one other a b group deeds deeds' s.item t.item
          (on_to launch buffers one deeds i' x) (on_to launch buffers other deeds' j' y) (point_at place point)
          (stands_for i' s.item s.beside s.ready point p) (stands_for j' t.item t.beside t.ready point p') stop d is
          (live_there kernel d point.at live) ∙ sym (cell_same j' t.item t.beside d kept))

  -- ---- cuts

  cuts_too : (p : Place) → is_cut (S kernel.body) p ≡ true → (there : Place) × (is_cut kernel.body there ≡ true) ×
      ((c : ℕ) → live_at (S kernel.body) p c ≡ true → live_at kernel.body there c ≡ true)
  cuts_too p e = by_parts (is_barrier (lines_at kernel.body (place p))) (is_choice (lines_at kernel.body (place p)))
      (ends_part (S kernel.body) p) refl refl refl
      (sym (ap₂ (λ x y. x || (y || ends_part (S kernel.body) p)) (barrier_there kernel p) (choice_there kernel p)) ∙ e)
    where
      by_parts : (b c d : Test) → is_barrier (lines_at kernel.body (place p)) ≡ b →
          is_choice (lines_at kernel.body (place p)) ≡ c → ends_part (S kernel.body) p ≡ d → (b || (c || d)) ≡ true
          → (there : Place) × (is_cut kernel.body there ≡ true) ×
          ((c : ℕ) → live_at (S kernel.body) p c ≡ true → live_at kernel.body there c ≡ true)
      by_parts true c d eb ec ed e =
          (place p, or_first (is_barrier (lines_at kernel.body (place p))) _ eb, λ x live. live_there kernel x p live)
      by_parts false true d eb ec ed e = (
        place p,
        or_second (is_barrier (lines_at kernel.body (place p))) _
            (or_first (is_choice (lines_at kernel.body (place p))) _ ec),
        λ x live. live_there kernel x p live,
      )
      by_parts false false true eb ec ed e = (
        front kernel p,
        or_second (is_barrier (lines_at kernel.body (front kernel p))) _
            (or_second (is_choice (lines_at kernel.body (front kernel p))) _ (sym (ends_there kernel p) ∙ ed)),
        λ x live. live_front kernel x p live,
      )
      by_parts false false false eb ec ed e = absurd (true≢false (sym e))

  -- ---- all of it

  pub swept_faithful : is_kernel kernel ≡ true → is_kernel simple ≡ true → IsFaithful kernel simple
  swept_faithful valid valid' = record {
    kept = refl;
    place = place;
    loops = placed_loops kernel;
    barriers = λ p e. sym (barrier_there kernel p) ∙ e;
    histories = λ launch fits sizes buffers fit item within deeds i' h.
        let f = follows launch buffers item deeds i' h in
        let s = skipped kernel launch i' f.first f.beside in (
          s.item,
          record {
            own_history = h;
            history = on_to launch buffers item deeds i' f;
            alike = alike launch buffers i' f.first s;
          },
        );
    runs = λ launch fits sizes buffers fit moves run. run_alike launch buffers valid valid' fits moves run;
    keeps = keeps_fewer kernel;
    even = even_too;
    start = λ c e. live_front kernel c [] e;
    cuts = cuts_too;
    loads = λ site. let same = same_loads kernel site kernel.body in omega arith;
    stores = λ site. let same = same_stores kernel site kernel.body in omega arith;
    barrier_count = λ site. let same = same_counts kernel site kernel.body in omega arith;
  }
