-- A kernel in which no constant chooses a branch does what the given one does, where it comes to as many barriers.
use Rattle.std.proofs.Common.{◌≡◌, ℕ, zero, suc, List, [], ◌∷◌, Option, Some, None}
use Rattle.std.proofs.Common.{slice_get, refl, sym, ap, ap₂, ◌∙◌, subst, true, false, if◌then◌else◌}
use Rattle.std.proofs.Common.{Bool as Test}
use Rattle.std.specs.Prelude.{◌||◌}
use Rattle.std.proofs.lemmas.Bool.{true≢false}
use Rattle.work_items.specs.Items.{Next, Ends, Waits, Goes, Begins, Loads, Stores, Move, IsWaiting}
use Rattle.work_items.specs.Runs.{IsRun}
use Rattle.work_items.specs.Simulation.{GoesIn, SameLabel, both_end, both_wait, both_go, both_begin, both_load}
use Rattle.work_items.specs.Simulation.{both_store, MatchesAt, Simulates, RelatedAt, AreRelated}
use Rattle.work_items.specs.Histories.{Deed, deeds_of}
use Rattle.work_items.proofs.Lift.{every_step}
use Rattle.work_items.proofs.HistoryLemmas.{history_matched, history_then}
use Rattle.work_items.specs.Histories.{History, nothing, going}
use Rattle.std.proofs.Common.{append-nil}
use Rattle.cl_model.specs.Sizes.{Launch, item_count, group_of}
use Rattle.cl_model.specs.Fitting.{FitsProgram}
use Rattle.cl_model.specs.Meaning.{lengths_of, MayBeTold}
use Rattle.cl_model.specs.Values.{is_zero}
use Rattle.kir.specs.Tree.{Lines, NoLine, SetThen, LoadThen, StoreThen, ClearThen, IfThen, LoopThen, BarrierThen}
use Rattle.kir.specs.Tree.{Kernel}
use Rattle.kir.specs.Places.{ToAnswer, Place, Point, Tasks, NoTask, LinesAt, AnswerAt}
use Rattle.kir.specs.Places.{begun_in, point_of, lines_at}
use Rattle.kir.specs.Steps.{shell_of, Item, item_next}
use Rattle.kir.specs.Fits.{is_kernel}
use Rattle.kir.specs.Meaning.{machine_of, start_item, start_items, start_world, ItemCanCome}
use Rattle.kir.specs.Meaning.{ItemHistory}
use Rattle.kir.specs.Live.{tasks_read, tasks_set, live_at}
use Rattle.kir.specs.Cuts.{is_barrier, is_choice, is_line, ends_part, is_cut, is_behind_round, is_stop}
use Rattle.kir.specs.Uniformity.{IsEven}
use Rattle.kir.proofs.Aligned.{AlikeRun, alike_run}
use Rattle.kir.specs.Live.{line_reads, line_sets}
use Rattle.kir.specs.Tree.{joined_to}
use Rattle.kir_simplify.specs.Faithful.{IsVariableCell, point_at, StandsFor, StandAlike, RunAlike, IsFaithful}
use Rattle.kir_simplify.specs.Passes.{constant_value, spliced, spliced_of}
use Rattle.kir_simplify.proofs.Folded.{next_alike, steps_on, done_by}
use Rattle.kir_simplify.proofs.SweptItems.{or_first, or_second}
use Rattle.kir_simplify.proofs.SplicedPlaces.{Bit, Spot, Mark, Own, More, spliced_tasks, head_lines, rest_tasks, bits}
use Rattle.kir_simplify.proofs.SplicedItems.{placed}
use Rattle.kir_simplify.proofs.SplicedPlaces.{IsKept, kept_skip}
use Rattle.kir_simplify.proofs.SplicedItems.{AreFine, AreJoined, Beside, IsReady, front, AreFronts}
use Rattle.kir_simplify.proofs.SplicedItems.{RestFronts, Fronted, Skipped, skipped, labels, start_beside}
use Rattle.kir_simplify.proofs.SplicedText.{fewer_loads, fewer_stores, fewer_barriers}
use Rattle.kir_simplify.proofs.SplicedOrigins.{placed_loops, barrier_there, choice_there, line_there, ends_there}
use Rattle.kir_simplify.proofs.SplicedOrigins.{behind_there}
use Rattle.kir_simplify.proofs.SplicedLive.{keeps_fewer, live_there, live_front}

-- what the first line reads and sets, where it is kept
module _ (c : ℕ) where
  reads_own : (lines : Lines) → IsKept lines [] → line_reads c (spliced lines) ≡ line_reads c lines
  reads_own NoLine k = refl
  reads_own (SetThen to work rest) k = refl
  reads_own (LoadThen site to element root index rest) k = refl
  reads_own (StoreThen site element root index from rest) k = refl
  reads_own (ClearThen array rest) k = refl
  reads_own (IfThen site test chosen other rest) k =
      ap (λ (d : Test). line_reads c (if d then joined_to (if is_zero (constant_value test) then spliced other
      else spliced chosen) (spliced rest) else IfThen site test (spliced chosen) (spliced other) (spliced rest))) k
  reads_own (LoopThen site first test answer body rest) k = refl
  reads_own (BarrierThen site rest) k = refl

  reads_more : (lines tail : Lines) (bs : List Bit) → (IsKept NoLine bs → ⊥) → IsKept lines bs →
      line_reads c (joined_to (spliced lines) tail) ≡ line_reads c lines
  reads_more NoLine tail bs never k = absurd (never k)
  reads_more (SetThen to work rest) tail bs never k = refl
  reads_more (LoadThen site to element root index rest) tail bs never k = refl
  reads_more (StoreThen site element root index from rest) tail bs never k = refl
  reads_more (ClearThen array rest) tail bs never k = refl
  reads_more (IfThen site test chosen other rest) tail bs never k =
      ap (λ (d : Test). line_reads c (joined_to (if d then joined_to (if is_zero (constant_value test)
      then spliced other else spliced chosen) (spliced rest)
      else IfThen site test (spliced chosen) (spliced other) (spliced rest)) tail)) k
  reads_more (LoopThen site first test answer body rest) tail bs never k = refl
  reads_more (BarrierThen site rest) tail bs never k = refl

  sets_own : (lines : Lines) → IsKept lines [] → line_sets c (spliced lines) ≡ line_sets c lines
  sets_own NoLine k = refl
  sets_own (SetThen to work rest) k = refl
  sets_own (LoadThen site to element root index rest) k = refl
  sets_own (StoreThen site element root index from rest) k = refl
  sets_own (ClearThen array rest) k = refl
  sets_own (IfThen site test chosen other rest) k =
      ap (λ (d : Test). line_sets c (if d then joined_to (if is_zero (constant_value test) then spliced other
      else spliced chosen) (spliced rest) else IfThen site test (spliced chosen) (spliced other) (spliced rest))) k
  sets_own (LoopThen site first test answer body rest) k = refl
  sets_own (BarrierThen site rest) k = refl

  sets_more : (lines tail : Lines) (bs : List Bit) → (IsKept NoLine bs → ⊥) → IsKept lines bs →
      line_sets c (joined_to (spliced lines) tail) ≡ line_sets c lines
  sets_more NoLine tail bs never k = absurd (never k)
  sets_more (SetThen to work rest) tail bs never k = refl
  sets_more (LoadThen site to element root index rest) tail bs never k = refl
  sets_more (StoreThen site element root index from rest) tail bs never k = refl
  sets_more (ClearThen array rest) tail bs never k = refl
  sets_more (IfThen site test chosen other rest) tail bs never k =
      ap (λ (d : Test). line_sets c (joined_to (if d then joined_to (if is_zero (constant_value test)
      then spliced other else spliced chosen) (spliced rest)
      else IfThen site test (spliced chosen) (spliced other) (spliced rest)) tail)) k
  sets_more (LoopThen site first test answer body rest) tail bs never k = refl
  sets_more (BarrierThen site rest) tail bs never k = refl

module _ (kernel : Kernel) where
  abbrev simple : Kernel
  simple = spliced_of kernel

  abbrev S : Lines → Lines
  S lines = spliced lines

  abbrev place : Place → Place
  place p = (placed kernel p).at

  -- ---- where the two stand

  pub begun_both : (k : Tasks) (es : List Mark)
      → (AreFine kernel k es → begun_in (spliced_tasks k es) ≡ begun_in k) ×
      (AreJoined kernel k es → begun_in (rest_tasks (spliced_tasks k es)) ≡ begun_in k)
  begun_both NoTask es = (λ f. refl, λ j. absurd j)
  begun_both (LinesAt at lines k) [] = (λ f. absurd f, λ j. absurd j)
  begun_both (LinesAt at lines k) (Own p ∷ es) =
      (λ f. (begun_both k es).0 f.1, λ j. (begun_both k es).0 j.1)
  begun_both (LinesAt at lines k) (More p ∷ es) =
      (λ f. (begun_both k es).1 f.1, λ j. (begun_both k es).1 j.1)
  begun_both (AnswerAt at test answer body n k) [] = (λ f. absurd f, λ j. absurd j)
  begun_both (AnswerAt at test answer body n k) (Own p ∷ es) =
      (λ f. ap (λ ns. n ∷ ns) ((begun_both k es).0 f.1), λ j. absurd j)
  begun_both (AnswerAt at test answer body n k) (More p ∷ es) = (λ f. absurd f, λ j. absurd j)

  abbrev moved : (Place → Place) → Option Point → Option Point
  moved f None = None
  moved f (Some point) = Some (point_at f point)

  -- at a line that is kept, the place stands for the place
  point_moved : (k : Tasks) (es : List Mark) → AreFine kernel k es → IsReady kernel k es →
      moved place (point_of (spliced_tasks k es)) ≡ point_of k
  point_moved NoTask es f r = refl
  point_moved (LinesAt at lines k) [] f r = absurd f
  point_moved (LinesAt at lines k) (Own p ∷ es) f r =
      ap₂ (λ (x : Place) (ns : List ℕ). Some (record { at = x; begun = ns }))
      (ap (λ (s : Spot). s.at) (f.0.place ∙ kept_skip at lines [] r)) ((begun_both k es).0 f.1)
  point_moved (LinesAt at lines k) (More p ∷ es) f r =
      ap₂ (λ (x : Place) (ns : List ℕ). Some (record { at = x; begun = ns }))
      (ap (λ (s : Spot). s.at) (f.0.place ∙ kept_skip at lines (bits k es) r)) ((begun_both k es).1 f.1)
  point_moved (AnswerAt at test answer body n k) [] f r = absurd f
  point_moved (AnswerAt at test answer body n k) (Own p ∷ es) f r =
      ap₂ (λ (x : Place) (ns : List ℕ). Some (record { at = ToAnswer ∷ x; begun = n ∷ ns })) f.0.there
      ((begun_both k es).0 f.1)
  point_moved (AnswerAt at test answer body n k) (More p ∷ es) f r = absurd f

  -- and before it is gone to, the front of the place
  point_front : (k : Tasks) (es : List Mark) → AreFine kernel k es → AreFronts kernel k es →
      moved (front kernel) (point_of (spliced_tasks k es)) ≡ point_of k
  point_front NoTask es f r = refl
  point_front (LinesAt at lines k) [] f r = absurd f
  point_front (LinesAt at lines k) (Own p ∷ es) f r =
      ap₂ (λ (x : Place) (ns : List ℕ). Some (record { at = x; begun = ns })) (sym r.0) ((begun_both k es).0 f.1)
  point_front (LinesAt at lines k) (More p ∷ es) f r =
      ap₂ (λ (x : Place) (ns : List ℕ). Some (record { at = x; begun = ns })) (sym r.0) ((begun_both k es).1 f.1)
  point_front (AnswerAt at test answer body n k) [] f r = absurd f
  point_front (AnswerAt at test answer body n k) (Own p ∷ es) f r =
      ap₂ (λ (x : Place) (ns : List ℕ). Some (record { at = ToAnswer ∷ x; begun = n ∷ ns })) f.0.there
      ((begun_both k es).0 f.1)
  point_front (AnswerAt at test answer body n k) (More p ∷ es) f r = absurd f

  stands_for : (i' i : Item) → (b : Beside kernel i' i) → IsReady kernel i.tasks b.marks → StandsFor place i' i
  stands_for i' i b r point is =
      sym (point_moved i.tasks b.marks b.fine r) ∙
      ap (moved place) (sym (ap (λ (x : Item). point_of x.tasks) b.same) ∙ is)

  stands_front : (i' i : Item) → (b : Fronted kernel i' i) → StandsFor (front kernel) i' i
  stands_front i' i b point is =
      sym (point_front i.tasks b.beside.marks b.beside.fine b.fronts) ∙
      ap (moved (front kernel)) (sym (ap (λ (x : Item). point_of x.tasks) b.beside.same) ∙ is)

  cell_same : (i' i : Item) → Beside kernel i' i → (c : ℕ) → i'.cells c ≡ i.cells c
  cell_same i' i b c = ap (λ (x : Item). x.cells c) b.same

  -- ---- what the first line reads and sets

  no_end : (k : Tasks) (es : List Mark) → AreJoined kernel k es → IsKept NoLine (bits k es) → ⊥
  no_end (LinesAt at lines k) (Own p ∷ es) j kept = kept
  no_end (LinesAt at lines k) (More p ∷ es) j kept = kept
  no_end (LinesAt at lines k) [] j kept = j
  no_end NoTask es j kept = j
  no_end (AnswerAt at test answer body n k) es j kept = j

  reads_same : (c : ℕ) (k : Tasks) (es : List Mark) → AreFine kernel k es → IsReady kernel k es →
      tasks_read c (spliced_tasks k es) ≡ tasks_read c k
  reads_same c NoTask es f r = refl
  reads_same c (LinesAt at lines k) [] f r = absurd f
  reads_same c (LinesAt at lines k) (Own p ∷ es) f r = reads_own c lines r
  reads_same c (LinesAt at lines k) (More p ∷ es) f r =
      reads_more c lines (head_lines (spliced_tasks k es)) (bits k es) (no_end k es f.1) r
  reads_same c (AnswerAt at test answer body n k) [] f r = absurd f
  reads_same c (AnswerAt at test answer body n k) (Own p ∷ es) f r = refl
  reads_same c (AnswerAt at test answer body n k) (More p ∷ es) f r = absurd f

  sets_same : (c : ℕ) (k : Tasks) (es : List Mark) → AreFine kernel k es → IsReady kernel k es →
      tasks_set c (spliced_tasks k es) ≡ tasks_set c k
  sets_same c NoTask es f r = refl
  sets_same c (LinesAt at lines k) [] f r = absurd f
  sets_same c (LinesAt at lines k) (Own p ∷ es) f r = sets_own c lines r
  sets_same c (LinesAt at lines k) (More p ∷ es) f r =
      sets_more c lines (head_lines (spliced_tasks k es)) (bits k es) (no_end k es f.1) r
  sets_same c (AnswerAt at test answer body n k) [] f r = absurd f
  sets_same c (AnswerAt at test answer body n k) (Own p ∷ es) f r = refl
  sets_same c (AnswerAt at test answer body n k) (More p ∷ es) f r = absurd f

  -- what is still to be shown: where the given item, at a line that is kept, can come to the barrier for which one
  -- stands, the simple one can come to that
  abbrev pub ComesToo : Type 0
  ComesToo = (launch : Launch) (i' i : Item) → (b : Beside kernel i' i) → RestFronts kernel i.tasks b.marks →
      IsReady kernel i.tasks b.marks → (point : Point) → is_barrier (lines_at kernel.body (place point.at)) ≡ true →
      ItemCanCome kernel launch i (Some (point_at place point)) → ItemCanCome simple launch i' (Some point)

  module _ (launch : Launch) where
    -- ---- a simulation

    one_further : (k : ℕ) (i mid to : Item) → GoesIn (item_next kernel launch) k i mid →
        item_next kernel launch mid ≡ Goes to →
        GoesIn (item_next kernel launch) (suc k) i to
    one_further zero i mid to g e = (to, ap (item_next kernel launch) g ∙ e, refl)
    one_further (suc k) i mid to g e = (g.0, g.1, one_further k g.0 mid to g.2 e)

    matched : (i' i : Item) → (s : Skipped kernel launch i' i) → (n m : Next Item) →
        item_next kernel launch s.item ≡ m →
        (IsWaiting n → point_of s.item.tasks ≡ moved place (point_of i'.tasks)) → SameLabel (Fronted kernel) n m
        → (k : ℕ) × (t : Item) × GoesIn (item_next kernel launch) k i t ×
        MatchesAt (machine_of kernel launch) (Fronted kernel) (moved place (point_of i'.tasks)) n t
    matched i' i s _ _ e there (both_go {t = t} r) =
        (suc s.steps, t, one_further s.steps i s.item t s.goes e, r)
    matched i' i s _ _ e there both_end = (
      s.steps,
      s.item,
      s.goes,
      (subst (λ z. SameLabel (Fronted kernel) Ends z) (sym e) both_end, λ w. absurd w),
    )
    matched i' i s _ _ e there (both_wait {site = site} {s = a} r) = (
      s.steps,
      s.item,
      s.goes,
      (subst (λ z. SameLabel (Fronted kernel) (Waits site a) z) (sym e) (both_wait r), there),
    )
    matched i' i s _ _ e there (both_begin {s = a} r) = (
      s.steps,
      s.item,
      s.goes,
      (subst (λ z. SameLabel (Fronted kernel) (Begins a) z) (sym e) (both_begin r), λ w. absurd w),
    )
    matched i' i s _ _ e there (both_load {site = site} {access = access} {f = f} r) = (
      s.steps,
      s.item,
      s.goes,
      (subst (λ z. SameLabel (Fronted kernel) (Loads site access f) z) (sym e) (both_load r), λ w. absurd w),
    )
    matched i' i s _ _ e there (both_store {site = site} {object = object} {index = index} {bytes = bytes} {s = a}
        r) = (
          s.steps,
          s.item,
          s.goes,
          (
            subst (λ z. SameLabel (Fronted kernel) (Stores site object index bytes a) z) (sym e) (both_store r),
            λ w. absurd w,
          ),
        )

    point_there : (i' i : Item) → (s : Skipped kernel launch i' i) →
        point_of s.item.tasks ≡ moved place (point_of i'.tasks)
    point_there i' i s =
        sym (point_moved s.item.tasks s.beside.marks s.beside.fine s.ready) ∙
        ap (moved place) (sym (ap (λ (x : Item). point_of x.tasks) s.beside.same))

    same_label : (i' i : Item) → (s : Skipped kernel launch i' i) →
        SameLabel (Fronted kernel) (item_next simple launch i') (item_next kernel launch s.item)
    same_label i' i s = labels kernel launch i' s.item s.beside s.fronts s.ready

    simulates : Simulates (machine_of simple launch) (machine_of kernel launch) (moved place) (Fronted kernel)
    simulates = record {
      same_group = λ item. refl;
      matches = λ i' i b.
          let s = skipped kernel launch i' i b in
          matched i' i s (item_next simple launch i') (item_next kernel launch s.item) refl
          (λ w. point_there i' i s) (same_label i' i s);
    }

    -- ---- they stand alike

    module _ (comes : ComesToo) (buffers : List (List ℕ)) where
      alike : (i' i : Item) → (s : Skipped kernel launch i' i) → StandAlike kernel simple place launch buffers i' s.item
      alike i' i s = record {
        same_next = next_alike (same_label i' i s);
        waits = λ w. stands_for i' s.item s.beside s.ready;
        parting = λ point is never come. never (comes launch i' s.item s.beside s.fronts s.ready point
            (sym (barrier_there kernel point.at) ∙ is.barrier) come);
        reads = λ c is e. (
          stands_for i' s.item s.beside s.ready,
          sym (reads_same c s.item.tasks s.beside.marks s.beside.fine s.ready) ∙
              (sym (ap (λ (x : Item). tasks_read c x.tasks) s.beside.same) ∙ e),
          cell_same i' s.item s.beside c,
        );
        sets = λ c is e. (
          stands_for i' s.item s.beside s.ready,
          sym (sets_same c s.item.tasks s.beside.marks s.beside.fine s.ready) ∙
              (sym (ap (λ (x : Item). tasks_set c x.tasks) s.beside.same) ∙ e),
        );
        sets_value = λ c is e done to' steps.
            let r = steps_on (lengths_of (shell_of kernel) launch buffers) (MayBeTold (shell_of kernel) launch
            buffers) done to' (same_label i' i s) steps in
            (r.0, r.1, cell_same to' r.0 r.2.beside c);
      }

      -- ---- histories and runs

      goes_on : (k : ℕ) (a b : Item) → GoesIn (item_next kernel launch) k a b →
          History (lengths_of (shell_of kernel) launch buffers) (MayBeTold (shell_of kernel) launch buffers)
          (item_next kernel launch) a [] b
      goes_on zero a b g = subst (λ x. History (lengths_of (shell_of kernel) launch buffers)
          (MayBeTold (shell_of kernel) launch buffers) (item_next kernel launch) a [] x) g nothing
      goes_on (suc k) a b g = going g.1 (goes_on k g.0 b g.2)

      -- the matching history, to where the item comes to first
      record Follows (item : ℕ) (deeds : List Deed) (i' : Item) : Type 0 where
        first : Item
        history : ItemHistory kernel launch buffers item deeds first
        beside : Fronted kernel i' first

      follows : (item : ℕ) (deeds : List Deed) (i' : Item) → ItemHistory simple launch buffers item deeds i' →
          Follows item deeds i'
      follows item deeds i' h =
          let m = history_matched (machine_of simple launch) (machine_of kernel launch) (moved place)
          (λ n. Fronted kernel) (every_step simulates) (lengths_of (shell_of kernel) launch buffers)
          (MayBeTold (shell_of kernel) launch buffers) 0 (start_item simple item) deeds i' (start_item kernel item) h
          (start_beside kernel item) in
          record { first = m.0; history = m.1; beside = m.2 }

      -- and on to the line that is kept
      on_to : (item : ℕ) (deeds : List Deed) (i' : Item) → (f : Follows item deeds i') →
          ItemHistory kernel launch buffers item deeds (skipped kernel launch i' f.first f.beside).item
      on_to item deeds i' f =
          let s = skipped kernel launch i' f.first f.beside in
          subst (λ ds. ItemHistory kernel launch buffers item ds s.item) (append-nil deeds)
          (history_then f.history (goes_on s.steps f.first s.item s.goes))

      related : (n : ℕ) → AreRelated (Fronted kernel) (start_world simple launch buffers)
          (start_world kernel launch buffers)
      related n = record {
        memory = refl;
        fault = refl;
        items = λ calm item. starts 0 (item_count launch) item;
      }
        where
          starts : (first count k : ℕ) → RelatedAt (Fronted kernel) (slice_get (start_items simple first count) k)
              (slice_get (start_items kernel first count) k)
          starts first zero k = tt
          starts first (suc count) zero = start_beside kernel first
          starts first (suc count) (suc k) = starts (suc first) count k

      run_alike : is_kernel kernel ≡ true → is_kernel simple ≡ true → FitsProgram (shell_of kernel) launch →
          (moves : List Move) → IsRun (machine_of simple launch) (start_world simple launch buffers) moves →
          RunAlike kernel simple place launch buffers moves
      run_alike valid valid' fits moves run = record {
        seen_alike = r.seen;
        each = λ item i' i here there. record {
          own_history = done_by simple launch buffers valid' fits moves run item i' here;
          history = subst (λ es. ItemHistory kernel launch buffers item (deeds_of (group_of launch) item es) i)
              r.seen.same_trace (done_by kernel launch buffers valid fits r.seen.moves' r.seen.run item i there);
          alike = r.each item i' i here there;
        };
      }
        where
          aligned : (n : ℕ) (i' i : Item) → Fronted kernel i' i → (k : ℕ) × (t : Item) ×
              GoesIn (item_next kernel launch) k i t × StandAlike kernel simple place launch buffers i' t
          aligned n i' i b =
              let s = skipped kernel launch i' i b in
              (s.steps, s.item, s.goes, alike i' i s)

          r : AlikeRun (machine_of simple launch) (machine_of kernel launch) (moved place) (λ n. Fronted kernel)
              (every_step simulates) (StandAlike kernel simple place launch buffers) aligned
              (λ s t a. a.same_next) (start_world simple launch buffers) (start_world kernel launch buffers) related
              moves
          r = alike_run (machine_of simple launch) (machine_of kernel launch) (moved place) (λ n. Fronted kernel)
              (every_step simulates) (StandAlike kernel simple place launch buffers) aligned (λ s t a. a.same_next)
              (start_world simple launch buffers) (start_world kernel launch buffers) related refl moves run

  -- ---- evenness

  -- a stop of the simple text is one where the line stands for which one stands, or at the front of the place
  data StopAt (p : Place) : Type 0 where
    at_place : is_stop kernel.body (place p) ≡ true → StopAt p
    at_front : is_stop kernel.body (front kernel p) ≡ true → StopAt p

  stop_front : (p : Place) → (ends_part kernel.body (front kernel p) || is_behind_round kernel.body (front kernel p)) ≡
      true →
      is_stop kernel.body (front kernel p) ≡ true
  stop_front p e =
      last_two (is_line (lines_at kernel.body (front kernel p))) (is_barrier (lines_at kernel.body (front kernel p)))
      (is_choice (lines_at kernel.body (front kernel p))) (ends_part kernel.body (front kernel p))
      (is_behind_round kernel.body (front kernel p)) e
    where
      last_two : (l b c d r : Test) → (d || r) ≡ true → (l || ((b || (c || d)) || r)) ≡ true
      last_two true b c d r e = refl
      last_two false true c d r e = refl
      last_two false false true d r e = refl
      last_two false false false d r e = e

  stops : (p : Place) → is_stop (S kernel.body) p ≡ true → StopAt p
  stops p e = by_parts (is_line (lines_at kernel.body (place p))) (is_barrier (lines_at kernel.body (place p)))
      (is_choice (lines_at kernel.body (place p))) (ends_part (S kernel.body) p) (is_behind_round (S kernel.body) p)
      refl
      refl refl refl refl
      (sym (ap₂ (λ x y. x || ((y || (is_choice (lines_at (S kernel.body) p) || ends_part (S kernel.body) p)) ||
      is_behind_round (S kernel.body) p)) (line_there kernel p) (barrier_there kernel p)
      ∙ ap (λ z. is_line (lines_at kernel.body (place p)) || ((is_barrier (lines_at kernel.body (place p)) ||
      (z || ends_part (S kernel.body) p)) || is_behind_round (S kernel.body) p)) (choice_there kernel p)) ∙ e)
    where
      by_parts : (l b c d r : Test) → is_line (lines_at kernel.body (place p)) ≡ l →
          is_barrier (lines_at kernel.body (place p)) ≡ b → is_choice (lines_at kernel.body (place p)) ≡ c →
          ends_part (S kernel.body) p ≡ d → is_behind_round (S kernel.body) p ≡ r
          → (l || ((b || (c || d)) || r)) ≡ true → StopAt p
      by_parts true b c d r el eb ec ed er e =
          at_place (ap (λ (x : Test). x || (is_cut kernel.body (place p) || is_behind_round kernel.body (place p))) el)
      by_parts false true c d r el eb ec ed er e = at_place (or_second (is_line (lines_at kernel.body (place p))) _
          (or_first (is_cut kernel.body (place p)) _ (or_first (is_barrier (lines_at kernel.body (place p))) _ eb)))
      by_parts false false true d r el eb ec ed er e = at_place (or_second (is_line (lines_at kernel.body (place p))) _
          (or_first (is_cut kernel.body (place p)) _ (or_second (is_barrier (lines_at kernel.body (place p))) _
          (or_first (is_choice (lines_at kernel.body (place p))) _ ec))))
      by_parts false false false true r el eb ec ed er e = at_front (stop_front p
          (or_first (ends_part kernel.body (front kernel p)) _ (sym (ends_there kernel p) ∙ ed)))
      by_parts false false false false true el eb ec ed er e = at_front (stop_front p
          (or_second (ends_part kernel.body (front kernel p)) _ (sym (behind_there kernel p) ∙ er)))
      by_parts false false false false false el eb ec ed er e = absurd (true≢false (sym e))

  even_too : ComesToo → (c : ℕ) → IsVariableCell kernel c → IsEven kernel (λ d. d ≡ c) → IsEven simple (λ d. d ≡ c)
  even_too comes c var even launch fits buffers fit one other a b group deeds deeds' i' j' h h' point p p' stop d is
      live =
      by_stop (follows launch comes buffers one deeds i' h) (follows launch comes buffers other deeds' j' h')
      (stops point.at stop)
    where
      by_stop : (x : Follows launch comes buffers one deeds i') (y : Follows launch comes buffers other deeds' j') →
          StopAt point.at → i'.cells d ≡ j'.cells d
      by_stop x y (at_front stop) =
          cell_same i' x.first x.beside.beside d ∙
          (even launch fits buffers fit one other a b group deeds deeds' x.first y.first x.history y.history
          (point_at (front kernel) point) (stands_front i' x.first x.beside point p)
          (stands_front j' y.first y.beside point p') stop d is (live_front d kernel point.at live) ∙
          sym (cell_same j' y.first y.beside.beside d))
      by_stop x y (at_place stop) =
          let s = skipped kernel launch i' x.first x.beside in
          let t = skipped kernel launch j' y.first y.beside in
          cell_same i' s.item s.beside d ∙
          (even launch fits buffers fit one other a b group deeds deeds' s.item t.item
          (on_to launch comes buffers one deeds i' x) (on_to launch comes buffers other deeds' j' y)
          (point_at place point)
          (stands_for i' s.item s.beside s.ready point p) (stands_for j' t.item t.beside t.ready point p') stop d is
          (live_there d kernel point.at live) ∙ sym (cell_same j' t.item t.beside d))

  -- ---- cuts

  cuts_too : (p : Place) → is_cut (S kernel.body) p ≡ true → (there : Place) × (is_cut kernel.body there ≡ true) ×
      ((c : ℕ) → live_at (S kernel.body) p c ≡ true → live_at kernel.body there c ≡ true)
  cuts_too p e = by_parts (is_barrier (lines_at kernel.body (place p))) (is_choice (lines_at kernel.body (place p)))
      (ends_part (S kernel.body) p) refl refl refl
      (sym (ap₂ (λ x y. x || (y || ends_part (S kernel.body) p)) (barrier_there kernel p) (choice_there kernel p)) ∙ e)
    where
      by_parts : (b c d : Test) → is_barrier (lines_at kernel.body (place p)) ≡ b →
          is_choice (lines_at kernel.body (place p)) ≡ c → ends_part (S kernel.body) p ≡ d → (b || (c || d)) ≡ true
          → (there : Place) × (is_cut kernel.body there ≡ true) ×
          ((c : ℕ) → live_at (S kernel.body) p c ≡ true → live_at kernel.body there c ≡ true)
      by_parts true c d eb ec ed e =
          (place p, or_first (is_barrier (lines_at kernel.body (place p))) _ eb, λ x live. live_there x kernel p live)
      by_parts false true d eb ec ed e = (
        place p,
        or_second (is_barrier (lines_at kernel.body (place p))) _
            (or_first (is_choice (lines_at kernel.body (place p))) _ ec),
        λ x live. live_there x kernel p live,
      )
      by_parts false false true eb ec ed e = (
        front kernel p,
        or_second (is_barrier (lines_at kernel.body (front kernel p))) _
            (or_second (is_choice (lines_at kernel.body (front kernel p))) _ (sym (ends_there kernel p) ∙ ed)),
        λ x live. live_front x kernel p live,
      )
      by_parts false false false eb ec ed e = absurd (true≢false (sym e))

  -- ---- all of it

  pub spliced_faithful : ComesToo → is_kernel kernel ≡ true → is_kernel simple ≡ true → IsFaithful kernel simple
  spliced_faithful comes valid valid' = record {
    kept = refl;
    place = place;
    loops = placed_loops kernel;
    barriers = λ p e. sym (barrier_there kernel p) ∙ e;
    histories = λ launch fits sizes buffers fit item within deeds i' h.
        let f = follows launch comes buffers item deeds i' h in
        let s = skipped kernel launch i' f.first f.beside in (
          s.item,
          record {
            own_history = h;
            history = on_to launch comes buffers item deeds i' f;
            alike = alike launch comes buffers i' f.first s;
          },
        );
    runs = λ launch fits sizes buffers fit moves run. run_alike launch comes buffers valid valid' fits moves run;
    keeps = keeps_fewer kernel;
    even = even_too comes;
    start = λ c e. live_front c kernel [] e;
    cuts = cuts_too;
    loads = λ site. fewer_loads site kernel.body;
    stores = λ site. fewer_stores site kernel.body;
    barrier_count = λ site. fewer_barriers site kernel.body;
  }
