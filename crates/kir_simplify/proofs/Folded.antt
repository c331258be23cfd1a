-- A kernel whose constants are computed beforehand does what the given one does.
use Rattle.std.proofs.Common.{◌≡◌, ℕ, zero, suc, ℤ, List, [], ◌∷◌, Option, Some}
use Rattle.std.proofs.Common.{slice_get, refl, sym, ap, ◌∙◌, subst, arith, true}
use Rattle.std.proofs.lemmas.Option.{same_Some, slice_get_within}
use Rattle.work_items.specs.Memory.{Access}
use Rattle.work_items.specs.Items.{Next, Ends, Waits, Goes, Begins, Loads, Stores, Move}
use Rattle.work_items.specs.Runs.{IsRun, world_after}
use Rattle.work_items.specs.Simulation.{GoesIn, SameLabel, both_end, both_wait, both_go, both_begin, both_load}
use Rattle.work_items.specs.Simulation.{both_store, MatchesAt, Simulates, RelatedAt, AreRelated, trace}
use Rattle.work_items.specs.Histories.{Deed, Passed, Turned, Read, Wrote, deeds_of}
use Rattle.work_items.specs.Coming.{MayLead, arrived, by_step, by_test}
use Rattle.work_items.proofs.Lists.{element_within}
use Rattle.work_items.proofs.Lift.{every_step}
use Rattle.work_items.proofs.HistoryLemmas.{history_matched}
use Rattle.cl_model.specs.Sizes.{Launch, item_count, group_of}
use Rattle.cl_model.specs.Fitting.{FitsProgram}
use Rattle.cl_model.specs.Meaning.{lengths_of, MayBeTold}
use Rattle.cl_model.specs.Values.{is_zero}
use Rattle.kir.specs.Tree.{NoLine, SetThen, LoadThen, StoreThen, ClearThen, IfThen, LoopThen, BarrierThen, Kernel}
use Rattle.kir.specs.Places.{ToAnswer, Point, Tasks, NoTask, LinesAt, AnswerAt}
use Rattle.kir.specs.Places.{begun_in, point_of}
use Rattle.kir.specs.Steps.{shell_of, Item, with_tasks, branched, answered, item_next}
use Rattle.kir.specs.Fits.{is_kernel}
use Rattle.kir.specs.Meaning.{machine_of, start_item, start_items, start_world, AnswersTo, MayAnswer, GoesOn}
use Rattle.kir.specs.Meaning.{ItemCanCome}
use Rattle.kir.specs.Meaning.{ItemHistory}
use Rattle.kir.specs.Live.{tasks_read, tasks_set}
use Rattle.kir.specs.Uniformity.{IsEven}
use Rattle.kir.specs.Matching.{SameNext, StepsTo}
use Rattle.kir.proofs.Aligned.{AlikeRun, alike_run}
use Rattle.kir.proofs.FromSteps.{length-world_after, start_is}
use Rattle.kir.proofs.ItemHistories.{item_histories}
use Rattle.kir_simplify.specs.Simple.{is_set_once}
use Rattle.kir_simplify.specs.Faithful.{StandsFor, StandAlike, RunAlike, IsFaithful}
use Rattle.kir_simplify.specs.Passes.{Known, nothing_known, known_atom, offsets_of, folded, folded_of}
use Rattle.kir_simplify.proofs.FoldedItems.{folded_tasks, AreFine, Beside, labels, start_beside, branch_beside}
use Rattle.kir_simplify.proofs.FoldedItems.{answered_beside, HoldZero}
use Rattle.kir_simplify.proofs.OffsetCells.{BindsNone, binds_none}
use Rattle.kir_simplify.proofs.FoldedLess.{or_less, atom_less, work_less, same_loads, same_stores}
use Rattle.kir_simplify.proofs.FoldedLive.{live_there}
use Rattle.kir_simplify.proofs.FoldedLess.{same_counts, barrier_there, cut_same, stop_same, keeps_fewer}

-- ---- steps with one label

pub next_alike : {S T : Type 0} {R : S → T → Type 0} {n : Next S} {m : Next T} → SameLabel R n m → SameNext n m
next_alike both_end = tt
next_alike (both_wait r) = refl
next_alike (both_go r) = tt
next_alike (both_begin r) = tt
next_alike (both_load r) = (refl, refl)
next_alike (both_store r) = (refl, refl, refl, refl)

pub may_lead : {S T : Type 0} {R : S → T → Type 0} {n : Next S} {m : Next T} (on : Access → Type 0) (t : T) →
    SameLabel R n m → MayLead on m t → (s : S) × MayLead on n s × R s t
may_lead on t both_end h = absurd h
may_lead {R = R} on t (both_wait {s = s} r) h = (s, refl, subst (λ x. R s x) h r)
may_lead {R = R} on t (both_go {s = s} r) h = (s, refl, subst (λ x. R s x) h r)
may_lead {R = R} on t (both_begin {s = s} r) h = (s, refl, subst (λ x. R s x) h r)
may_lead {R = R} on t (both_load {f = f} r) h =
    (f h.1.0, (h.0, (h.1.0, refl)), subst (λ x. R (f h.1.0) x) h.1.1 (r h.1.0))
may_lead {R = R} on t (both_store {s = s} r) h = (s, (h.0, refl), subst (λ x. R s x) h.1 r)

-- what is left behind a step that goes on
abbrev gone : {S : Type 0} → S → Next S → S
gone s (Goes after) = after
gone s _ = s

abbrev IsGoing : {S : Type 0} → Next S → Type 0
IsGoing (Goes after) = Unit {0}
IsGoing _ = ⊥

pub steps_on : {S T : Type 0} {R : S → T → Type 0} {n : Next S} {m : Next T} (lengths : ℕ → ℕ) (told : Access → List ℕ →
    Type 0) (done : List Deed) (s : S) → SameLabel R n m → StepsTo lengths told n done s →
    (t : T) × StepsTo lengths told m done t × R s t
steps_on {R = R} lengths told [] s (both_go {s = s'} {t = t} r) h = (t, refl, subst (λ x. R x t) (ap (gone s) h) r)
steps_on lengths told [] s both_end h = absurd (subst IsGoing (sym h) tt)
steps_on lengths told [] s (both_wait r) h = absurd (subst IsGoing (sym h) tt)
steps_on lengths told [] s (both_begin r) h = absurd (subst IsGoing (sym h) tt)
steps_on lengths told [] s (both_load r) h = absurd (subst IsGoing (sym h) tt)
steps_on lengths told [] s (both_store r) h = absurd (subst IsGoing (sym h) tt)
steps_on {R = R} lengths told (Passed ∷ []) s (both_wait {t = t} r) h = (t, refl, subst (λ x. R x t) h r)
steps_on {R = R} lengths told (Turned ∷ []) s (both_begin {t = t} r) h = (t, refl, subst (λ x. R x t) h r)
steps_on {R = R} lengths told (Read at read bytes ∷ []) s (both_load {g = g} r) h =
    (g bytes, (h.0, h.1, h.2, h.3, refl), subst (λ x. R x (g bytes)) h.4 (r bytes))
steps_on {R = R} lengths told (Wrote at o i bs ∷ []) s (both_store {t = t} r) h =
    (t, (h.0, h.1, h.2, h.3, h.4, refl), subst (λ x. R x t) h.5 r)
steps_on lengths told (deed ∷ []) s both_end h = absurd h
steps_on lengths told (deed ∷ []) s (both_go r) h = absurd h
steps_on lengths told (deed ∷ []) s (both_wait r) h = absurd h
steps_on lengths told (deed ∷ []) s (both_begin r) h = absurd h
steps_on lengths told (deed ∷ []) s (both_load r) h = absurd h
steps_on lengths told (deed ∷ []) s (both_store r) h = absurd h
steps_on lengths told (deed ∷ (deed' ∷ deeds)) s label h = absurd h

-- what an item has done in a run of a launch of a kernel is its history
pub done_by : (some : Kernel) (launch : Launch) (buffers : List (List ℕ)) → is_kernel some ≡ true →
    FitsProgram (shell_of some) launch → (moves : List Move) →
    IsRun (machine_of some launch) (start_world some launch buffers) moves → (item : ℕ) (i : Item)
    → slice_get (world_after (machine_of some launch) (start_world some launch buffers) moves).items item ≡ Some i
    → ItemHistory some launch buffers item
    (deeds_of (group_of launch) item (trace (machine_of some launch) (start_world some launch buffers) moves)) i
done_by some launch buffers valid fits moves run item i here =
    let within = slice_get_within (world_after (machine_of some launch) (start_world some launch buffers)
    moves).items item i here in
    let count = length-world_after (machine_of some launch) (start_world some launch buffers) moves in
    let x = element_within (start_items some 0 (item_count launch)) item (omega arith) in
    let first : slice_get (start_items some 0 (item_count launch)) item ≡ Some (start_item some item) =
    x.1 ∙ ap (λ s. Some s) (start_is some 0 (item_count launch) item x.0 x.1 ∙
    ap (start_item some) (omega arith)) in
    let h = (item_histories some launch buffers valid fits moves run).each item (start_item some item) first in
    subst (λ y. ItemHistory some launch buffers item
    (deeds_of (group_of launch) item (trace (machine_of some launch) (start_world some launch buffers) moves)) y)
    (same_Some _ _ (sym h.1 ∙ here)) h.2

module _ (kernel : Kernel) where
  abbrev simple : Kernel
  simple = folded_of kernel

  -- ---- where the two stand

  begun_same : (cells : ℕ → ℤ) (k : Tasks) (ks : List Known) → AreFine kernel cells k ks →
      begun_in (folded_tasks kernel k ks) ≡ begun_in k
  begun_same cells NoTask ks f = refl
  begun_same cells (LinesAt at lines k) [] f = absurd f
  begun_same cells (LinesAt at lines k) (known ∷ ks) f = begun_same cells k ks f.4
  begun_same cells (AnswerAt at test answer body n k) [] f = absurd f
  begun_same cells (AnswerAt at test answer body n k) (known ∷ ks) f = ap (λ ns. n ∷ ns) (begun_same cells k ks f.4)

  point_same : (cells : ℕ → ℤ) (k : Tasks) (ks : List Known) → AreFine kernel cells k ks →
      point_of (folded_tasks kernel k ks) ≡ point_of k
  point_same cells NoTask ks f = refl
  point_same cells (LinesAt at lines k) [] f = absurd f
  point_same cells (LinesAt at lines k) (known ∷ ks) f =
      ap (λ (ns : List ℕ). Some (record { at = at; begun = ns })) (begun_same cells k ks f.4)
  point_same cells (AnswerAt at test answer body n k) [] f = absurd f
  point_same cells (AnswerAt at test answer body n k) (known ∷ ks) f =
      ap (λ (ns : List ℕ). Some (record { at = ToAnswer ∷ at; begun = n ∷ ns })) (begun_same cells k ks f.4)

  stands : (i' i : Item) → Beside kernel i' i → point_of i'.tasks ≡ point_of i.tasks
  stands i' i b = ap (λ (x : Item). point_of x.tasks) b.same ∙ point_same i.cells i.tasks b.known b.fine

  cells_same : (i' i : Item) → Beside kernel i' i → i'.cells ≡ i.cells
  cells_same i' i b = ap (λ (x : Item). x.cells) b.same

  -- ---- what the first line reads and sets

  reads_less : (c : ℕ) (cells : ℕ → ℤ) (k : Tasks) (ks : List Known) → AreFine kernel cells k ks →
      tasks_read c (folded_tasks kernel k ks) ≡ true → tasks_read c k ≡ true
  reads_less c cells NoTask ks f e = e
  reads_less c cells (LinesAt at lines k) [] f e = absurd f
  reads_less c cells (LinesAt at NoLine k) (known ∷ ks) f e = e
  reads_less c cells (LinesAt at (SetThen to work rest) k) (known ∷ ks) f e =
      work_less c known (λ d a is. (f.0 d a is).0) work e
  reads_less c cells (LinesAt at (LoadThen site to element root index rest) k) (known ∷ ks) f e =
      atom_less c known (λ d a is. (f.0 d a is).0) index e
  reads_less c cells (LinesAt at (StoreThen site element root index from rest) k) (known ∷ ks) f e =
      or_less _ _ _ _ (atom_less c known (λ d a is. (f.0 d a is).0) index)
      (atom_less c known (λ d a is. (f.0 d a is).0) from) e
  reads_less c cells (LinesAt at (ClearThen array rest) k) (known ∷ ks) f e = e
  reads_less c cells (LinesAt at (IfThen site test chosen other rest) k) (known ∷ ks) f e =
      atom_less c known (λ d a is. (f.0 d a is).0) test e
  reads_less c cells (LinesAt at (LoopThen site test_first test answer body rest) k) (known ∷ ks) f e = e
  reads_less c cells (LinesAt at (BarrierThen site rest) k) (known ∷ ks) f e = e
  reads_less c cells (AnswerAt at test answer body n k) [] f e = absurd f
  reads_less c cells (AnswerAt at test answer body n k) (known ∷ ks) f e =
      atom_less c known (λ d a is. (f.0 d a is).0) answer e

  sets_same : (c : ℕ) (cells : ℕ → ℤ) (k : Tasks) (ks : List Known) → AreFine kernel cells k ks →
      tasks_set c (folded_tasks kernel k ks) ≡ tasks_set c k
  sets_same c cells NoTask ks f = refl
  sets_same c cells (LinesAt at lines k) [] f = absurd f
  sets_same c cells (LinesAt at NoLine k) (known ∷ ks) f = refl
  sets_same c cells (LinesAt at (SetThen to work rest) k) (known ∷ ks) f = refl
  sets_same c cells (LinesAt at (LoadThen site to element root index rest) k) (known ∷ ks) f = refl
  sets_same c cells (LinesAt at (StoreThen site element root index from rest) k) (known ∷ ks) f = refl
  sets_same c cells (LinesAt at (ClearThen array rest) k) (known ∷ ks) f = refl
  sets_same c cells (LinesAt at (IfThen site test chosen other rest) k) (known ∷ ks) f = refl
  sets_same c cells (LinesAt at (LoopThen site test_first test answer body rest) k) (known ∷ ks) f = refl
  sets_same c cells (LinesAt at (BarrierThen site rest) k) (known ∷ ks) f = refl
  sets_same c cells (AnswerAt at test answer body n k) [] f = absurd f
  sets_same c cells (AnswerAt at test answer body n k) (known ∷ ks) f = refl

  reads_there : (c : ℕ) (i' i : Item) → Beside kernel i' i → tasks_read c i'.tasks ≡ true →
      tasks_read c i.tasks ≡ true
  reads_there c i' i b e =
      reads_less c i.cells i.tasks b.known b.fine (sym (ap (λ (x : Item). tasks_read c x.tasks) b.same) ∙ e)

  sets_there : (c : ℕ) (i' i : Item) → Beside kernel i' i → tasks_set c i'.tasks ≡ true → tasks_set c i.tasks ≡ true
  sets_there c i' i b e =
      sym (sets_same c i.cells i.tasks b.known b.fine) ∙
      (sym (ap (λ (x : Item). tasks_set c x.tasks) b.same) ∙ e)

  module _ (launch : Launch) (binds : BindsNone kernel launch) where
    -- ---- a simulation

    matched : (i' i : Item) → Beside kernel i' i → (n : Next Item) (m : Next Item) → item_next kernel launch i ≡ m →
        SameLabel (Beside kernel) n m
        → (k : ℕ) × (t : Item) × GoesIn (item_next kernel launch) k i t ×
        MatchesAt (machine_of kernel launch) (Beside kernel) (point_of i'.tasks) n t
    matched i' i b _ _ e (both_go {t = t} r) = (1, t, (t, e, refl), r)
    matched i' i b _ _ e both_end =
        (0, i, refl, (subst (λ z. SameLabel (Beside kernel) Ends z) (sym e) both_end, λ w. absurd w))
    matched i' i b _ _ e (both_wait {site = site} {s = s} r) = (
      0,
      i,
      refl,
      (
        subst (λ z. SameLabel (Beside kernel) (Waits site s) z) (sym e) (both_wait r),
        λ w. sym (stands i' i b),
      ),
    )
    matched i' i b _ _ e (both_begin {s = s} r) =
        (0, i, refl, (subst (λ z. SameLabel (Beside kernel) (Begins s) z) (sym e) (both_begin r), λ w. absurd w))
    matched i' i b _ _ e (both_load {site = site} {access = access} {f = f} r) = (
      0,
      i,
      refl,
      (subst (λ z. SameLabel (Beside kernel) (Loads site access f) z) (sym e) (both_load r), λ w. absurd w),
    )
    matched i' i b _ _ e (both_store {site = site} {object = object} {index = index} {bytes = bytes} {s = s} r) = (
      0,
      i,
      refl,
      (
        subst (λ z. SameLabel (Beside kernel) (Stores site object index bytes s) z) (sym e) (both_store r),
        λ w. absurd w,
      ),
    )

    simulates : Simulates (machine_of simple launch) (machine_of kernel launch) (λ p. p) (Beside kernel)
    simulates = record {
      same_group = λ item. refl;
      matches = λ i' i b. matched i' i b (item_next simple launch i') (item_next kernel launch i) refl
          (labels kernel launch binds i' i b);
    }

    -- ---- where they can come to

    branch_answers : (i : Item) (t : Tasks) (ks : List Known) (v : ℤ) (k : Tasks) (to : Item) →
        HoldZero kernel i.cells → AreFine kernel i.cells k ks → AnswersTo v i k to
        → (to' : Item) × AnswersTo v (with_tasks i t) (folded_tasks kernel k ks) to' × Beside kernel to' to
    branch_answers i t ks v NoTask to held f h = absurd h
    branch_answers i t [] v (LinesAt at lines k) to held f h = absurd f
    branch_answers i t (known ∷ ks) v (LinesAt at (IfThen site test chosen other rest) k) to held f h = (
      with_tasks (with_tasks i t)
          (branched v at (folded (is_set_once kernel) (offsets_of kernel) known chosen) (folded (is_set_once kernel)
          (offsets_of kernel) known other)
          (folded (is_set_once kernel) (offsets_of kernel) known rest) (folded_tasks kernel k ks)),
      refl,
      subst (λ x. Beside kernel (with_tasks (with_tasks i t)
          (branched v at (folded (is_set_once kernel) (offsets_of kernel) known chosen) (folded (is_set_once kernel)
          (offsets_of kernel) known other)
          (folded (is_set_once kernel) (offsets_of kernel) known rest) (folded_tasks kernel k ks))) x) h
          (branch_beside kernel launch binds i t at chosen other rest k known ks held f.0
          (λ c a e not. let all = f.1 c a e not in omega arith) ((λ c. let all = f.2.0 c in omega arith), f.2.1.0)
          (λ c a e not. let all = f.1 c a e not in omega arith) ((λ c. let all = f.2.0 c in omega arith), f.2.1.1)
          (λ c a e not. let all = f.1 c a e not in omega arith) ((λ c. let all = f.2.0 c in omega arith), f.2.1.2)
          f.3 f.4 (is_zero v)),
    )
    branch_answers i t (known ∷ ks) v (LinesAt at NoLine k) to held f h = absurd h
    branch_answers i t (known ∷ ks) v (LinesAt at (SetThen c work rest) k) to held f h = absurd h
    branch_answers i t (known ∷ ks) v (LinesAt at (LoadThen site c element root index rest) k) to held f h = absurd h
    branch_answers i t (known ∷ ks) v (LinesAt at (StoreThen site element root index from rest) k) to held f h =
        absurd h
    branch_answers i t (known ∷ ks) v (LinesAt at (ClearThen array rest) k) to held f h = absurd h
    branch_answers i t (known ∷ ks) v (LinesAt at (LoopThen site first test answer body rest) k) to held f h = absurd h
    branch_answers i t (known ∷ ks) v (LinesAt at (BarrierThen site rest) k) to held f h = absurd h
    branch_answers i t [] v (AnswerAt at test answer body n k) to held f h = absurd f
    branch_answers i t (known ∷ ks) v (AnswerAt at test answer body n k) to held f h = (
      with_tasks (with_tasks i t)
          (answered v at (folded (is_set_once kernel) (offsets_of kernel) known test) (known_atom known answer)
          (folded (is_set_once kernel) (offsets_of kernel) known body) n (folded_tasks kernel k ks)),
      refl,
      subst (λ x. Beside kernel (with_tasks (with_tasks i t)
          (answered v at (folded (is_set_once kernel) (offsets_of kernel) known test) (known_atom known answer)
          (folded (is_set_once kernel) (offsets_of kernel) known body) n (folded_tasks kernel k ks))) x) h
          (answered_beside kernel launch binds i t at test answer body n k known ks held f (is_zero v)),
    )

    answers_too : (i' i to : Item) → Beside kernel i' i → MayAnswer i to →
        (to' : Item) × MayAnswer i' to' × Beside kernel to' to
    answers_too i' i to b m =
        let r = branch_answers i (folded_tasks kernel i.tasks b.known) b.known m.0 i.tasks to b.zero b.fine m.1 in
        (r.0, (m.0, subst (λ (x : Item). AnswersTo m.0 x x.tasks r.0) (sym b.same) r.1), r.2)

    comes_too : (p : Option Point) (i' i : Item) → Beside kernel i' i → ItemCanCome kernel launch i p →
        ItemCanCome simple launch i' p
    comes_too p i' i b arrived = subst (λ q. ItemCanCome simple launch i' q) (stands i' i b) arrived
    comes_too p i' i b (by_step {after = after} m c) =
        let r = may_lead GoesOn after (labels kernel launch binds i' i b) m in
        by_step r.1 (comes_too p r.0 after r.2 c)
    comes_too p i' i b (by_test {after = after} m c) =
        let r = answers_too i' i after b m in
        by_test r.1 (comes_too p r.0 after r.2 c)

    -- ---- they stand alike

    module _ (buffers : List (List ℕ)) where
      alike : (i' i : Item) → Beside kernel i' i → StandAlike kernel simple (λ at. at) launch buffers i' i
      alike i' i b = record {
        same_next = next_alike (labels kernel launch binds i' i b);
        waits = λ w. for;
        parting = λ point is never come. never (comes_too (Some point) i' i b come);
        reads = λ c is e. (for, reads_there c i' i b e, ap (λ (cells : ℕ → ℤ). cells c) (cells_same i' i b));
        sets = λ c is e. (for, sets_there c i' i b e);
        sets_value = λ c is e done s' steps.
            let r = steps_on (lengths_of (shell_of kernel) launch buffers) (MayBeTold (shell_of kernel) launch
            buffers) done s' (labels kernel launch binds i' i b) steps in
            (r.0, r.1, ap (λ (cells : ℕ → ℤ). cells c) (cells_same s' r.0 r.2));
      }
        where
          for : StandsFor (λ at. at) i' i
          for point is = sym (stands i' i b) ∙ is

      history : (item : ℕ) (deeds : List Deed) (i' : Item) → ItemHistory simple launch buffers item deeds i' →
          (i : Item) × ItemHistory kernel launch buffers item deeds i × Beside kernel i' i
      history item deeds i' h = history_matched (machine_of simple launch) (machine_of kernel launch) (λ p. p)
          (λ n. Beside kernel) (every_step simulates) (lengths_of (shell_of kernel) launch buffers)
          (MayBeTold (shell_of kernel) launch buffers) 0 (start_item simple item) deeds i' (start_item kernel item) h
          (start_beside kernel item)

      -- ---- histories and runs

      related : (n : ℕ) → AreRelated (Beside kernel) (start_world simple launch buffers)
          (start_world kernel launch buffers)
      related n = record {
        memory = refl;
        fault = refl;
        items = λ calm item. starts 0 (item_count launch) item;
      }
        where
          starts : (first count k : ℕ) → RelatedAt (Beside kernel) (slice_get (start_items simple first count) k)
              (slice_get (start_items kernel first count) k)
          starts first zero k = tt
          starts first (suc count) zero = start_beside kernel first
          starts first (suc count) (suc k) = starts (suc first) count k

      run_alike : is_kernel kernel ≡ true → is_kernel simple ≡ true → FitsProgram (shell_of kernel) launch →
          (moves : List Move) → IsRun (machine_of simple launch) (start_world simple launch buffers) moves →
          RunAlike kernel simple (λ at. at) launch buffers moves
      run_alike valid valid' fits moves run = record {
        seen_alike = r.seen;
        each = λ item i' i here there. record {
          own_history = done_by simple launch buffers valid' fits moves run item i' here;
          history = subst (λ es. ItemHistory kernel launch buffers item (deeds_of (group_of launch) item es) i)
              r.seen.same_trace (done_by kernel launch buffers valid fits r.seen.moves' r.seen.run item i there);
          alike = r.each item i' i here there;
        };
      }
        where
          r : AlikeRun (machine_of simple launch) (machine_of kernel launch) (λ p. p) (λ n. Beside kernel)
              (every_step simulates) (StandAlike kernel simple (λ at. at) launch buffers)
              (λ n s t b. (0, t, refl, alike s t b)) (λ s t a. a.same_next) (start_world simple launch buffers)
              (start_world kernel launch buffers) related moves
          r = alike_run (machine_of simple launch) (machine_of kernel launch) (λ p. p) (λ n. Beside kernel)
              (every_step simulates) (StandAlike kernel simple (λ at. at) launch buffers)
              (λ n s t b. (0, t, refl, alike s t b)) (λ s t a. a.same_next) (start_world simple launch buffers)
              (start_world kernel launch buffers) related refl moves run

  -- ---- evenness

  -- what is left to do at a place, folded
  even_too : (c : ℕ) → IsEven kernel (λ d. d ≡ c) → IsEven simple (λ d. d ≡ c)
  even_too c even launch fits buffers fit one other a b group deeds deeds' i' j' h h' point p p' stop d is live =
      let x = history launch (binds_none kernel launch fits) buffers one deeds i' h in
      let y = history launch (binds_none kernel launch fits) buffers other deeds' j' h' in
      let mine = ap (λ (cells : ℕ → ℤ). cells d) (cells_same i' x.0 x.2) in
      let its = ap (λ (cells : ℕ → ℤ). cells d) (cells_same j' y.0 y.2) in
      mine ∙ (even launch fits buffers fit one other a b group deeds deeds' x.0 y.0 x.1 y.1 point
      (sym (stands i' x.0 x.2) ∙ p) (sym (stands j' y.0 y.2) ∙ p')
      (sym (stop_same (is_set_once kernel) (offsets_of kernel) kernel.body point.at) ∙ stop) d is
      (live_there kernel point.at d live) ∙ sym its)

  -- ---- all of it

  pub folded_faithful : is_kernel kernel ≡ true → is_kernel simple ≡ true → IsFaithful kernel simple
  folded_faithful valid valid' = record {
    kept = refl;
    place = λ at. at;
    loops = λ at. refl;
    barriers = λ at e. sym (barrier_there (is_set_once kernel) (offsets_of kernel) kernel.body at) ∙ e;
    histories = λ launch fits sizes buffers fit item within deeds i' h.
        let x = history launch (binds_none kernel launch fits) buffers item deeds i' h in (
          x.0,
          record {
            own_history = h;
            history = x.1;
            alike = alike launch
                (binds_none kernel launch fits) buffers i' x.0 x.2;
          },
        );
    runs = λ launch fits sizes buffers fit moves run. run_alike launch
        (binds_none kernel launch fits) buffers valid valid' fits moves run;
    keeps = keeps_fewer kernel;
    even = λ c is even. even_too c even;
    start = λ c e. live_there kernel [] c e;
    cuts = λ at cut. (
      at,
      sym (cut_same (is_set_once kernel) (offsets_of kernel) kernel.body at) ∙ cut,
      λ c live. live_there kernel at c live,
    );
    loads = λ site. let same = same_loads (is_set_once kernel) (offsets_of kernel) site nothing_known kernel.body in
        omega arith;
    stores = λ site. let same = same_stores (is_set_once kernel) (offsets_of kernel) site nothing_known kernel.body in
        omega arith;
    barrier_count = λ site. let same = same_counts (is_set_once kernel)
        (offsets_of kernel) site nothing_known kernel.body in omega arith;
  }
