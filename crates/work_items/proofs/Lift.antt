-- Each run of a machine is matched by a run of one that simulates it.
use Rattle.std.proofs.Common.{◌≡◌, ◌≢◌, ◌⊎◌, ℕ, suc, ◌+◌, ◌<◌, cond, List, [], ◌∷◌, ◌++◌, length, Option, Some, None}
use Rattle.std.proofs.Common.{slice_get, slice_set, option_map, refl, sym, ap, ◌∙◌, subst, inl, inr, arith, eq-eqb}
use Rattle.std.proofs.Common.{append-nil}
use Rattle.std.proofs.lemmas.Bool.{cases_eq, cases_lt}
use Rattle.std.proofs.lemmas.Option.{slice_get_within, slice_get_past, none-some, same_Some}
use Rattle.work_items.specs.Memory.{Memory, loaded}
use Rattle.work_items.specs.Items.{Fault, Next, Ends, Waits, Goes, Begins, Loads, Stores, Machine, World, Move, Step}
use Rattle.work_items.specs.Items.{Release, HasStep, HasEnded, IsWaiting, fault_of, memory_after, state_after}
use Rattle.work_items.specs.Items.{after_wait, IsGathered, IsPossible, released, released_from, after_step}
use Rattle.work_items.specs.Items.{after_step_of, moved}
use Rattle.work_items.specs.Runs.{world_after, IsRun, turns, turns_of, turns_of_step, turns_of_move}
use Rattle.work_items.specs.Clean.{ExceedsTurns, IsRange, IsDone, IsParted, WaitsAt}
use Rattle.work_items.specs.Simulation.{trace, events_of, events_of_step, events_of_next, events_of_access, GoesIn}
use Rattle.work_items.specs.Simulation.{SameLabel, both_end, both_wait, both_go, both_begin, both_load, both_store}
use Rattle.work_items.specs.Simulation.{MatchesAt, Simulates, SimulatesFor, moves_and, RelatedAt, AreRelated}
use Rattle.work_items.specs.Simulation.{IsMatched, HasOutcomesOf}
use Rattle.work_items.proofs.Lists.{get-set_same, get-set_other, element_within}
use Rattle.work_items.proofs.Diamond.{moved-step, get-released_from, released_other}
use Rattle.work_items.proofs.Agree.{IsRun-append, world_after-append, turns-append}
use Rattle.work_items.proofs.Quietly.{Unseen, unseen_then, with_item, go_run, Gathers, gather, trace-append}

-- what two steps with one label have in common
same_fault : {S T : Type 0} {R : S → T → Type 0} {n : Next S} {n' : Next T} (m : Memory) → SameLabel R n n' →
    fault_of m n' ≡ fault_of m n
same_fault m both_end = refl
same_fault m (both_wait r) = refl
same_fault m (both_go r) = refl
same_fault m (both_begin r) = refl
same_fault m (both_load r) = refl
same_fault m (both_store r) = refl

same_memory : {S T : Type 0} {R : S → T → Type 0} {n : Next S} {n' : Next T} (m : Memory) → SameLabel R n n' →
    memory_after m n' ≡ memory_after m n
same_memory m both_end = refl
same_memory m (both_wait r) = refl
same_memory m (both_go r) = refl
same_memory m (both_begin r) = refl
same_memory m (both_load r) = refl
same_memory m (both_store r) = refl

same_events : {S T : Type 0} {R : S → T → Type 0} {n : Next S} {n' : Next T} (m : Memory) (i : ℕ) → SameLabel R n n' →
    events_of_next m i n' ≡ events_of_next m i n
same_events m i both_end = refl
same_events m i (both_wait r) = refl
same_events m i (both_go r) = refl
same_events m i (both_begin r) = refl
same_events m i (both_load r) = refl
same_events m i (both_store r) = refl

same_turns_of : {S T : Type 0} {R : S → T → Type 0} {n : Next S} {n' : Next T} → SameLabel R n n' →
    turns_of n' ≡ turns_of n
same_turns_of both_end = refl
same_turns_of (both_wait r) = refl
same_turns_of (both_go r) = refl
same_turns_of (both_begin r) = refl
same_turns_of (both_load r) = refl
same_turns_of (both_store r) = refl

same_step : {S T : Type 0} {R : S → T → Type 0} {n : Next S} {n' : Next T} → SameLabel R n n' → HasStep n → HasStep n'
same_step both_end h = h
same_step (both_wait r) h = h
same_step (both_go r) h = h
same_step (both_begin r) h = h
same_step (both_load r) h = h
same_step (both_store r) h = h

same_wait : {S T : Type 0} {R : S → T → Type 0} {n : Next S} {n' : Next T} → SameLabel R n n' → IsWaiting n →
    IsWaiting n'
same_wait both_end h = h
same_wait (both_wait r) h = h
same_wait (both_go r) h = h
same_wait (both_begin r) h = h
same_wait (both_load r) h = h
same_wait (both_store r) h = h

same_wait_at : {S T : Type 0} {R : S → T → Type 0} {n : Next S} {n' : Next T} (site : ℕ) → SameLabel R n n' →
    WaitsAt site n → WaitsAt site n'
same_wait_at site both_end h = h
same_wait_at site (both_wait r) h = h
same_wait_at site (both_go r) h = h
same_wait_at site (both_begin r) h = h
same_wait_at site (both_load r) h = h
same_wait_at site (both_store r) h = h

same_ended : {S T : Type 0} {R : S → T → Type 0} {n : Next S} {n' : Next T} → SameLabel R n n' → HasEnded n →
    HasEnded n'
same_ended both_end h = h
same_ended (both_wait r) h = h
same_ended (both_go r) h = h
same_ended (both_begin r) h = h
same_ended (both_load r) h = h
same_ended (both_store r) h = h

related_after : {S T : Type 0} {R : S → T → Type 0} {n : Next S} {n' : Next T} (m : Memory) (s : S) (t : T) →
    SameLabel R n n' → HasStep n → R (state_after m s n) (state_after m t n')
related_after m s t both_end h = absurd h
related_after m s t (both_wait r) h = absurd h
related_after m s t (both_go r) h = r
related_after m s t (both_begin r) h = r
related_after m s t (both_load {access = access} r) h = r (loaded m access)
related_after m s t (both_store r) h = r

related_released : {S T : Type 0} {R : S → T → Type 0} {n : Next S} {n' : Next T} (s : S) (t : T) → SameLabel R n n' →
    IsWaiting n → R (after_wait s n) (after_wait t n')
related_released s t both_end h = absurd h
related_released s t (both_wait r) h = r
related_released s t (both_go r) h = absurd h
related_released s t (both_begin r) h = absurd h
related_released s t (both_load r) h = absurd h
related_released s t (both_store r) h = absurd h

-- a related item on the other side
related_to : {S T : Type 0} (R : S → T → Type 0) (o : Option S) (o' : Option T) (s : S) → RelatedAt R o o' →
    o ≡ Some s → (t : T) × (o' ≡ Some t) × R s t
related_to R (Some x) (Some t) s r e = let same : x ≡ s = same_Some x s e in (t, refl, subst (λ y. R y t) same r)
related_to R (Some x) None s r e = absurd r
related_to R None (Some t) s r e = absurd r
related_to R None None s r e = absurd (none-some s e)

related_from : {S T : Type 0} (R : S → T → Type 0) (o : Option S) (o' : Option T) (t : T) → RelatedAt R o o' →
    o' ≡ Some t → (s : S) × (o ≡ Some s) × R s t
related_from R (Some s) (Some x) t r e = let same : x ≡ t = same_Some x t e in (s, refl, subst (λ y. R s y) same r)
related_from R (Some s) None t r e = absurd r
related_from R None (Some x) t r e = absurd r
related_from R None None t r e = absurd (none-some t e)

related_at : {S T : Type 0} (R : S → T → Type 0) (o : Option S) (o' : Option T) (s : S) (t : T) → o ≡ Some s →
    o' ≡ Some t → R s t → RelatedAt R o o'
related_at R o o' s t e f r = subst (λ x. RelatedAt R x o') (sym e) (subst (λ y. RelatedAt R (Some s) y) (sym f) r)

-- what a step that doesn't go is matched by
pub labelled : {S T Q : Type 0} (machine : Machine T Q) (R : S → T → Type 0) (point : Q) (n : Next S) (t : T) →
    MatchesAt machine R point n t →
    (n ≡ n) × (((after : S) × (n ≡ Goes after) × R after t) ⊎
    (SameLabel R n (machine.next t) × (IsWaiting n → machine.point t ≡ point)))
labelled machine R point (Goes after) t m = (refl, inl (after, refl, m))
labelled machine R point Ends t m = (refl, inr m)
labelled machine R point (Waits site after) t m = (refl, inr m)
labelled machine R point (Begins after) t m = (refl, inr m)
labelled machine R point (Loads site access after) t m = (refl, inr m)
labelled machine R point (Stores site object index bytes after) t m = (refl, inr m)

-- the world after a step, where its access is in range and where it is not
moved_by : {S P : Type 0} (machine : Machine S P) (world : World S) (item : ℕ) (state : S) →
    slice_get world.items item ≡ Some state →
    moved machine world (Step item) ≡ after_step machine world item state (fault_of world.memory (machine.next state))
moved_by machine world item state e = ap (after_step_of machine world item) e

none_related : {S T : Type 0} (R : S → T → Type 0) (o : Option S) (o' : Option T) → RelatedAt R o o' → o' ≡ None →
    o ≡ None
none_related R None o' r e = refl
none_related R (Some s) None r e = absurd r
none_related R (Some s) (Some t) r e = absurd (none-some t (sym e))

pub get-released : {S P : Type 0} (machine : Machine S P) (group : ℕ) (items : List S) (k : ℕ) →
    slice_get (released_from machine group 0 items) k ≡ option_map (released machine group k) (slice_get items k)
get-released machine group items k = let e : 0 + k ≡ k = omega arith in get-released_from machine group 0 items k ∙
    ap (λ n. option_map (released machine group n) (slice_get items k)) e

pub released_in : {S P : Type 0} (machine : Machine S P) (group item : ℕ) (s : S) → machine.group item ≡ group →
    released machine group item s ≡ after_wait s (machine.next s)
released_in machine group item s e = ap (λ b. cond b (after_wait s (machine.next s)) s) (eq-eqb _ _ e)

-- a place past the end of one list is past the end of another as long
past_too : {A : Type 0} (xs ys : List A) (k : ℕ) → length xs ≡ length ys → slice_get xs k ≡ None → slice_get ys k ≡ None
past_too xs ys k same e = elim (cases_lt k (length xs)) [
  | inl within ↦ let here = element_within xs k within in absurd (none-some here.0 (sym e ∙ here.1))
  | inr past ↦ slice_get_past ys k (omega arith)
]

goes_no_wait : {S : Type 0} (n : Next S) (after : S) → n ≡ Goes after → IsWaiting n → ⊥
goes_no_wait n after e w = subst (λ n. IsWaiting n) e w

-- what is related is related for fewer moves
fewer_at : {S T : Type 0} (R R' : S → T → Type 0) → ((s : S) (t : T) → R s t → R' s t) →
    (o : Option S) (o' : Option T) → RelatedAt R o o' → RelatedAt R' o o'
fewer_at R R' f (Some s) (Some t) r = f s t r
fewer_at R R' f None None r = r
fewer_at R R' f (Some s) None r = absurd r
fewer_at R R' f None (Some t) r = absurd r

-- what is related for one move more leads, by that move, to what is related for one move fewer
module _ {S P T Q : Type 0} (machine : Machine S P) (other : Machine T Q) (point_of : P → Q) (From To : S → T →
    Type 0) (same_group : (item : ℕ) → other.group item ≡ machine.group item) (fewer : (s : S) (t : T) → From s t →
    To s t)
    (match : (s : S) (t : T) → From s t → (n : ℕ) × (t' : T) × GoesIn other.next n t t' ×
    MatchesAt other To (point_of (machine.point s)) (machine.next s) t') where
  less : (o : Option S) (o' : Option T) → RelatedAt From o o' → RelatedAt To o o'
  less = fewer_at From To fewer

  -- moves that match one
  record Answers (world : World S) (move : Move) (world' : World T) : Type 0 where
    moves : List Move
    run : IsRun other world' moves
    related : AreRelated To (moved machine world move) (world_after other world' moves)
    same_trace : trace other world' moves ≡ events_of machine world move
    same_turns : turns other world' moves ≡ turns_of_move machine world move

  -- after unseen moves, one move
  then_move : (world : World S) (move : Move) (a b : World T) → Unseen other a b → (m : Move) → IsPossible other b m →
      AreRelated To (moved machine world move) (moved other b m)
      → events_of other b m ≡ events_of machine world move →
      turns_of_move other b m ≡ turns_of_move machine world move → Answers world move a
  then_move world move a b u m p r e t = record {
    moves = u.moves ++ m ∷ [];
    run = IsRun-append other a u.moves (m ∷ []) u.run (subst (λ w. IsPossible other w m) (sym u.end) p, tt);
    related = subst (λ w. AreRelated To (moved machine world move) w)
        (sym (world_after-append other a u.moves (m ∷ []) ∙ ap (λ w. moved other w m) u.end)) r;
    same_trace =
        trace-append other a u.moves (m ∷ []) ∙
        ap (λ es. es ++ trace other (world_after other a u.moves) (m ∷ [])) u.silent
        ∙ ap (λ w. events_of other w m ++ []) u.end ∙ append-nil (events_of other b m) ∙ e;
    same_turns =
        let split = turns-append other a u.moves (m ∷ []) in
        let none = u.no_turns in
        let last = ap (λ w. turns_of_move other w m) u.end in
        omega arith;
  }

  -- the items after a change of one on each side
  items_related : (items : List S) (items' : List T) (i : ℕ) (s x : S) (t y : T) → slice_get items i ≡ Some s →
      slice_get items' i ≡ Some t → ((k : ℕ) → RelatedAt From (slice_get items k) (slice_get items' k)) → To x y
      → (k : ℕ) → RelatedAt To (slice_get (slice_set items i x) k) (slice_get (slice_set items' i y) k)
  items_related items items' i s x t y at at' rel r k = elim (cases_eq i k) [
    | inl e ↦ subst (λ k. RelatedAt To (slice_get (slice_set items i x) k) (slice_get (slice_set items' i y) k)) e
        (related_at To _ _ x y (get-set_same items i s x at) (get-set_same items' i t y at') r)
    | inr ne ↦ subst (λ o. RelatedAt To o (slice_get (slice_set items' i y) k)) (sym (get-set_other items i k x ne))
        (subst (λ o. RelatedAt To (slice_get items k) o) (sym (get-set_other items' i k y ne)) (less _ _ (rel k)))
  ]

  -- a step with no access is matched by unseen ones
  step_goes : (world : World S) (i : ℕ) (s after : S) (world' : World T) (t t' : T) (n : ℕ) →
      AreRelated From world world' → world.fault ≡ None → slice_get world.items i ≡ Some s →
      slice_get world'.items i ≡ Some t
      → GoesIn other.next n t t' → machine.next s ≡ Goes after → To after t' → Answers world (Step i) world'
  step_goes world i s after world' t t' n rel calm at at' goes is r =
      let u = go_run other n world' i t t' (rel.fault ∙ calm) at' goes in
      let step = moved-step machine world i s at (ap (fault_of world.memory) is) in
      record {
        moves = u.moves;
        run = u.run;
        related = subst (λ w. AreRelated To (moved machine world (Step i)) w) (sym u.end)
            (subst (λ w. AreRelated To w (with_item world' i t')) (sym step)
            (record {
              memory = rel.memory ∙ sym (ap (memory_after world.memory) is);
              fault = rel.fault;
              items = λ none. items_related world.items world'.items i s _ t t' at at' (rel.items calm)
                  (subst (λ n. To (state_after world.memory s n) t') (sym is) r);
            }));
        same_trace = u.silent ∙ sym (ap (events_of_step machine world.memory i) at ∙
            ap (λ n. events_of_access i (events_of_next world.memory i n) (fault_of world.memory n)) is);
        same_turns = u.no_turns ∙ sym (ap (turns_of_step machine) at ∙ ap turns_of is);
      }

  -- the worlds after steps with one label
  after_related : (world : World S) (i : ℕ) (s : S) (world' : World T) (t : T) → world'.memory ≡ world.memory →
      world'.fault ≡ world.fault → slice_get world.items i ≡ Some s → slice_get world'.items i ≡ Some t
      → ((k : ℕ) → i ≢ k → RelatedAt To (slice_get world.items k) (slice_get world'.items k)) →
      SameLabel To (machine.next s) (other.next t) → HasStep (machine.next s)
      → (o : Option ℕ) → AreRelated To (after_step machine world i s o) (after_step other world' i t o)
  after_related world i s world' t mem fault at at' rel label step None = record {
    memory = ap (λ m. memory_after m (other.next t)) mem ∙ same_memory world.memory label;
    fault = fault;
    items = λ none k. elim (cases_eq i k) [
      | inl e ↦
          subst (λ k. RelatedAt To (slice_get (slice_set world.items i (state_after world.memory s (machine.next s)))
          k) (slice_get (slice_set world'.items i (state_after world'.memory t (other.next t))) k)) e
          (related_at To _ _ _ _ (get-set_same world.items i s _ at) (get-set_same world'.items i t _ at')
          (subst (λ m. To (state_after world.memory s (machine.next s)) (state_after m t (other.next t)))
          (sym mem) (related_after world.memory s t label step)))
      | inr ne ↦
          subst (λ o. RelatedAt To o (slice_get
          (slice_set world'.items i (state_after world'.memory t (other.next t))) k))
          (sym (get-set_other world.items i k _ ne))
          (subst (λ o. RelatedAt To (slice_get world.items k) o) (sym (get-set_other world'.items i k _ ne)) (rel k ne))
    ];
  }
  after_related world i s world' t mem fault at at' rel label step (Some site) =
      record { memory = mem; fault = refl; items = λ none. absurd (none-some _ (sym none)) }

  step_labelled : (world : World S) (i : ℕ) (s : S) (world' : World T) (t t' : T) (n : ℕ) →
      AreRelated From world world' → world.fault ≡ None → slice_get world.items i ≡ Some s →
      slice_get world'.items i ≡ Some t
      → GoesIn other.next n t t' → SameLabel To (machine.next s) (other.next t') → HasStep (machine.next s) →
      Answers world (Step i) world'
  step_labelled world i s world' t t' n rel calm at at' goes label step =
      let u = go_run other n world' i t t' (rel.fault ∙ calm) at' goes in
      let mid : World T = with_item world' i t' in
      let here : slice_get mid.items i ≡ Some t' = get-set_same world'.items i t t' at' in
      let faults : fault_of mid.memory (other.next t') ≡ fault_of world.memory (machine.next s) =
      ap (λ m. fault_of m (other.next t')) rel.memory ∙ same_fault world.memory label in
      let other_items : (k : ℕ) → i ≢ k → RelatedAt To (slice_get world.items k) (slice_get mid.items k) =
      λ k ne. subst (λ o. RelatedAt To (slice_get world.items k) o) (sym (get-set_other world'.items i k t' ne))
      (less _ _ (rel.items calm k)) in
      let after = after_related world i s mid t' rel.memory rel.fault at here other_items label step
      (fault_of world.memory (machine.next s)) in
      let moved_here = moved_by machine world i s at in
      let moved_there = moved_by other mid i t' here ∙ ap (after_step other mid i t') faults in
      then_move world (Step i) world' mid u (Step i) (rel.fault ∙ calm, (t', here, same_step label step))
      (subst (λ w. AreRelated To w (moved other mid (Step i))) (sym moved_here)
      (subst (λ w. AreRelated To (after_step machine world i s (fault_of world.memory (machine.next s))) w)
      (sym moved_there) after))
      (ap (events_of_step other mid.memory i) here ∙
      ap (events_of_access i (events_of_next mid.memory i (other.next t'))) faults
      ∙ ap (λ es. events_of_access i es (fault_of world.memory (machine.next s)))
      (ap (λ m. events_of_next m i (other.next t')) rel.memory ∙ same_events world.memory i label)
      ∙ sym (ap (events_of_step machine world.memory i) at))
      (ap (turns_of_step other) here ∙ same_turns_of label ∙ sym (ap (turns_of_step machine) at))

  -- a step of an item
  step_answers : (world : World S) (i : ℕ) (world' : World T) → AreRelated From world world' →
      IsPossible machine world (Step i) → Answers world (Step i) world'
  step_answers world i world' rel p =
      let found = related_to From (slice_get world.items i) (slice_get world'.items i) p.1.0 (rel.items p.0 i) p.1.1 in
      let matched = match p.1.0 found.0 found.2 in
      elim (labelled other To (point_of (machine.point p.1.0)) (machine.next p.1.0) matched.1 matched.3).1 [
        | inl goes ↦ step_goes world i p.1.0 goes.0 world' found.0 matched.1 matched.0 rel p.0 p.1.1 found.1 matched.2
            goes.1 goes.2
        | inr label ↦ step_labelled world i p.1.0 world' found.0 matched.1 matched.0 rel p.0 p.1.1 found.1 matched.2
            label.0 p.1.2
      ]

  -- the item is ready for the release of the group, where it is one of it, and else related
  Ready : World S → ℕ → P → ℕ → T → Type 0
  Ready world g point i t = (s : S) × (slice_get world.items i ≡ Some s)
      × (((machine.group i ≡ g) × IsWaiting (machine.next s) × SameLabel To (machine.next s) (other.next t) ×
      (other.point t ≡ point_of point)) ⊎ ((machine.group i ≢ g) × To s t))

  can_be_ready : (world : World S) (g : ℕ) (point : P) (world' : World T) → AreRelated From world world' →
      world.fault ≡ None → IsGathered machine world.items g point
      → (i : ℕ) (t : T) → slice_get world'.items i ≡ Some t → (n : ℕ) × (t' : T) × GoesIn other.next n t t' ×
      Ready world g point i t'
  unfolding Ready
  can_be_ready world g point world' rel calm gathered i t at =
      let from = related_from From (slice_get world.items i) (slice_get world'.items i) t (rel.items calm i) at in
      elim (cases_eq (machine.group i) g) [
        | inr ne ↦ (0, t, refl, (from.0, from.1, inr (ne, fewer _ _ from.2)))
        | inl e ↦
            let waits = gathered.all_wait i from.0 e from.1 in
            let matched = match from.0 t from.2 in
            elim (labelled other To (point_of (machine.point from.0)) (machine.next from.0) matched.1 matched.3).1 [
              | inl goes ↦ absurd (goes_no_wait (machine.next from.0) goes.0 goes.1 waits.0)
              | inr label ↦ (
                matched.0,
                matched.1,
                matched.2,
                (from.0, from.1, inl (e, waits.0, label.0, label.1 waits.0 ∙ ap point_of waits.1)),
              )
            ]
      ]

  ready_waits : (world : World S) (g : ℕ) (point : P) (i : ℕ) (t : T) → machine.group i ≡ g →
      Ready world g point i t → IsWaiting (other.next t) × (other.point t ≡ point_of point)
  unfolding Ready
  ready_waits world g point i t e ready = elim ready.2 [
    | inl r ↦ (same_wait r.2 r.1, r.3)
    | inr r ↦ absurd (r.0 e)
  ]

  ready_released : (world : World S) (g : ℕ) (point : P) (i : ℕ) (t : T) → Ready world g point i t →
      (s : S) × (slice_get world.items i ≡ Some s) × To (released machine g i s) (released other g i t)
  unfolding Ready
  ready_released world g point i t ready = (
    ready.0,
    ready.1,
    elim ready.2 [
      | inl r ↦ subst (λ y. To (released machine g i ready.0) y) (sym (released_in other g i t (same_group i ∙ r.0)))
          (subst (λ x. To x (after_wait t (other.next t))) (sym (released_in machine g i ready.0 r.0))
          (related_released ready.0 t r.2 r.1))
      | inr r ↦ subst (λ y. To (released machine g i ready.0) y)
          (sym (released_other other g i t (λ e. r.0 (sym (same_group i) ∙ e))))
          (subst (λ x. To x t) (sym (released_other machine g i ready.0 r.0)) r.1)
    ],
  )

  -- a release
  release_answers : (world : World S) (g : ℕ) (world' : World T) → AreRelated From world world' →
      IsPossible machine world (Release g) → Answers world (Release g) world'
  release_answers world g world' rel p =
      from_gathered (gather other (Ready world g point) world' calm
      (can_be_ready world g point world' rel p.0 gathered))
    where
      point : P
      point = p.1.0

      gathered : IsGathered machine world.items g p.1.0
      gathered = p.1.1

      calm : world'.fault ≡ None
      calm = rel.fault ∙ p.0

      from_gathered : Gathers other (Ready world g point) world' (length world'.items) →
          Answers world (Release g) world'
      from_gathered all =
          then_move world (Release g) world' mid all.unseen (Release g) (
            calm,
            (
              point_of point,
              record {
                some_item = (first, within, same_group first ∙ gathered.some_item.2);
                all_wait = λ k t e at. ready_waits world g point k t (sym (same_group k) ∙ e) (ready k t at);
              },
            ),
          ) (record {
            memory = rel.memory;
            fault = rel.fault;
            items = λ none k.
                subst (λ o. RelatedAt To o (slice_get (released_from other g 0 all.items) k))
                (sym (get-released machine g world.items k))
                (subst (λ o. RelatedAt To (option_map (released machine g k) (slice_get world.items k)) o)
                (sym (get-released other g all.items k)) (by_item k (slice_get all.items k) refl));
          }) refl refl
        where
          mid : World T
          mid = record { memory = world'.memory; items = all.items; fault = world'.fault }

          first : ℕ
          first = gathered.some_item.0

          within : first < length all.items
          within =
              let here = element_within world.items first gathered.some_item.1 in
              let there = related_to From (slice_get world.items first) (slice_get world'.items first) here.0
              (rel.items p.0 first) here.1 in
              let less = slice_get_within world'.items first there.0 there.1 in
              let same = all.same_length in
              omega arith

          ready : (k : ℕ) (t : T) → slice_get all.items k ≡ Some t → Ready world g point k t
          ready k t at =
              let less = slice_get_within all.items k t at in
              let same = all.same_length in
              all.done k t (omega arith) at

          by_item : (k : ℕ) (o : Option T) → slice_get all.items k ≡ o →
              RelatedAt To (option_map (released machine g k) (slice_get world.items k))
              (option_map (released other g k) o)
          by_item k (Some t) at =
              let r = ready_released world g point k t (ready k t at) in
              related_at To _ _ (released machine g k r.0) (released other g k t)
              (ap (option_map (released machine g k)) r.1) refl r.2
          by_item k None at =
              let past = none_related From (slice_get world.items k) (slice_get world'.items k) (rel.items p.0 k)
              (past_too all.items world'.items k all.same_length at) in
              subst (λ o. RelatedAt To o None) (sym (ap (option_map (released machine g k)) past)) tt

  move_answers : (world : World S) (move : Move) (world' : World T) → AreRelated From world world' →
      IsPossible machine world move → Answers world move world'
  move_answers world (Step i) world' rel p = step_answers world i world' rel p
  move_answers world (Release g) world' rel p = release_answers world g world' rel p

module _ {S P T Q : Type 0} (machine : Machine S P) (other : Machine T Q) (point_of : P → Q) (R : ℕ → S → T →
    Type 0) (sim : SimulatesFor machine other point_of R) where
  -- every run is matched
  pub lift_run : (n : ℕ) (world : World S) (moves : List Move) (world' : World T) →
      AreRelated (R (moves_and moves n)) world world' → IsRun machine world moves →
      IsMatched machine other (R n) world moves world'
  lift_run n world [] world' rel run =
      record { moves' = []; run = tt; related = rel; same_trace = refl; same_turns = refl }
  lift_run n world (move ∷ moves) world' rel run =
      let m = moves_and moves n in
      let a = move_answers machine other point_of (R (suc m)) (R m) sim.same_group (sim.fewer m) (sim.matches m) world
      move world' rel run.0 in
      let rest = lift_run n (moved machine world move) moves (world_after other world' a.moves) a.related run.1 in
      record {
        moves' = a.moves ++ rest.moves';
        run = IsRun-append other world' a.moves rest.moves' a.run rest.run;
        related = subst (λ w. AreRelated (R n) (world_after machine (moved machine world move) moves) w)
            (sym (world_after-append other world' a.moves rest.moves')) rest.related;
        same_trace = trace-append other world' a.moves rest.moves' ∙
            ap (λ es. es ++ trace other (world_after other world' a.moves) rest.moves') a.same_trace ∙
            ap (λ es. events_of machine world move ++ es) rest.same_trace;
        same_turns =
            let split = turns-append other world' a.moves rest.moves' in
            let first = a.same_turns in
            let later = rest.same_turns in
            omega arith;
      }

  -- a matched run and unseen moves after it
  record Reaches (start' world' : World T) : Type 0 where
    moves : List Move
    run : IsRun other start' moves
    end : world_after other start' moves ≡ world'

  then_unseen : (start' : World T) (moves : List Move) (world' : World T) → IsRun other start' moves →
      Unseen other (world_after other start' moves) world' → Reaches start' world'
  then_unseen start' moves world' run u = record {
    moves = moves ++ u.moves;
    run = IsRun-append other start' moves u.moves run u.run;
    end = world_after-append other start' moves u.moves ∙ u.end;
  }

  ended_no_go : (n : Next S) (after : S) → n ≡ Goes after → HasEnded n → ⊥
  ended_no_go n after e h = subst (λ n. HasEnded n) e h

  wait_of : (site : ℕ) (n : Next S) → WaitsAt site n → IsWaiting n
  wait_of site (Waits site' after) w = tt
  wait_of site Ends w = absurd w
  wait_of site (Goes after) w = absurd w
  wait_of site (Begins after) w = absurd w
  wait_of site (Loads site' access after) w = absurd w
  wait_of site (Stores site' object index bytes after) w = absurd w

  -- what can be done can be done there
  pub lift_done : (start : World S) (start' : World T) → ((n : ℕ) → AreRelated (R n) start start') →
      (memory : Memory) → IsDone machine start memory → IsDone other start' memory
  lift_done start start' rel memory d =
      from_gathered (gather other (λ i t. HasEnded (other.next t)) world' calm can_end)
    where
      matched : IsMatched machine other (R 1) start d.moves start'
      matched = lift_run 1 start d.moves start' (rel (moves_and d.moves 1)) d.run

      world' : World T
      world' = world_after other start' matched.moves'

      calm : world'.fault ≡ None
      calm = matched.related.fault ∙ d.calm

      can_end : (i : ℕ) (t : T) → slice_get world'.items i ≡ Some t → (n : ℕ) × (t' : T) × GoesIn other.next n t t' ×
          HasEnded (other.next t')
      can_end i t at =
          let from = related_from (R 1) (slice_get (world_after machine start d.moves).items i)
          (slice_get world'.items i) t (matched.related.items d.calm i) at in
          let ended = d.ended i from.0 from.1 in
          let m = sim.matches 0 from.0 t from.2 in
          elim (labelled other (R 0) (point_of (machine.point from.0)) (machine.next from.0) m.1 m.3).1 [
            | inl goes ↦ absurd (ended_no_go (machine.next from.0) goes.0 goes.1 ended)
            | inr label ↦ (m.0, m.1, m.2, same_ended label.0 ended)
          ]

      from_gathered : Gathers other (λ i t. HasEnded (other.next t)) world' (length world'.items) →
          IsDone other start' memory
      from_gathered all =
          let mid : World T = record { memory = world'.memory; items = all.items; fault = world'.fault } in
          let reached = then_unseen start' matched.moves' mid matched.run all.unseen in
          record {
            moves = reached.moves;
            run = reached.run;
            calm = ap (λ (w : World T). w.fault) reached.end ∙ calm;
            ended = λ i t at.
                let here : slice_get all.items i ≡ Some t =
                ap (λ (w : World T). slice_get w.items i) (sym reached.end) ∙ at in
                let less = slice_get_within all.items i t here in
                let same = all.same_length in
                all.done i t (omega arith) here;
            left = ap (λ (w : World T). w.memory) reached.end ∙ matched.related.memory ∙ d.left;
          }

  -- where an item cannot come to a point at which one waits, a related one cannot, perhaps after unseen steps
  abbrev pub Parts : (S → P → Type 0) → (T → Q → Type 0) → Type 0
  Parts can_come can_come' =
      (w s : S) (t : T) → IsWaiting (machine.next w) → R 1 s t → (can_come s (machine.point w) → ⊥)
      → (k : ℕ) × (t' : T) × GoesIn other.next k t t' × (can_come' t' (point_of (machine.point w)) → ⊥)

  -- an item that waits where another cannot come does so there
  pub lift_parted : (can_come : S → P → Type 0) (can_come' : T → Q → Type 0) → Parts can_come can_come'
      → (start : World S) (start' : World T) → ((n : ℕ) → AreRelated (R n) start start') → (item site : ℕ) →
      IsParted machine can_come start item site → IsParted other can_come' start' item site
  lift_parted can_come can_come' parting start start' rel item site d =
      let matched = lift_run 1 start d.moves start' (rel (moves_and d.moves 1)) d.run in
      let world : World S = world_after machine start d.moves in
      let world' : World T = world_after other start' matched.moves' in
      let calm = matched.related.fault ∙ d.calm in
      let mine = related_to (R 1) (slice_get world.items item) (slice_get world'.items item) d.state
      (matched.related.items d.calm item) d.here in
      let its = related_to (R 1) (slice_get world.items d.other) (slice_get world'.items d.other) d.state'
      (matched.related.items d.calm d.other) d.there in
      let m = sim.matches 0 d.state mine.0 mine.2 in
      let waits = wait_of site (machine.next d.state) d.waits in
      elim (labelled other (R 0) (point_of (machine.point d.state)) (machine.next d.state) m.1 m.3).1 [
        | inl goes ↦ absurd (goes_no_wait (machine.next d.state) goes.0 goes.1 waits)
        | inr label ↦
            let u = go_run other m.0 world' item mine.0 m.1 calm mine.1 m.2 in
            let mid : World T = with_item world' item m.1 in
            let there = get-set_other world'.items item d.other m.1 (λ e. d.apart (sym e)) ∙ its.1 in
            let part = parting d.state d.state' its.0 waits its.2 d.cannot_come in
            let v = go_run other part.0 mid d.other its.0 part.1 calm there part.2 in
            let end : World T = with_item mid d.other part.1 in
            let reached = then_unseen start' matched.moves' end matched.run (unseen_then other world' mid end u v) in
            record {
              moves = reached.moves;
              run = reached.run;
              calm = ap (λ (w : World T). w.fault) reached.end ∙ calm;
              state = m.1;
              here = ap (λ (w : World T). slice_get w.items item) reached.end ∙
                  get-set_other mid.items d.other item part.1 d.apart ∙
                  get-set_same world'.items item mine.0 m.1 mine.1;
              waits = same_wait_at site label.0 d.waits;
              other = d.other;
              apart = d.apart;
              same_group = sim.same_group d.other ∙ d.same_group ∙ sym (sim.same_group item);
              state' = part.1;
              there = ap (λ (w : World T). slice_get w.items d.other) reached.end ∙
                  get-set_same mid.items d.other its.0 part.1 there;
              cannot_come = λ c. part.3 (subst (λ q. can_come' part.1 q) (label.1 waits) c);
            }
      ]

  pub lift_range : (start : World S) (start' : World T) → ((n : ℕ) → AreRelated (R n) start start') →
      (fault : Fault) → IsRange machine start fault → IsRange other start' fault
  lift_range start start' rel fault d = let m = lift_run 0 start d.moves start' (rel (moves_and d.moves 0)) d.run in
      record { moves = m.moves'; run = m.run; faulted = m.related.fault ∙ d.faulted }

  pub lift_turns : (start : World S) (start' : World T) → ((n : ℕ) → AreRelated (R n) start start') → (bound : ℕ) →
      ExceedsTurns machine start bound → ExceedsTurns other start' bound
  lift_turns start start' rel bound d = let m = lift_run 0 start d.moves start' (rel (moves_and d.moves 0)) d.run in
      record { moves = m.moves'; run = m.run; more = subst (λ n. bound < n) (sym m.same_turns) d.more }

  pub lift_outcomes : (can_come : S → P → Type 0) (can_come' : T → Q → Type 0) → Parts can_come can_come'
      → (start : World S) (start' : World T) → ((n : ℕ) → AreRelated (R n) start start') →
      HasOutcomesOf machine can_come start other can_come' start'
  lift_outcomes can_come can_come' parting start start' rel = record {
    done = lift_done start start' rel;
    range = lift_range start start' rel;
    parted = lift_parted can_come can_come' parting start start' rel;
    turns = lift_turns start start' rel;
  }

-- what is matched step by step is matched for any number of moves
pub every_step : {S P T Q : Type 0} {machine : Machine S P} {other : Machine T Q} {point_of : P → Q} {R : S → T →
    Type 0} → Simulates machine other point_of R → SimulatesFor machine other point_of (λ n. R)
every_step sim = record { same_group = sim.same_group; fewer = λ n s t r. r; matches = λ n s t r. sim.matches s t r }
