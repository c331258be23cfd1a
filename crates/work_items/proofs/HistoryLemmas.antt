-- What an item does in a run is a history of it, and histories are matched as runs are.
use Rattle.std.proofs.Common.{◌≡◌, ◌≢◌, ℕ, zero, suc, Bool, true, false, cond, List, [], ◌∷◌, ◌++◌, length, Option}
use Rattle.std.proofs.Common.{Some, None, slice_get, slice_set, option_map, refl, sym, ap, ◌∙◌, subst, inl, inr}
use Rattle.std.proofs.Common.{append_assoc, eq-eqb, ne_eqb}
use Rattle.std.proofs.lemmas.Bool.{cases_eq}
use Rattle.std.proofs.lemmas.Option.{none-some, same_Some}
use Rattle.work_items.specs.Memory.{Memory, Access, bytes_of, has_element, loaded}
use Rattle.work_items.specs.Items.{Next, Ends, Waits, Goes, Begins, Loads, Stores, Machine, World, Move, Step}
use Rattle.work_items.specs.Items.{Release, HasStep, IsWaiting, fault_of, memory_after, state_after, after_wait}
use Rattle.work_items.specs.Items.{IsPossible, released, after_step, after_step_of, moved}
use Rattle.work_items.specs.Runs.{world_after, IsRun}
use Rattle.work_items.specs.Simulation.{Event, Freed, trace, events_of, events_of_step, events_of_next}
use Rattle.work_items.specs.Simulation.{events_of_access, GoesIn, SameLabel, both_end, both_wait, both_go, both_begin}
use Rattle.work_items.specs.Simulation.{both_load, both_store, MatchesAt, SimulatesFor, IsMatched}
use Rattle.work_items.specs.Histories.{Deed, Passed, Turned, Read, Wrote, DoesOnce, History, nothing, going, doing}
use Rattle.work_items.specs.Histories.{Tells, KeepsTold, deed_of, deeds_of, HasHistories}
use Rattle.work_items.proofs.Lists.{get-set_same, get-set_other}
use Rattle.work_items.proofs.Diamond.{released_other}
use Rattle.work_items.proofs.Own.{length-memory_after}
use Rattle.work_items.proofs.Lift.{get-released, released_in, labelled}

-- a history and one that follows it
pub history_then : {S : Type 0} {lengths : ℕ → ℕ} {told : Access → List ℕ → Type 0} {next : S →
    Next S} {a b c : S} {ds es : List Deed} → History lengths told next a ds b → History lengths told next b es c →
    History lengths told next a (ds ++ es) c
history_then nothing g = g
history_then (going e h) g = going e (history_then h g)
history_then (doing d h) g = doing d (history_then h g)

in_range_from : (b : Bool) (site : ℕ) → cond b None (Some site) ≡ None → b ≡ true
in_range_from true site e = refl
in_range_from false site e = cc

pub deeds_of-append : (group : ℕ → ℕ) (item : ℕ) (es fs : List Event) →
    deeds_of group item (es ++ fs) ≡ deeds_of group item es ++ deeds_of group item fs
deeds_of-append group item [] fs = refl
deeds_of-append group item (e ∷ es) fs = ap (λ ds. deed_of group item e ++ ds) (deeds_of-append group item es fs) ∙
    sym (append_assoc (deed_of group item e) (deeds_of group item es) (deeds_of group item fs))

-- another item's step is nothing to an item
other_deeds : {S : Type 0} (group : ℕ → ℕ) (m : Memory) (i k : ℕ) (n : Next S) → i ≢ k →
    deeds_of group k (events_of_next m i n) ≡ []
other_deeds group m i k (Loads site access after) ne =
    ap (λ b. cond b (Read site access (loaded m access) ∷ []) [] ++ []) (ne_eqb i k ne)
other_deeds group m i k (Stores site object index bytes after) ne =
    ap (λ b. cond b (Wrote site object index bytes ∷ []) [] ++ []) (ne_eqb i k ne)
other_deeds group m i k (Begins after) ne = ap (λ b. cond b (Turned ∷ []) [] ++ []) (ne_eqb i k ne)
other_deeds group m i k Ends ne = refl
other_deeds group m i k (Waits site after) ne = refl
other_deeds group m i k (Goes after) ne = refl

module _ {S P : Type 0} (machine : Machine S P) (lengths : ℕ → ℕ) (told : Access → List ℕ → Type 0) (keeps : S → Type 0)
    (keep : (s : S) → keeps s → KeepsTold told keeps (machine.next s)) where
  abbrev Past : S → List Deed → S → Type 0
  Past = History lengths told machine.next

  -- a step that is in range
  own_deeds : (m : Memory) (i : ℕ) (s : S) (n : Next S) → machine.next s ≡ n →
      ((o : ℕ) → length (bytes_of m o) ≡ lengths o) → Tells told m → HasStep n → fault_of m n ≡ None →
      Past s (deeds_of machine.group i (events_of_next m i n)) (state_after m s n)
  own_deeds m i s (Goes after) e l t h f = going e nothing
  own_deeds m i s (Begins after) e l t h f =
      subst (λ b. Past s (cond b (Turned ∷ []) [] ++ []) after) (sym (eq-eqb i i refl))
      (doing (subst (λ n. DoesOnce lengths told n Turned after) (sym e) refl) nothing)
  own_deeds m i s (Loads site access after) e l t h f =
      let here = in_range_from _ site f in
      let fits = ap (λ len. has_element len access.size access.index) (sym (l access.object)) ∙ here in
      subst (λ b. Past s (cond b (Read site access (loaded m access) ∷ []) [] ++ []) (after (loaded m access)))
      (sym (eq-eqb i i refl))
      (doing (subst (λ n. DoesOnce lengths told n (Read site access (loaded m access)) (after (loaded m access)))
      (sym e) (refl, refl, fits, t access here, refl)) nothing)
  own_deeds m i s (Stores site object index bytes after) e l t h f =
      let here = in_range_from _ site f in
      let fits = ap (λ len. has_element len (length bytes) index) (sym (l object)) ∙ here in
      subst (λ b. Past s (cond b (Wrote site object index bytes ∷ []) [] ++ []) after) (sym (eq-eqb i i refl))
      (doing (subst (λ n. DoesOnce lengths told n (Wrote site object index bytes) after) (sym e) (
        refl,
        refl,
        refl,
        refl,
        fits,
        refl,
      )) nothing)
  own_deeds m i s Ends e l t h f = absurd h
  own_deeds m i s (Waits site after) e l t h f = absurd h

  wait_deed : (s : S) (n : Next S) → machine.next s ≡ n → IsWaiting n → Past s (Passed ∷ []) (after_wait s n)
  wait_deed s (Waits site after) e w = doing (subst (λ n. DoesOnce lengths told n Passed after) (sym e) refl) nothing
  wait_deed s Ends e w = absurd w
  wait_deed s (Goes after) e w = absurd w
  wait_deed s (Begins after) e w = absurd w
  wait_deed s (Loads site access after) e w = absurd w
  wait_deed s (Stores site object index bytes after) e w = absurd w

  keeps_after : (m : Memory) (s : S) (n : Next S) → KeepsTold told keeps n → Tells told m → HasStep n →
      fault_of m n ≡ None → keeps (state_after m s n) × Tells told (memory_after m n)
  keeps_after m s (Goes after) k t h f = (k, t)
  keeps_after m s (Begins after) k t h f = (k, t)
  keeps_after m s (Loads site access after) k t h f = (k (loaded m access) (t access (in_range_from _ site f)), t)
  keeps_after m s (Stores site object index bytes after) k t h f = (k.0, k.1 m t)
  keeps_after m s Ends k t h f = absurd h
  keeps_after m s (Waits site after) k t h f = absurd h

  keeps_wait : (s : S) (n : Next S) → KeepsTold told keeps n → IsWaiting n → keeps (after_wait s n)
  keeps_wait s (Waits site after) k w = k
  keeps_wait s Ends k w = absurd w
  keeps_wait s (Goes after) k w = absurd w
  keeps_wait s (Begins after) k w = absurd w
  keeps_wait s (Loads site access after) k w = absurd w
  keeps_wait s (Stores site object index bytes after) k w = absurd w

  -- what holds of a world that a run leads to
  record IsTold (world : World S) : Type 0 where
    all_keep : (i : ℕ) (s : S) → slice_get world.items i ≡ Some s → keeps s
    tells : Tells told world.memory
    same_lengths : (o : ℕ) → length (bytes_of world.memory o) ≡ lengths o

  -- what becomes of an item in a move, and that it is a history
  abbrev Becomes : World S → List Event → ℕ → S → Type 0
  Becomes after events k s = (t : S) × (slice_get after.items k ≡ Some t) × Past s (deeds_of machine.group k events) t

  told_after : (world : World S) (i : ℕ) (s : S) → IsTold world → slice_get world.items i ≡ Some s →
      HasStep (machine.next s) → (o : Option ℕ) → fault_of world.memory (machine.next s) ≡ o →
      IsTold (after_step machine world i s o)
  told_after world i s fine at h (Some site) f =
      record { all_keep = fine.all_keep; tells = fine.tells; same_lengths = fine.same_lengths }
  told_after world i s fine at h None f =
      let n = machine.next s in
      let kept = keeps_after world.memory s n (keep s (fine.all_keep i s at)) fine.tells h f in
      let after : S = state_after world.memory s n in
      record {
        all_keep = λ k t e. elim (cases_eq i k) [
          | inl same ↦ subst (λ x. keeps x) (same_Some _ _ (sym (get-set_same world.items i s after at) ∙
              subst (λ j. slice_get (slice_set world.items i after) j ≡ Some t) (sym same) e)) kept.0
          | inr ne ↦ fine.all_keep k t (sym (get-set_other world.items i k after ne) ∙ e)
        ];
        tells = kept.1;
        same_lengths = λ o. length-memory_after world.memory n o ∙ fine.same_lengths o;
      }

  step_becomes : (world : World S) (i : ℕ) (s : S) → IsTold world → slice_get world.items i ≡ Some s →
      HasStep (machine.next s) → (o : Option ℕ) → fault_of world.memory (machine.next s) ≡ o
      → (k : ℕ) (x : S) → slice_get world.items k ≡ Some x →
      Becomes (after_step machine world i s o)
      (events_of_access i (events_of_next world.memory i (machine.next s)) o) k x
  step_becomes world i s fine at h (Some site) f k x e = (x, e, nothing)
  step_becomes world i s fine at h None f k x e = elim (cases_eq i k) [
    | inl same ↦
        let one : s ≡ x = same_Some _ _ (sym at ∙ subst (λ j. slice_get world.items j ≡ Some x) (sym same) e) in
        let own = own_deeds world.memory i s n refl fine.same_lengths fine.tells h f in
        subst (λ j. Becomes (after_step machine world i s None) (events_of_next world.memory i n) j x) same
        (subst (λ y. Becomes (after_step machine world i s None) (events_of_next world.memory i n) i y) one (
          after,
          get-set_same world.items i s after at,
          own,
        ))
    | inr ne ↦ (
      x,
      get-set_other world.items i k after ne ∙ e,
      subst (λ ds. Past x ds x) (sym (other_deeds machine.group world.memory i k n ne)) nothing,
    )
  ]
    where
      n : Next S
      n = machine.next s

      after : S
      after = state_after world.memory s n

  release_becomes : (world : World S) (g : ℕ) → IsPossible machine world (Release g) → (k : ℕ) (x : S) →
      slice_get world.items k ≡ Some x → Becomes (moved machine world (Release g)) (Freed g ∷ []) k x
  release_becomes world g p k x e = (
    released machine g k x,
    get-released machine g world.items k ∙ ap (option_map (released machine g k)) e,
    elim (cases_eq (machine.group k) g) [
      | inl same ↦
          let waits = (p.1.1.all_wait k x same e).0 in
          subst (λ b. Past x (cond b (Passed ∷ []) [] ++ []) (released machine g k x)) (sym (eq-eqb _ _ same))
          (subst (λ y. Past x (Passed ∷ []) y) (sym (released_in machine g k x same))
          (wait_deed x (machine.next x) refl waits))
      | inr ne ↦
          subst (λ b. Past x (cond b (Passed ∷ []) [] ++ []) (released machine g k x)) (sym (ne_eqb _ _ ne))
          (subst (λ y. Past x [] y) (sym (released_other machine g k x ne)) nothing)
    ],
  )

  told_released : (world : World S) (g : ℕ) → IsTold world → IsPossible machine world (Release g) →
      IsTold (moved machine world (Release g))
  told_released world g fine p = record {
    all_keep = λ k t e. by_item k t (slice_get world.items k) refl (sym (get-released machine g world.items k) ∙ e);
    tells = fine.tells;
    same_lengths = fine.same_lengths;
  }
    where
      by_item : (k : ℕ) (t : S) (o : Option S) → slice_get world.items k ≡ o →
          option_map (released machine g k) o ≡ Some t → keeps t
      by_item k t None here e = absurd (none-some t e)
      by_item k t (Some s) here e = subst (λ x. keeps x) (same_Some _ _ e) (elim (cases_eq (machine.group k) g) [
        | inl same ↦ subst (λ x. keeps x) (sym (released_in machine g k s same))
            (keeps_wait s (machine.next s) (keep s (fine.all_keep k s here)) (p.1.1.all_wait k s same here).0)
        | inr ne ↦ subst (λ x. keeps x) (sym (released_other machine g k s ne)) (fine.all_keep k s here)
      ])

  told_move : (world : World S) (move : Move) → IsTold world → IsPossible machine world move →
      IsTold (moved machine world move)
  told_move world (Step i) fine p =
      subst (λ w. IsTold w) (sym (ap (after_step_of machine world i) p.1.1))
      (told_after world i p.1.0 fine p.1.1 p.1.2 (fault_of world.memory (machine.next p.1.0)) refl)
  told_move world (Release g) fine p = told_released world g fine p

  move_becomes : (world : World S) (move : Move) → IsTold world → IsPossible machine world move → (k : ℕ) (x : S) →
      slice_get world.items k ≡ Some x → Becomes (moved machine world move) (events_of machine world move) k x
  move_becomes world (Step i) fine p k x e =
      subst (λ o. Becomes (after_step_of machine world i o) (events_of_step machine world.memory i o) k x) (sym p.1.1)
      (step_becomes world i p.1.0 fine p.1.1 p.1.2 (fault_of world.memory (machine.next p.1.0)) refl k x e)
  move_becomes world (Release g) fine p k x e = release_becomes world g p k x e

  run_becomes : (world : World S) (moves : List Move) → IsTold world → IsRun machine world moves → (k : ℕ) (x : S) →
      slice_get world.items k ≡ Some x → Becomes (world_after machine world moves) (trace machine world moves) k x
  run_becomes world [] fine run k x e = (x, e, nothing)
  run_becomes world (move ∷ moves) fine run k x e =
      let one = move_becomes world move fine run.0 k x e in
      let rest = run_becomes (moved machine world move) moves (told_move world move fine run.0) run.1 k one.0 one.1 in (
        rest.0,
        rest.1,
        subst (λ ds. Past x ds rest.0)
            (sym (deeds_of-append machine.group k (events_of machine world move)
            (trace machine (moved machine world move) moves))) (history_then one.2 rest.2),
      )

  -- what each item does in a run is a history
  pub run_histories : (start : World S) (moves : List Move) → ((i : ℕ) (s : S) → slice_get start.items i ≡ Some s →
      keeps s) → Tells told start.memory → ((o : ℕ) → length (bytes_of start.memory o) ≡ lengths o)
      → IsRun machine start moves → HasHistories machine lengths told start moves
  run_histories start moves k t l run =
      record { each = run_becomes start moves (record { all_keep = k; tells = t; same_lengths = l }) run }

-- in runs with one trace each item does the same
pub matched_deeds : {S P T Q : Type 0} (machine : Machine S P) (other : Machine T Q) →
    ((item : ℕ) → other.group item ≡ machine.group item) →
    (R : S → T → Type 0) (world : World S) (moves : List Move) (world' : World T) →
    (m : IsMatched machine other R world moves world')
    → (item : ℕ) → deeds_of other.group item (trace other world' m.moves') ≡
    deeds_of machine.group item (trace machine world moves)
matched_deeds machine other same_group R world moves world' m item =
    ap (λ es. deeds_of other.group item es) m.same_trace ∙
    (λ k. deeds_of (λ i. same_group i k) item (trace machine world moves))

-- steps with one label do one deed, and lead to related states
deed_matched : {S T : Type 0} {R : S → T → Type 0} {n : Next S} {n' : Next T} (lengths : ℕ → ℕ) (told : Access →
    List ℕ → Type 0) (deed : Deed) (mid : S) → SameLabel R n n' → DoesOnce lengths told n deed mid →
    (mid' : T) × DoesOnce lengths told n' deed mid' × R mid mid'
deed_matched {R = R} lengths told Passed mid (both_wait {t = t} r) d = (t, refl, subst (λ x. R x t) d r)
deed_matched {R = R} lengths told Turned mid (both_begin {t = t} r) d = (t, refl, subst (λ x. R x t) d r)
deed_matched {R = R} lengths told (Read at read bytes) mid (both_load {g = g} r) d =
    (g bytes, (d.0, d.1, d.2, d.3, refl), subst (λ x. R x (g bytes)) d.4 (r bytes))
deed_matched {R = R} lengths told (Wrote at o i bs) mid (both_store {t = t} r) d =
    (t, (d.0, d.1, d.2, d.3, d.4, refl), subst (λ x. R x t) d.5 r)
deed_matched lengths told deed mid (both_wait r) d = absurd d
deed_matched lengths told deed mid (both_begin r) d = absurd d
deed_matched lengths told deed mid (both_load r) d = absurd d
deed_matched lengths told deed mid (both_store r) d = absurd d
deed_matched lengths told deed mid (both_go r) d = absurd d
deed_matched lengths told deed mid both_end d = absurd d

goes_history : {S : Type 0} {lengths : ℕ → ℕ} {told : Access → List ℕ → Type 0} {deeds : List Deed} {to : S}
    (next : S → Next S) (n : ℕ) (a b : S) → GoesIn next n a b → History lengths told next b deeds to →
    History lengths told next a deeds to
goes_history {lengths = lengths} {told = told} {deeds = deeds} {to = to} next zero a b g h =
    subst (λ x. History lengths told next x deeds to) (sym g) h
goes_history next (suc n) a b g h = going g.1 (goes_history next n g.0 b g.2 h)

no_deed : {S : Type 0} (lengths : ℕ → ℕ) (told : Access → List ℕ →
    Type 0) (deed : Deed) (n : Next S) (after mid : S) → n ≡ Goes after → DoesOnce lengths told n deed mid → ⊥
no_deed lengths told deed n after mid e d = subst (λ n. DoesOnce lengths told n deed mid) e d

-- how many steps a history has, and so many more
abbrev pub steps_and : {S : Type 0} {lengths : ℕ → ℕ} {told : Access → List ℕ → Type 0} {next : S →
    Next S} {s to : S} {deeds : List Deed} → History lengths told next s deeds to → ℕ → ℕ
steps_and nothing n = n
steps_and (going e h) n = suc (steps_and h n)
steps_and (doing d h) n = suc (steps_and h n)

-- each history of an item is matched by one of the other machine's, with the same deeds
pub history_matched : {S P T Q : Type 0} (machine : Machine S P) (other : Machine T Q) (point_of : P → Q) (R : ℕ → S →
    T → Type 0) → SimulatesFor machine other point_of R → (lengths : ℕ → ℕ) (told : Access → List ℕ → Type 0)
    → (n : ℕ) (s : S) (deeds : List Deed) (to : S) (t : T) (h : History lengths told machine.next s deeds to) →
    R (steps_and h n) s t → (t' : T) × History lengths told other.next t deeds t' × R n to t'
history_matched machine other point_of R sim lengths told n s deeds to t nothing r = (t, nothing, r)
history_matched machine other point_of R sim lengths told n s deeds to t (going {mid = mid} e h) r =
    let k = steps_and h n in
    let m = sim.matches k s t r in
    let r' = subst (λ n. MatchesAt other (R k) (point_of (machine.point s)) n m.1) e m.3 in
    let rest = history_matched machine other point_of R sim lengths told n mid deeds to m.1 h r' in
    (rest.0, goes_history other.next m.0 t m.1 m.2 rest.1, rest.2)
history_matched machine other point_of R sim lengths told n s deeds to t
    (doing {mid = mid} {deed = deed} {deeds = ds} d h) r =
    let k = steps_and h n in
    elim (labelled other (R k) (point_of (machine.point s)) (machine.next s) (sim.matches k s t r).1
    (sim.matches k s t r).3).1 [
      | inl goes ↦ absurd (no_deed lengths told deed (machine.next s) goes.0 mid goes.1 d)
      | inr label ↦
          let m = sim.matches k s t r in
          let done = deed_matched lengths told deed mid label.0 d in
          let rest = history_matched machine other point_of R sim lengths told n mid ds to done.0 h done.2 in
          (rest.0, goes_history other.next m.0 t m.1 m.2 (doing done.1 rest.1), rest.2)
    ]
