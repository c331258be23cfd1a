-- Two different moves that are both possible, in a world from which no run reaches a race or a fault.
use Rattle.std.proofs.Common.{◌≡◌, ◌≢◌, ℕ, zero, suc, ◌+◌, ◌<◌, cond, List, [], ◌∷◌, length, Option, Some, None}
use Rattle.std.proofs.Common.{slice_get, slice_set, option_map, refl, sym, ap, ◌∙◌, subst, inl, inr, arith}
use Rattle.std.proofs.Common.{length-set, ne_eqb}
use Rattle.std.proofs.Math.Seq.{set_comm}
use Rattle.std.proofs.lemmas.Bool.{cases_eq}
use Rattle.work_items.specs.Memory.{Memory}
use Rattle.work_items.specs.Items.{Next, Ends, Waits, Goes, Begins, Loads, Stores, Machine, World, Fault, Move, Step}
use Rattle.work_items.specs.Items.{Release, HasStep, IsWaiting, fault_of, memory_after, state_after, after_wait}
use Rattle.work_items.specs.Items.{IsPossible, released, released_from, after_step, after_step_of, moved}
use Rattle.work_items.specs.Runs.{world_after, IsRun, Conflict, Races}
use Rattle.work_items.proofs.Lists.{get-set_other}
use Rattle.work_items.proofs.Steps.{conflict_sym, fault_of-memory_after, state_after-memory_after}
use Rattle.work_items.proofs.Steps.{memory_after-memory_after}

-- no run from the world reaches a race or a fault
pub record IsQuiet {S P : Type 0} (machine : Machine S P) (world : World S) : Type 0 where
  pub no_race : (moves : List Move) → IsRun machine world moves → Races machine (world_after machine world moves) → ⊥
  pub no_fault : (moves : List Move) → IsRun machine world moves → (world_after machine world moves).fault ≡ None

-- an item that waits takes no step
pub not_both : {S : Type 0} (n : Next S) → IsWaiting n → HasStep n → ⊥
not_both (Waits site after) w s = s
not_both Ends w s = w
not_both (Goes after) w s = w
not_both (Begins after) w s = w
not_both (Loads site access after) w s = w
not_both (Stores site object index bytes after) w s = w

module _ {S P : Type 0} (machine : Machine S P) where
  pub quiet_after : (world : World S) (move : Move) → IsQuiet machine world → IsPossible machine world move →
      IsQuiet machine (moved machine world move)
  quiet_after world move q p = record {
    no_race = λ moves run. q.no_race (move ∷ moves) (p, run);
    no_fault = λ moves run. q.no_fault (move ∷ moves) (p, run);
  }

  -- the world after a step whose access is in range
  abbrev pub stepped : World S → ℕ → S → World S
  stepped world item state = record {
    memory = memory_after world.memory (machine.next state);
    items = slice_set world.items item (state_after world.memory state (machine.next state));
    fault = world.fault;
  }

  pub moved-step : (world : World S) (item : ℕ) (state : S) → slice_get world.items item ≡ Some state →
      fault_of world.memory (machine.next state) ≡ None → moved machine world (Step item) ≡ stepped world item state
  moved-step world item state e f = ap (after_step_of machine world item) e ∙ ap (after_step machine world item state) f

  -- in a quiet world the access of a step is in range
  pub in_range_now : (world : World S) (item : ℕ) (state : S) → IsQuiet machine world →
      IsPossible machine world (Step item) → slice_get world.items item ≡ Some state →
      fault_of world.memory (machine.next state) ≡ None
  in_range_now world item state q p e = by_case (fault_of world.memory (machine.next state)) refl
    where
      by_case : (o : Option ℕ) → fault_of world.memory (machine.next state) ≡ o → o ≡ None
      by_case None f = refl
      by_case (Some site) f =
          let after = ap (after_step_of machine world item) e ∙ ap (after_step machine world item state) f in
          let none = q.no_fault (Step item ∷ []) (p, tt) in
          let some : (moved machine world (Step item)).fault ≡ Some (record { item = item; site = site }) =
          ap (λ (w : World S). w.fault) after in
          cc

  pub get-released_from : (group first : ℕ) (items : List S) (i : ℕ) →
      slice_get (released_from machine group first items) i ≡ option_map (released machine group (first + i))
      (slice_get items i)
  get-released_from group first [] i = refl
  get-released_from group first (s ∷ items) zero = let e : first ≡ first + 0 =
      omega arith in ap (λ k. Some (released machine group k s)) e
  get-released_from group first (s ∷ items) (suc i) =
      let e : suc first + i ≡ first + suc i = omega arith in
      get-released_from group (suc first) items i ∙
      ap (λ k. option_map (released machine group k) (slice_get items i)) e

  pub length-released_from : (group first : ℕ) (items : List S) → length (released_from machine group first items) ≡
      length items
  length-released_from group first [] = refl
  length-released_from group first (s ∷ items) = ap suc (length-released_from group (suc first) items)

  -- an item of another group is not changed
  pub released_other : (group item : ℕ) (state : S) → machine.group item ≢ group →
      released machine group item state ≡ state
  released_other group item state ne = ap (λ b. cond b (after_wait state (machine.next state)) state) (ne_eqb _ _ ne)

  pub get-released_other : (group : ℕ) (items : List S) (i : ℕ) → machine.group i ≢ group →
      slice_get (released_from machine group 0 items) i ≡ slice_get items i
  get-released_other group items i ne = get-released_from group 0 items i ∙ same (slice_get items i)
    where
      same : (o : Option S) → option_map (released machine group (0 + i)) o ≡ o
      same None = refl
      same (Some s) = let e : 0 + i ≡ i =
          omega arith in ap (λ k. Some (released machine group k s)) e ∙ ap Some (released_other group i s ne)

  released_from-set : (group first : ℕ) (items : List S) (i : ℕ) (s : S) → machine.group (first + i) ≢ group →
      released_from machine group first (slice_set items i s) ≡ slice_set (released_from machine group first items) i s
  released_from-set group first [] i s ne = refl
  released_from-set group first (x ∷ items) zero s ne =
      let e : first + 0 ≡ first = omega arith in
      ap (λ (y : S). y ∷ released_from machine group (suc first) items)
      (released_other group first s (λ d. ne (ap machine.group e ∙ d)))
  released_from-set group first (x ∷ items) (suc i) s ne =
      let e : first + suc i ≡ suc first + i = omega arith in
      ap (λ (ys : List S). released machine group first x ∷ ys) (released_from-set group (suc first) items i s
      (λ d. ne (ap machine.group e ∙ d)))

  released_twice : (g h item : ℕ) (state : S) → g ≢ h → released machine h item (released machine g item state) ≡
      released machine g item (released machine h item state)
  released_twice g h item state ne =
      elim (cases_eq (machine.group item) g) [
        | inl e ↦
            let other : machine.group item ≢ h = λ d. ne (sym e ∙ d) in
            released_other h item (released machine g item state) other ∙
            ap (released machine g item) (sym (released_other h item state other))
        | inr n ↦ ap (released machine h item) (released_other g item state n) ∙
            sym (released_other g item (released machine h item state) n)
      ]

  released_from-released_from : (g h first : ℕ) (items : List S) → g ≢ h →
      released_from machine h first (released_from machine g first items) ≡
      released_from machine g first (released_from machine h first items)
  released_from-released_from g h first [] ne = refl
  released_from-released_from g h first (s ∷ items) ne =
      ap (λ (y : S). y ∷ released_from machine h (suc first) (released_from machine g (suc first) items))
      (released_twice g h first s ne)
      ∙ ap (λ (ys : List S). released machine g first (released machine h first s) ∷ ys)
      (released_from-released_from g h (suc first) items ne)

  -- an item that takes a step is in no group that can be released
  pub not_in_group : (world : World S) (item group : ℕ) → IsPossible machine world (Step item) →
      IsPossible machine world (Release group) → machine.group item ≢ group
  not_in_group world item group p r e = not_both _ (r.1.1.all_wait item p.1.0 e p.1.1).0 p.1.2

  -- a move leaves another one possible
  pub still_possible : (world : World S) (one other : Move) → IsQuiet machine world → one ≢ other →
      IsPossible machine world one → IsPossible machine world other → IsPossible machine (moved machine world one) other
  still_possible world (Step i) (Step j) q ne p r =
      let same = moved-step world i p.1.0 p.1.1 (in_range_now world i p.1.0 q p p.1.1) in
      subst (λ w. IsPossible machine w (Step j)) (sym same) (
        p.0,
        (r.1.0, get-set_other world.items i j _ (λ e. ne (ap Step e)) ∙ r.1.1, r.1.2),
      )
  still_possible world (Step i) (Release g) q ne p r =
      let same = moved-step world i p.1.0 p.1.1 (in_range_now world i p.1.0 q p p.1.1) in
      let apart = not_in_group world i g p r in
      let gathered = r.1.1 in
      subst (λ w. IsPossible machine w (Release g)) (sym same) (
        p.0,
        (
          r.1.0,
          record {
            some_item = (
              gathered.some_item.0,
              subst (λ n. gathered.some_item.0 < n) (sym (length-set world.items i _)) gathered.some_item.1,
              gathered.some_item.2,
            );
            all_wait = λ k s e at. gathered.all_wait k s e
                (sym (get-set_other world.items i k _ (λ d. apart (ap machine.group d ∙ e))) ∙ at);
          },
        ),
      )
  still_possible world (Release g) (Step j) q ne p r =
      let apart = not_in_group world j g r p in
      (r.0, (r.1.0, get-released_other g world.items j apart ∙ r.1.1, r.1.2))
  still_possible world (Release g) (Release h) q ne p r =
      let gathered = r.1.1 in (
        r.0,
        (
          r.1.0,
          record {
            some_item = (
              gathered.some_item.0,
              subst (λ n. gathered.some_item.0 < n) (sym (length-released_from g 0 world.items))
                  gathered.some_item.1,
              gathered.some_item.2,
            );
            all_wait = λ k s e at. gathered.all_wait k s e
                (sym (get-released_other g world.items k (λ d. ne (ap Release (sym d ∙ e)))) ∙ at);
          },
        ),
      )

  worlds : (m m' : Memory) (is is' : List S) (f f' : Option Fault) → m ≡ m' → is ≡ is' →
      f ≡ f' → ◌≡◌ {A = World S} (record { memory = m; items = is; fault = f }) (record {
        memory = m';
        items = is';
        fault = f';
      })
  worlds m m' is is' f f' a b c = λ k. record { memory = a k; items = b k; fault = c k }

  step_swap : (world : World S) (i j : ℕ) → i ≢ j → IsQuiet machine world → IsPossible machine world (Step i) →
      IsPossible machine world (Step j) → moved machine (moved machine world (Step i)) (Step j) ≡
      moved machine (moved machine world (Step j)) (Step i)
  step_swap world i j ne q p r =
      let s = p.1.0 in
      let t = r.1.0 in
      let m = world.memory in
      let n = machine.next s in
      let n' = machine.next t in
      let f = in_range_now world i s q p p.1.1 in
      let f' = in_range_now world j t q r r.1.1 in
      let calm : Conflict n n' → ⊥ =
      λ c. q.no_race [] tt (record {
        one = i;
        other = j;
        apart = ne;
        state = s;
        state' = t;
        at_one = p.1.1;
        at_other = r.1.1;
        conflict = c;
      }) in
      let calm' : Conflict n' n → ⊥ = λ c. calm (conflict_sym n' n c) in
      let first = ap (λ (w : World S). moved machine w (Step j)) (moved-step world i s p.1.1 f) ∙
      moved-step (stepped world i s) j t (get-set_other world.items i j _ ne ∙
      r.1.1) (fault_of-memory_after m n n' ∙ f') in
      let second = ap (λ (w : World S). moved machine w (Step i)) (moved-step world j t r.1.1 f') ∙
      moved-step (stepped world j t) i s (get-set_other world.items j i _ (λ e. ne (sym e)) ∙
      p.1.1) (fault_of-memory_after m n' n ∙ f) in
      let items =
      ap (λ (x : S). slice_set (slice_set world.items i (state_after m s n)) j x)
      (state_after-memory_after m n t n' f f' calm)
      ∙ set_comm world.items i j _ _ ne
      ∙ ap (λ (x : S). slice_set (slice_set world.items j (state_after m t n')) i x)
      (sym (state_after-memory_after m n' s n f' f calm')) in
      first ∙ worlds _ _ _ _ _ _ (memory_after-memory_after m n n' f f' calm) items refl ∙ sym second

  step_release_swap : (world : World S) (i g : ℕ) → IsQuiet machine world → IsPossible machine world (Step i) →
      IsPossible machine world (Release g) → moved machine (moved machine world (Step i)) (Release g) ≡
      moved machine (moved machine world (Release g)) (Step i)
  step_release_swap world i g q p r =
      let s = p.1.0 in
      let f = in_range_now world i s q p p.1.1 in
      let apart = not_in_group world i g p r in
      let start : 0 + i ≡ i = omega arith in
      let first = ap (λ (w : World S). moved machine w (Release g)) (moved-step world i s p.1.1 f) in
      let second =
      moved-step (moved machine world (Release g)) i s (get-released_other g world.items i apart ∙ p.1.1) f in
      first ∙ worlds _ _ _ _ _ _ refl
      (released_from-set g 0 world.items i _ (λ d. apart (sym (ap machine.group start) ∙ d))) refl ∙ sym second

  -- either order leads to one world
  pub swap_moves : (world : World S) (one other : Move) → IsQuiet machine world → one ≢ other →
      IsPossible machine world one → IsPossible machine world other →
      moved machine (moved machine world one) other ≡ moved machine (moved machine world other) one
  swap_moves world (Step i) (Step j) q ne p r = step_swap world i j (λ e. ne (ap Step e)) q p r
  swap_moves world (Step i) (Release g) q ne p r = step_release_swap world i g q p r
  swap_moves world (Release g) (Step j) q ne p r = sym (step_release_swap world j g q r p)
  swap_moves world (Release g) (Release h) q ne p r =
      worlds _ _ _ _ _ _ refl (released_from-released_from g h 0 world.items (λ e. ne (ap Release e))) refl
