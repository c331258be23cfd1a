-- Steps that are not seen: one item's, and those of several items in turn.
use Rattle.std.proofs.Common.{◌≡◌, ◌≢◌, ℕ, zero, suc, ◌<◌, ◌≤◌, List, [], ◌∷◌, ◌++◌, length, Some, None, slice_get}
use Rattle.std.proofs.Common.{slice_set, refl, sym, ap, ◌∙◌, subst, inl, inr, arith, append_assoc, length-set}
use Rattle.std.proofs.Common.{le_refl}
use Rattle.std.proofs.Math.Seq.{set-set}
use Rattle.std.proofs.lemmas.Bool.{cases_eq}
use Rattle.std.proofs.lemmas.Option.{same_Some}
use Rattle.work_items.specs.Items.{Goes, Machine, World, Move, Step, HasStep, fault_of, memory_after, state_after}
use Rattle.work_items.specs.Items.{moved}
use Rattle.work_items.specs.Runs.{world_after, IsRun, turns, turns_of, turns_of_step}
use Rattle.work_items.specs.Simulation.{trace, events_of, events_of_step, events_of_next, events_of_access, GoesIn}
use Rattle.work_items.proofs.Lists.{get-set_same, get-set_other, element_within}
use Rattle.work_items.proofs.Diamond.{moved-step}
use Rattle.work_items.proofs.Agree.{IsRun-append, world_after-append, turns-append}

pub set-get : {A : Type 0} (xs : List A) (i : ℕ) (x : A) → slice_get xs i ≡ Some x → slice_set xs i x ≡ xs
set-get [] i x e = refl
set-get (y ∷ xs) zero x e = let same : y ≡ x = same_Some y x e in ap (λ z. z ∷ xs) (sym same)
set-get (y ∷ xs) (suc i) x e = ap (λ zs. y ∷ zs) (set-get xs i x e)

-- the world with another state of one item
abbrev pub with_item : {S : Type 0} → World S → ℕ → S → World S
with_item world item state =
    record { memory = world.memory; items = slice_set world.items item state; fault = world.fault }

-- a run that is not seen leads from one world to the other
pub record Unseen {S P : Type 0} (machine : Machine S P) (world world' : World S) : Type 0 where
  pub moves : List Move
  pub run : IsRun machine world moves
  pub end : world_after machine world moves ≡ world'
  pub silent : trace machine world moves ≡ []
  pub no_turns : turns machine world moves ≡ 0

module _ {S P : Type 0} (machine : Machine S P) where
  pub trace-append : (world : World S) (moves more : List Move) →
      trace machine world (moves ++ more) ≡ trace machine world moves ++
      trace machine (world_after machine world moves) more
  trace-append world [] more = refl
  trace-append world (move ∷ moves) more =
      ap (λ es. events_of machine world move ++ es) (trace-append (moved machine world move) moves more)
      ∙ sym (append_assoc (events_of machine world move) (trace machine (moved machine world move) moves)
      (trace machine (world_after machine (moved machine world move) moves) more))

  pub unseen_none : (world : World S) → Unseen machine world world
  unseen_none world = record { moves = []; run = tt; end = refl; silent = refl; no_turns = refl }

  pub unseen_then : (a b c : World S) → Unseen machine a b → Unseen machine b c → Unseen machine a c
  unseen_then a b c u v = record {
    moves = u.moves ++ v.moves;
    run = IsRun-append machine a u.moves v.moves u.run (subst (λ w. IsRun machine w v.moves) (sym u.end) v.run);
    end = world_after-append machine a u.moves v.moves ∙ ap (λ w. world_after machine w v.moves) u.end ∙ v.end;
    silent = trace-append a u.moves v.moves ∙
        ap (λ es. es ++ trace machine (world_after machine a u.moves) v.moves) u.silent ∙
        ap (λ w. trace machine w v.moves) u.end ∙ v.silent;
    no_turns = turns-append machine a u.moves v.moves ∙ (let t = ap (λ w. turns machine w v.moves) u.end in
        let u' = u.no_turns in let v' = v.no_turns in omega arith);
  }

  -- one step that goes
  go_once : (world : World S) (i : ℕ) (s mid : S) → world.fault ≡ None → slice_get world.items i ≡ Some s →
      machine.next s ≡ Goes mid → Unseen machine world (with_item world i mid)
  go_once world i s mid calm at goes = record {
    moves = Step i ∷ [];
    run = ((calm, (s, at, subst (λ n. HasStep n) (sym goes) tt)), tt);
    end = moved-step machine world i s at (ap (fault_of world.memory) goes) ∙
        λ k. record {
          memory = memory_after world.memory (goes k);
          items = slice_set world.items i (state_after world.memory s (goes k));
          fault = world.fault;
        };
    silent = ap (λ es. es ++ []) (ap (events_of_step machine world.memory i) at ∙
        ap (λ n. events_of_access i (events_of_next world.memory i n) (fault_of world.memory n)) goes);
    no_turns = let t = ap (turns_of_step machine) at ∙ ap turns_of goes in omega arith;
  }

  pub go_run : (n : ℕ) (world : World S) (i : ℕ) (s s' : S) → world.fault ≡ None → slice_get world.items i ≡ Some s →
      GoesIn machine.next n s s' → Unseen machine world (with_item world i s')
  go_run zero world i s s' calm at goes =
      let same : slice_set world.items i s' ≡ world.items =
      ap (λ x. slice_set world.items i x) (sym goes) ∙ set-get world.items i s at in
      subst (λ items. Unseen machine world (record { memory = world.memory; items = items; fault = world.fault }))
      (sym same) (unseen_none world)
  go_run (suc n) world i s s' calm at goes =
      let first = go_once world i s goes.0 calm at goes.1 in
      let rest = go_run n (with_item world i goes.0) i goes.0 s' calm (get-set_same world.items i s goes.0 at) goes.2 in
      let whole = unseen_then world (with_item world i goes.0) _ first rest in
      subst (λ items. Unseen machine world (record { memory = world.memory; items = items; fault = world.fault }))
      (set-set world.items i goes.0 s') whole

  -- items that each go on to a state of which something holds
  pub record Gathers (Q : ℕ → S → Type 0) (world : World S) (count : ℕ) : Type 0 where
    pub items : List S
    pub unseen : Unseen machine world (record { memory = world.memory; items = items; fault = world.fault })
    pub same_length : length items ≡ length world.items
    pub done : (i : ℕ) (s : S) → i < count → slice_get items i ≡ Some s → Q i s
    pub others : (i : ℕ) → count ≤ i → slice_get items i ≡ slice_get world.items i

  abbrev pub CanGo : (Q : ℕ → S → Type 0) → World S → Type 0
  CanGo Q world =
      (i : ℕ) (s : S) → slice_get world.items i ≡ Some s → (n : ℕ) × (s' : S) × GoesIn machine.next n s s' × Q i s'

  gather_some : (Q : ℕ → S → Type 0) (world : World S) → world.fault ≡ None → CanGo Q world → (count : ℕ) →
      count ≤ length world.items → Gathers Q world count
  gather_some Q world calm go zero h = record {
    items = world.items;
    unseen = unseen_none world;
    same_length = refl;
    done = λ i s lt at. absurd (omega arith);
    others = λ i le. refl;
  }
  gather_some Q world calm go (suc count) h = further (gather_some Q world calm go count (omega arith))
    where
      further : Gathers Q world count → Gathers Q world (suc count)
      further g =
          let here = element_within world.items count h in
          let at = g.others count (le_refl count) ∙ here.1 in
          let goes = go count here.0 here.1 in
          let world' : World S = record { memory = world.memory; items = g.items; fault = world.fault } in
          let last = go_run goes.0 world' count here.0 goes.1 calm at goes.2 in
          record {
            items = slice_set g.items count goes.1;
            unseen = unseen_then world world' _ g.unseen last;
            same_length = length-set g.items count goes.1 ∙ g.same_length;
            done = λ i s lt e. elim (cases_eq count i) [
              | inl same ↦
                  let is : goes.1 ≡ s = same_Some _ _ (sym (get-set_same g.items count here.0 goes.1 at) ∙
                  subst (λ k. slice_get (slice_set g.items count goes.1) k ≡ Some s) (sym same) e) in
                  subst (λ k. Q k s) same (subst (λ x. Q count x) is goes.3)
              | inr ne ↦ g.done i s (omega arith) (sym (get-set_other g.items count i goes.1 ne) ∙ e)
            ];
            others = λ i le. let ne : count ≢ i =
                omega arith in get-set_other g.items count i goes.1 ne ∙ g.others i (omega arith);
          }

  pub gather : (Q : ℕ → S → Type 0) (world : World S) → world.fault ≡ None → CanGo Q world →
      Gathers Q world (length world.items)
  gather Q world calm go = gather_some Q world calm go (length world.items) (le_refl (length world.items))
