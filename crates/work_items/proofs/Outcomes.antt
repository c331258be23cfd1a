-- A clean launch has one outcome.
use Rattle.std.proofs.Common.{◌≡◌, ◌≢◌, ◌⊎◌, ℕ, Bool, true, false, cond, List, [], ◌∷◌, ◌++◌, Option, None, Some}
use Rattle.std.proofs.Common.{slice_get, slice_set, refl, sym, ap, ◌∙◌, subst, inl, inr, arith}
use Rattle.std.proofs.lemmas.Bool.{cases_eq}
use Rattle.std.proofs.lemmas.Option.{none-some, same_Some}
use Rattle.work_items.specs.Memory.{Memory, Access, has_element, loaded}
use Rattle.work_items.specs.Items.{Next, Ends, Waits, Goes, Begins, Loads, Stores, Machine, World, Move, Step}
use Rattle.work_items.specs.Items.{Release, HasStep, HasEnded, IsWaiting, fault_of, memory_after, state_after}
use Rattle.work_items.specs.Items.{IsPossible, after_step, after_step_of, moved}
use Rattle.work_items.specs.Runs.{world_after, IsRun, IsOver, IsMaximal, Races, AllEnded}
use Rattle.work_items.specs.Clean.{IsClean, WaitsAt, Falls, AllKeep, ComesAt, IsComing, InRangeGoesOn}
use Rattle.work_items.specs.Law.{Agrees}
use Rattle.work_items.proofs.Lists.{get-set_same, get-set_other, element_within}
use Rattle.work_items.proofs.Diamond.{IsQuiet, quiet_after, moved-step, in_range_now, get-released_other}
use Rattle.work_items.proofs.Diamond.{still_possible, swap_moves, not_both}
use Rattle.work_items.proofs.Agree.{one_end, IsRun-append, world_after-append, turns-append}
use Rattle.work_items.proofs.Own.{length-memory_after}
use Rattle.work_items.proofs.Ends.{AreDecided, FewTurns, has_maximal, keeps_along}

ended_no_step : {S : Type 0} (n : Next S) → HasEnded n → HasStep n → ⊥
ended_no_step Ends e h = h
ended_no_step (Waits site after) e h = e
ended_no_step (Goes after) e h = e
ended_no_step (Begins after) e h = e
ended_no_step (Loads site access after) e h = e
ended_no_step (Stores site object index bytes after) e h = e

ended_no_wait : {S : Type 0} (n : Next S) → HasEnded n → IsWaiting n → ⊥
ended_no_wait Ends e h = h
ended_no_wait (Waits site after) e h = e
ended_no_wait (Goes after) e h = e
ended_no_wait (Begins after) e h = e
ended_no_wait (Loads site access after) e h = e
ended_no_wait (Stores site object index bytes after) e h = e

waits_at : {S : Type 0} (site : ℕ) (n : Next S) → WaitsAt site n → IsWaiting n
waits_at site (Waits site' after) w = tt
waits_at site Ends w = w
waits_at site (Goes after) w = w
waits_at site (Begins after) w = w
waits_at site (Loads site' access after) w = w
waits_at site (Stores site' object index bytes after) w = w

in_range_of : (b : Bool) (site : ℕ) → cond b None (Some site) ≡ None → b ≡ true
in_range_of true site e = refl
in_range_of false site e = cc

-- where an item cannot come to a point, it cannot after a step of its own
cannot_later : {S P : Type 0} (goes_on : Access → Type 0) (can_come : S → P →
    Type 0) (memory : Memory) (s : S) (p : P) (n : Next S) → InRangeGoesOn goes_on memory →
    fault_of memory n ≡ None → ComesAt goes_on can_come p (can_come s) n → (can_come s p → ⊥) →
    can_come (state_after memory s n) p → ⊥
cannot_later goes_on can_come memory s p Ends on f c h d = h d
cannot_later goes_on can_come memory s p (Waits site after) on f c h d = h d
cannot_later goes_on can_come memory s p (Goes after) on f c h d = h (c d)
cannot_later goes_on can_come memory s p (Begins after) on f c h d = h (c d)
cannot_later goes_on can_come memory s p (Loads site access after) on f c h d =
    h (c (on access (in_range_of _ site f)) (loaded memory access) d)
cannot_later goes_on can_come memory s p (Stores site object index bytes after) on f c h d =
    h (c (on _ (in_range_of _ site f)) d)

-- objects keep their lengths
goes_on_after : {S : Type 0} (goes_on : Access → Type 0) (memory : Memory) (n : Next S) →
    InRangeGoesOn goes_on memory → InRangeGoesOn goes_on (memory_after memory n)
goes_on_after goes_on memory n on access h =
    on access (sym (ap (λ len. has_element len access.size access.index) (length-memory_after memory n access.object))
    ∙ h)

module _ {S P : Type 0} (machine : Machine S P) where
  goes_on_step : (goes_on : Access → Type 0) (world : World S) (item : ℕ) (state : S) (o : Option ℕ) →
      InRangeGoesOn goes_on world.memory → InRangeGoesOn goes_on (after_step machine world item state o).memory
  goes_on_step goes_on world item state None on = goes_on_after goes_on world.memory (machine.next state) on
  goes_on_step goes_on world item state (Some site) on = on

  goes_on_moved : (goes_on : Access → Type 0) (world : World S) (move : Move) → InRangeGoesOn goes_on world.memory →
      InRangeGoesOn goes_on (moved machine world move).memory
  goes_on_moved goes_on world (Step item) on = by_state (slice_get world.items item)
    where
      by_state : (o : Option S) → InRangeGoesOn goes_on (after_step_of machine world item o).memory
      by_state None = on
      by_state (Some state) = goes_on_step goes_on world item state (fault_of world.memory (machine.next state)) on
  goes_on_moved goes_on world (Release group) on = on

  pub goes_on_along : (goes_on : Access → Type 0) (world : World S) (moves : List Move) →
      InRangeGoesOn goes_on world.memory → InRangeGoesOn goes_on (world_after machine world moves).memory
  goes_on_along goes_on world [] on = on
  goes_on_along goes_on world (move ∷ moves) on =
      goes_on_along goes_on (moved machine world move) moves (goes_on_moved goes_on world move on)

  -- the world after a run of a clean launch is quiet, and has few turns left
  pub quiet_from : (start : World S) (bound : ℕ) → IsClean machine start bound → (moves : List Move) →
      IsRun machine start moves → IsQuiet machine (world_after machine start moves)
  quiet_from start bound clean moves run = record {
    no_race = λ more r race. clean.no_race (moves ++ more) (IsRun-append machine start moves more run r)
        (subst (λ w. Races machine w) (sym (world_after-append machine start moves more)) race);
    no_fault = λ more r. ap (λ (w : World S). w.fault) (sym (world_after-append machine start moves more)) ∙
        clean.no_fault (moves ++ more) (IsRun-append machine start moves more run r);
  }

  few_from : (start : World S) (bound : ℕ) → IsClean machine start bound → (moves : List Move) →
      IsRun machine start moves → FewTurns machine (world_after machine start moves) bound
  few_from start bound clean moves run more r =
      let few = clean.few_turns (moves ++ more) (IsRun-append machine start moves more run r) in
      omega (arith, few, turns-append machine start moves more)

  -- where every item has ended, nothing can follow
  pub ended_over : (world : World S) → AllEnded machine world → IsOver machine world
  ended_over world ended (Step i) p = ended_no_step _ (ended i p.1.0 p.1.1) p.1.2
  ended_over world ended (Release g) p =
      let gathered = p.1.1 in
      let i = gathered.some_item.0 in
      let here = element_within world.items i gathered.some_item.1 in
      ended_no_wait _ (ended i here.0 here.1) (gathered.all_wait i here.0 gathered.some_item.2 here.1).0

  -- an item that waits where another of its group cannot come
  record IsStuck (can_come : S → P → Type 0) (world : World S) (item : ℕ) (state : S) (other : ℕ) : Type 0 where
    here : slice_get world.items item ≡ Some state
    state' : S
    there : slice_get world.items other ≡ Some state'
    cannot : can_come state' (machine.point state) → ⊥

  stays_stuck : (goes_on : Access → Type 0) (can_come : S → P → Type 0) → IsComing machine goes_on can_come →
      (item : ℕ) (state : S) (other : ℕ) → IsWaiting (machine.next state) → machine.group other ≡ machine.group item
      → (world : World S) (moves : List Move) → InRangeGoesOn goes_on world.memory → IsQuiet machine world →
      IsRun machine world moves → IsStuck can_come world item state other →
      IsStuck can_come (world_after machine world moves) item state other
  stays_stuck goes_on can_come coming item state other waits same world [] on q run stuck = stuck
  stays_stuck goes_on can_come coming item state other waits same world (move ∷ moves) on q run stuck =
      stays_stuck goes_on can_come coming item state other waits same (moved machine world move) moves
      (goes_on_moved goes_on world move on) (quiet_after machine world move q run.0) run.1 (one_move move run.0)
    where
      stepped_stuck : (i : ℕ) → IsPossible machine world (Step i) → (i ≡ other) ⊎ (i ≢ other) →
          IsStuck can_come (moved machine world (Step i)) item state other
      stepped_stuck i p at_other =
          subst (λ w. IsStuck can_come w item state other)
          (sym (moved-step machine world i p.1.0 p.1.1 (in_range_now machine world i p.1.0 q p p.1.1)))
          (elim at_other [
            | inl e ↦
                let here' : slice_get world.items other ≡ Some p.1.0 =
                subst (λ k. slice_get world.items k ≡ Some p.1.0) e p.1.1 in
                let same_state : stuck.state' ≡ p.1.0 = same_Some _ _ (sym stuck.there ∙ here') in
                let cannot = subst (λ s. can_come s (machine.point state) → ⊥) same_state stuck.cannot in
                record {
                  here = get-set_other world.items i item _ not_item ∙ stuck.here;
                  state' = state_after world.memory p.1.0 (machine.next p.1.0);
                  there =
                      subst (λ k. slice_get (slice_set world.items i
                      (state_after world.memory p.1.0 (machine.next p.1.0))) k ≡
                      Some (state_after world.memory p.1.0 (machine.next p.1.0))) e
                      (get-set_same world.items i p.1.0 _ p.1.1);
                  cannot = cannot_later goes_on can_come world.memory p.1.0 (machine.point state) (machine.next p.1.0)
                      on (in_range_now machine world i p.1.0 q p p.1.1) (coming.later p.1.0 (machine.point state))
                      cannot;
                }
            | inr ne ↦ record {
              here = get-set_other world.items i item _ not_item ∙ stuck.here;
              state' = stuck.state';
              there = get-set_other world.items i other _ ne ∙ stuck.there;
              cannot = stuck.cannot;
            }
          ])
        where
          not_item : i ≢ item
          not_item e =
              let at : slice_get world.items item ≡ Some p.1.0 =
              subst (λ k. slice_get world.items k ≡ Some p.1.0) e p.1.1 in
              let one : state ≡ p.1.0 = same_Some _ _ (sym stuck.here ∙ at) in
              not_both _ (subst (λ s. IsWaiting (machine.next s)) one waits) p.1.2

      one_move : (m : Move) → IsPossible machine world m → IsStuck can_come (moved machine world m) item state other
      one_move (Step i) p = stepped_stuck i p (cases_eq i other)
      one_move (Release g) p =
          let gathered = p.1.1 in
          let apart : machine.group item ≢ g = λ e.
          let mine = (gathered.all_wait item state e stuck.here).1 in
          let its = (gathered.all_wait other stuck.state' (same ∙ e) stuck.there).1 in
          stuck.cannot (subst (λ p. can_come stuck.state' p) (its ∙ sym mine) (coming.here stuck.state')) in
          record {
            here = get-released_other machine g world.items item apart ∙ stuck.here;
            state' = stuck.state';
            there = get-released_other machine g world.items other (λ e. apart (sym same ∙ e)) ∙ stuck.there;
            cannot = stuck.cannot;
          }

  pub clean_agrees : (goes_on : Access → Type 0) (can_come : S → P → Type 0) → IsComing machine goes_on can_come →
      AreDecided P → (keeps : S → Type 0) (measure : S → ℕ) (rise : ℕ) → Falls machine keeps measure rise →
      (start : World S) (bound : ℕ) → AllKeep keeps start.items → InRangeGoesOn goes_on start.memory →
      IsClean machine start bound → Agrees machine can_come start
  clean_agrees goes_on can_come coming decide keeps measure rise falls start bound kept on clean =
      record {
        commutes = λ moves one other run ne p r.
            let q = quiet_from start bound clean moves run in
            record {
              still_other = still_possible machine _ one other q ne p r;
              still_one = still_possible machine _ other one q (λ e. ne (sym e)) r p;
              same_world = swap_moves machine _ one other q ne p r;
            };
        ends = goes_further;
        one_length = λ moves others m o. (one_end machine start moves others quiet m o).0;
        one_end = λ moves others m o. (one_end machine start moves others quiet m o).1;
        done = (
          _,
          record {
            moves = whole.0;
            run = whole.1.run;
            calm = clean.no_fault whole.0 whole.1.run;
            ended = clean.all_end whole.0 whole.1;
            left = refl;
          },
        );
        each_leaves = λ memory d moves m.
            ap (λ (w : World S). w.memory) (one_end machine start moves d.moves quiet m (record {
              run = d.run;
              over = ended_over (world_after machine start d.moves) d.ended;
            })).1 ∙ d.left;
        no_range = λ fault r. none-some fault (sym (clean.no_fault r.moves r.run) ∙ r.faulted);
        no_parted = λ item site parted.
            let further = goes_further parted.moves parted.run in
            let waits = waits_at site _ parted.waits in
            let stuck = stays_stuck goes_on can_come coming item parted.state parted.other waits parted.same_group
            (world_after machine start parted.moves) further.0
            (goes_on_along goes_on start parted.moves on)
            (quiet_from start bound clean parted.moves parted.run) (more_run parted.moves parted.run)
            (record {
              here = parted.here;
              state' = parted.state';
              there = parted.there;
              cannot = parted.cannot_come;
            }) in
            let at : slice_get (world_after machine start (parted.moves ++ further.0)).items item ≡
            Some parted.state = ap (λ (w : World S). slice_get w.items item)
            (world_after-append machine start parted.moves further.0) ∙ stuck.here in
            ended_no_wait _ (clean.all_end (parted.moves ++ further.0) further.1 item parted.state at) waits;
      }
    where
      quiet : IsQuiet machine start
      quiet = record { no_race = clean.no_race; no_fault = clean.no_fault }

      rest : (moves : List Move) → IsRun machine start moves → (more : List Move) ×
          IsMaximal machine (world_after machine start moves) more
      rest moves run = has_maximal machine decide keeps measure rise falls (world_after machine start moves) bound
          (keeps_along machine keeps measure rise falls start moves kept quiet run)
          (quiet_from start bound clean moves run) (few_from start bound clean moves run)

      goes_further : (moves : List Move) → IsRun machine start moves → (more : List Move) ×
          IsMaximal machine start (moves ++ more)
      goes_further moves run =
          let r = rest moves run in (
            r.0,
            record {
              run = IsRun-append machine start moves r.0 run r.1.run;
              over = subst (λ w. IsOver machine w) (sym (world_after-append machine start moves r.0)) r.1.over;
            },
          )

      more_run : (moves : List Move) (run : IsRun machine start moves) →
          IsRun machine (world_after machine start moves) (goes_further moves run).0
      more_run moves run = (rest moves run).1.run

      whole : (moves : List Move) × IsMaximal machine start moves
      whole = rest [] tt
