-- The outcomes of what is played.
use Rattle.std.proofs.Common.{◌≡◌, ℕ, zero, suc, Bool, true, false, cond, List, [], ◌∷◌, length, take, Option, Some}
use Rattle.std.proofs.Common.{None, slice_get, refl, sym, ap, ◌∙◌, subst, arith}
use Rattle.std.proofs.lemmas.Option.{none-some, same_Some}
use Rattle.wg_num.specs.Wrap.{wrap_of, bits_of, value_of, modulus, half}
use Rattle.wg_num.specs.Operators.{unary_of, binary_of}
use Rattle.wg_num.specs.declared.types.Place.{Place}
use Rattle.work_items.specs.Items.{Next, Ends, Waits, Goes, Begins, Loads, Stores, Machine, World, Fault, HasEnded}
use Rattle.work_items.specs.Items.{Move, Step, Release}
use Rattle.work_items.specs.Runs.{world_after, IsRun, Races}
use Rattle.work_items.specs.Coming.{MayLead, arrived, by_step, by_test}
use Rattle.cl_model.specs.declared.launch.Bound.TheVariants as bound
use Rattle.cl_model.specs.Tree.{Program}
use Rattle.cl_model.specs.Sizes.{Launch, group_count, group_of}
use Rattle.cl_model.specs.Task.{Point, Task, Item, first_point}
use Rattle.cl_model.specs.Steps.{first_next}
use Rattle.cl_model.specs.Meaning.{machine_of, start_world, is_test, IsWithin, ItemCanCome, EndsDone, EndsRange}
use Rattle.examples_model.specs.Terms.{line, buffer}
use Rattle.examples_model.specs.Play.{first_ready, same_point, has_ended, Finished, Faulted, Stuck, ended_from}
use Rattle.examples_model.specs.Play.{ended_of, play, play_from, moves_from}
use Rattle.examples_model.specs.Barriers.{race}
use Rattle.examples_model.specs.Outcomes.{FinishedIsDone, FaultedIsRange, parting, IsParting, IsNeverReleased}
use Rattle.examples_model.specs.Outcomes.{BothWait, IterationsAreApart, NothingFollowsAFault, RaceIsNotClean}
use Rattle.examples_model.proofs.Played.{first_is_ready, played}

ended : (n : Next Item) → has_ended n ≡ true → HasEnded n
ended Ends e = tt
ended (Waits site after) e = cc e
ended (Goes after) e = cc e
ended (Begins after) e = cc e
ended (Loads site access after) e = cc e
ended (Stores site object index bytes after) e = cc e

module _ (machine : Machine Item (Option Point)) (buffers left : List (List ℕ)) where
  abbrev Over : List Item → Type 0
  Over items = ((n : ℕ) (s : Item) → slice_get items n ≡ Some s → HasEnded (machine.next s)) × (buffers ≡ left)

  all_over : (k : ℕ) (items : List Item) → ended_from machine buffers k items ≡ Finished left → Over items
  all_over k [] e = ((λ n s at. absurd (none-some s at)), cc e)
  all_over k (i ∷ items) e = pick (has_ended (machine.next i)) refl e (λ f. all_over (suc k) items f)
    where
      each : has_ended (machine.next i) ≡ true → Over items → (n : ℕ) (s : Item) → slice_get (i ∷ items) n ≡ Some s →
          HasEnded (machine.next s)
      each t h zero s at = subst (λ x. HasEnded (machine.next x)) (same_Some i s at) (ended (machine.next i) t)
      each t h (suc n) s at = h.0 n s at

      pick : (b : Bool) → has_ended (machine.next i) ≡ b →
          cond b (ended_from machine buffers (suc k) items) (Stuck k) ≡ Finished left →
          (ended_from machine buffers (suc k) items ≡ Finished left → Over items) → Over (i ∷ items)
      pick true t f further = let h = further f in (each t h, h.1)
      pick false t f further = cc f

never_faulted : (machine : Machine Item (Option Point)) (buffers : List (List ℕ)) (item site k : ℕ)
    (items : List Item) → ended_from machine buffers k items ≡ Faulted item site → ⊥
never_faulted machine buffers item site k [] e = cc e
never_faulted machine buffers item site k (i ∷ items) e =
    pick (has_ended (machine.next i)) e (λ f. never_faulted machine buffers item site (suc k) items f)
  where
    pick : (b : Bool) → cond b (ended_from machine buffers (suc k) items) (Stuck k) ≡ Faulted item site →
        (ended_from machine buffers (suc k) items ≡ Faulted item site → ⊥) → ⊥
    pick true f further = further f
    pick false f further = cc f

module _ (fuel : ℕ) (program : Program) (launch : Launch) (buffers : List (List ℕ)) where
  abbrev machine : Machine Item (Option Point)
  machine = machine_of program launch

  abbrev start : World Item
  start = start_world program launch buffers

  abbrev last : World Item
  last = play_from first_ready machine (group_count launch) fuel start

  abbrev moves : List Move
  moves = moves_from first_ready machine (group_count launch) fuel start

  run : IsRun machine start moves
  run = (played first_ready first_is_ready machine (group_count launch) fuel start).0

  at_last : world_after machine start moves ≡ last
  at_last = (played first_ready first_is_ready machine (group_count launch) fuel start).1

  done : (left : List (List ℕ)) → play fuel program launch buffers ≡ Finished left →
      EndsDone program launch buffers left
  done left e = by_fault last.fault refl e
    where
      by_fault : (o : Option Fault) → last.fault ≡ o → ended_of machine (length launch.lengths) last o ≡
          Finished left → EndsDone program launch buffers left
      by_fault None calm f =
          let over = all_over machine (take (length launch.lengths) last.memory) left 0 last.items f in
          record {
            memory = last.memory;
            is_done = record {
              moves = moves;
              run = run;
              calm = ap (λ (w : World Item). w.fault) at_last ∙ calm;
              ended = λ i s at. over.0 i s (ap (λ (w : World Item). slice_get w.items i) (sym at_last) ∙ at);
              left = ap (λ (w : World Item). w.memory) at_last;
            };
            same_buffers = over.1;
          }
      by_fault (Some fault) calm f = cc f

  range : (item site : ℕ) (place : Place) → play fuel program launch buffers ≡ Faulted item site →
      slice_get program.sites site ≡ Some place → EndsRange program launch buffers (group_of launch item) item place
  range item site place e at = by_fault last.fault refl e
    where
      by_fault : (o : Option Fault) → last.fault ≡ o → ended_of machine (length launch.lengths) last o ≡
          Faulted item site → EndsRange program launch buffers (group_of launch item) item place
      by_fault None calm f =
          absurd (never_faulted machine (take (length launch.lengths) last.memory) item site 0 last.items f)
      by_fault (Some fault) calm f =
          let one : fault.item ≡ item = cc f in
          let two : fault.site ≡ site = cc f in
          record {
            site = site;
            at_place = at;
            in_group = refl;
            is_range = record {
              moves = moves;
              run = run;
              faulted = ap (λ (w : World Item). w.fault) at_last ∙ calm ∙
                  (λ k. Some (record { item = one k; site = two k }));
            };
          }

pub finished_is_done : FinishedIsDone
finished_is_done fuel program launch buffers left e = done fuel program launch buffers left e

pub faulted_is_range : FaultedIsRange
faulted_is_range fuel program launch buffers item site place e at =
    range fuel program launch buffers item site place e at

-- an item that has ended comes to no point
module _ (program : Program) (launch : Launch) (buffers : List (List ℕ)) where
  no_point : (tasks : List Task) (p : Point) → tasks ≡ [] → first_point tasks ≡ Some p → ⊥
  no_point tasks p e f = none-some p (sym (ap first_point e) ∙ f)

  no_step : (s after : Item) → s.tasks ≡ [] →
      MayLead (IsWithin program launch buffers) (first_next program launch s s.tasks) after → ⊥
  no_step s after e m =
      subst (λ tasks. MayLead (IsWithin program launch buffers) (first_next program launch s tasks) after) e m

  no_test : (tasks : List Task) → tasks ≡ [] → is_test tasks ≡ true → ⊥
  no_test tasks e t = let f : false ≡ true = sym (ap is_test e) ∙ t in cc f

  ended_comes_nowhere : (s : Item) (q : Option Point) (p : Point) → ItemCanCome program launch buffers s q →
      s.tasks ≡ [] → q ≡ Some p → ⊥
  ended_comes_nowhere s q p arrived e f = no_point s.tasks p e f
  ended_comes_nowhere s q p (by_step {after = after} may come) e f = no_step s after e may
  ended_comes_nowhere s q p (by_test may come) e f = no_test s.tasks e may.0

abbrev two_on_eight : Launch
two_on_eight = line 2 2 (bound.Buffer 0 ∷ []) (8 ∷ [])

abbrev zero_ints : List (List ℕ)
zero_ints = buffer (0 ∷ 0 ∷ []) ∷ []

parting_run : IsRun (machine_of parting two_on_eight) (start_world parting two_on_eight zero_ints)
    (moves_from first_ready (machine_of parting two_on_eight) 1 100 (start_world parting two_on_eight zero_ints))
parting_run = (played first_ready first_is_ready (machine_of parting two_on_eight) 1 100
    (start_world parting two_on_eight zero_ints)).0

pub is_parting : IsParting
unfolding wrap_of bits_of value_of modulus half binary_of unary_of
is_parting = record {
  site = 0;
  at_place = refl;
  in_group = refl;
  is_parted = record {
    moves = moves_from first_ready (machine_of parting two_on_eight) 1 100 (start_world parting two_on_eight zero_ints);
    run = parting_run;
    calm = refl;
    state = _;
    here = refl;
    waits = refl;
    other = 1;
    apart = omega arith;
    same_group = refl;
    state' = _;
    there = refl;
    cannot_come = λ c. ended_comes_nowhere parting two_on_eight zero_ints _ _ _ c refl refl;
  };
}

pub is_never_released : IsNeverReleased
unfolding wrap_of bits_of value_of modulus half binary_of unary_of
is_never_released p = (p.1.1.all_wait 1 _ refl refl).0

pub both_wait : BothWait
unfolding wrap_of bits_of value_of modulus half binary_of unary_of
both_wait zero h = (_, refl, refl)
both_wait (suc zero) h = (_, refl, refl)
both_wait (suc (suc item)) h = absurd (omega arith)

two_points : (one other : Option Point) → one ≡ other → same_point one other ≡ false → same_point other other ≡ true → ⊥
two_points one other e differ same = let f : false ≡ true =
    sym differ ∙ ap (λ point. same_point point other) e ∙ same in cc f

pub iterations_are_apart : IterationsAreApart
unfolding wrap_of bits_of value_of modulus half binary_of unary_of
iterations_are_apart p =
    two_points _ _ ((p.1.1.all_wait 0 _ refl refl).1 ∙ sym (p.1.1.all_wait 1 _ refl refl).1) refl refl

pub nothing_follows_a_fault : NothingFollowsAFault
unfolding wrap_of bits_of value_of modulus half binary_of unary_of
nothing_follows_a_fault (Step i) p = none-some _ (sym p.0)
nothing_follows_a_fault (Release g) p = none-some _ (sym p.0)

abbrev race_launch : Launch
race_launch = line 2 2 (bound.Buffer 0 ∷ []) (4 ∷ [])

-- both items go as far as their stores
abbrev to_stores : List Move
to_stores = Step 0 ∷ Step 0 ∷ Step 0 ∷ Step 0 ∷ Step 0 ∷ Step 0 ∷ Step 0 ∷ Step 0 ∷ Step 0 ∷ Step 0 ∷ Step 0 ∷
    Step 1 ∷ Step 1 ∷ Step 1 ∷ Step 1 ∷ Step 1 ∷ Step 1 ∷ Step 1 ∷ Step 1 ∷ Step 1 ∷ Step 1 ∷ Step 1 ∷ []

to_stores_run : IsRun (machine_of race race_launch) (start_world race race_launch (buffer (9 ∷ []) ∷ [])) to_stores
unfolding wrap_of bits_of value_of modulus half binary_of unary_of
to_stores_run = (
  (refl, (_, refl, tt)),
  (
    (refl, (_, refl, tt)),
    (
      (refl, (_, refl, tt)),
      (
        (refl, (_, refl, tt)),
        (
          (refl, (_, refl, tt)),
          (
            (refl, (_, refl, tt)),
            (
              (refl, (_, refl, tt)),
              (
                (refl, (_, refl, tt)),
                (
                  (refl, (_, refl, tt)),
                  (
                    (refl, (_, refl, tt)),
                    (
                      (refl, (_, refl, tt)),
                      (
                        (refl, (_, refl, tt)),
                        (
                          (refl, (_, refl, tt)),
                          (
                            (refl, (_, refl, tt)),
                            (
                              (refl, (_, refl, tt)),
                              (
                                (refl, (_, refl, tt)),
                                (
                                  (refl, (_, refl, tt)),
                                  (
                                    (refl, (_, refl, tt)),
                                    (
                                      (refl, (_, refl, tt)),
                                      ((refl, (_, refl, tt)), ((refl, (_, refl, tt)), ((refl, (_, refl, tt)), tt))),
                                    ),
                                  ),
                                ),
                              ),
                            ),
                          ),
                        ),
                      ),
                    ),
                  ),
                ),
              ),
            ),
          ),
        ),
      ),
    ),
  ),
)

they_race : Races (machine_of race race_launch)
    (world_after (machine_of race race_launch) (start_world race race_launch (buffer (9 ∷ []) ∷ [])) to_stores)
unfolding wrap_of bits_of value_of modulus half binary_of unary_of
they_race = record {
  one = 0;
  other = 1;
  apart = omega arith;
  state = _;
  state' = _;
  at_one = refl;
  at_other = refl;
  conflict = (refl, (0, (omega arith, omega arith), (omega arith, omega arith)));
}

pub race_is_not_clean : RaceIsNotClean
race_is_not_clean clean = clean.no_race to_stores to_stores_run they_race
