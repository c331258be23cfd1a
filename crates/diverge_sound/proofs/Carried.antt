-- Two moments of a run are the ends of two histories.
use Rattle.std.proofs.Common.{◌≡◌, ℕ, ◌+◌, ◌<◌, List, [], ◌∷◌, ◌++◌, length, Option, Some, None, slice_get, refl, sym}
use Rattle.std.proofs.Common.{ap, ◌∙◌, subst, arith, length-set}
use Rattle.std.proofs.lemmas.Option.{slice_get_within, same_Some}
use Rattle.work_items.specs.Items.{Machine, World, Move, Step, Release, fault_of, after_step, after_step_of, moved}
use Rattle.work_items.specs.Runs.{world_after, IsRun}
use Rattle.work_items.specs.Histories.{Deed, History, deeds_of}
use Rattle.work_items.specs.Simulation.{trace}
use Rattle.work_items.proofs.Lists.{element_within}
use Rattle.work_items.proofs.Diamond.{length-released_from}
use Rattle.cl_model.specs.Tree.{Program}
use Rattle.cl_model.specs.Sizes.{Launch, item_count, group_of}
use Rattle.cl_model.specs.Task.{Item}
use Rattle.cl_model.specs.Steps.{item_next}
use Rattle.cl_model.specs.Valid.{IsValid}
use Rattle.cl_model.specs.Fitting.{FitsProgram}
use Rattle.cl_model.specs.Meaning.{machine_of, start_item, start_world, lengths_of, MayBeTold, ItemHistory}
use Rattle.cl_model.proofs.IncrementItems.{start_at, length-start_items}
use Rattle.cl_model.proofs.ItemHistories.{item_histories}
use Rattle.diverge_sound.specs.InRuns.{CarriesToRuns}

-- a move keeps the number of items
module _ {S P : Type 0} (machine : Machine S P) where
  count_moved : (world : World S) (move : Move) → length (moved machine world move).items ≡ length world.items
  count_moved world (Step item) = by_state (slice_get world.items item)
    where
      by_fault : (state : S) (o : Option ℕ) → length (after_step machine world item state o).items ≡ length world.items
      by_fault state None = length-set world.items item _
      by_fault state (Some site) = refl

      by_state : (o : Option S) → length (after_step_of machine world item o).items ≡ length world.items
      by_state None = refl
      by_state (Some state) = by_fault state (fault_of world.memory (machine.next state))
  count_moved world (Release group) = length-released_from machine group 0 world.items

  pub count_after : (world : World S) (moves : List Move) →
      length (world_after machine world moves).items ≡ length world.items
  count_after world [] = refl
  count_after world (move ∷ moves) = count_after (moved machine world move) moves ∙ count_moved world move

-- the first moves of a run are one
is_run_first : {S P : Type 0} (machine : Machine S P) (world : World S) (moves more : List Move) →
    IsRun machine world (moves ++ more) → IsRun machine world moves
is_run_first machine world [] more run = tt
is_run_first machine world (move ∷ moves) more run =
    (run.0, is_run_first machine (moved machine world move) moves more run.1)

module _ (program : Program) (launch : Launch) (buffers : List (List ℕ)) (valid : IsValid program)
    (fits : FitsProgram program launch) where
  abbrev Past : Item → List Deed → Item → Type 0
  Past = History (lengths_of program launch buffers) (MayBeTold program launch buffers) (item_next program launch)

  -- an item at a moment of a run: its number, and a history that ends there
  record IsAt (item : ℕ) (state : Item) : Type 0 where
    within : item < item_count launch
    deeds : List Deed
    history : ItemHistory program launch buffers item deeds state

  at_moment : (moves : List Move) → IsRun (machine_of program launch) (start_world program launch buffers) moves →
      (item : ℕ) (state : Item)
      → slice_get (world_after (machine_of program launch) (start_world program launch buffers) moves).items item ≡
      Some state → IsAt item state
  at_moment moves run item state at =
      let start : World Item = start_world program launch buffers in
      let inside = slice_get_within _ item state at in
      let same_count = count_after (machine_of program launch) start moves in
      let here = element_within start.items item (omega (arith, inside, same_count)) in
      let e : 0 + item ≡ item = omega arith in
      let first : here.0 ≡ start_item program launch item =
      start_at program launch 0 (item_count launch) item here.0 here.1 ∙ ap (start_item program launch) e in
      let told = (item_histories program launch buffers valid fits moves run).each item here.0 here.1 in
      let last : told.0 ≡ state = same_Some _ _ (sym told.1 ∙ at) in
      record {
        within = omega (arith, inside, same_count, length-start_items program launch 0 (item_count launch));
        deeds = deeds_of (group_of launch) item (trace (machine_of program launch) start moves);
        history =
            subst (λ s. Past s (deeds_of (group_of launch) item (trace (machine_of program launch) start moves))
            state) first
            (subst (λ s. Past here.0 (deeds_of (group_of launch) item (trace (machine_of program launch) start moves))
            s) last told.2);
      }

  pub carries : CarriesToRuns program launch buffers
  carries v agrees moves more one other i j point run same at_one at_other here there scoped =
      let first = at_moment moves (is_run_first (machine_of program launch) (start_world program launch buffers) moves
      more run) one i at_one in
      let second = at_moment (moves ++ more) run other j at_other in
      agrees one other first.within second.within same first.deeds second.deeds i j first.history second.history point
      here there scoped
