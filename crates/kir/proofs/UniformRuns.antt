-- A kernel that is even in some cells is so in every run: whenever two items of one group stand, at any two moments,
-- at one line or cut with equal iterations begun.
use Rattle.std.proofs.Common.{◌≡◌, ℕ, zero, suc, ◌<◌, List, [], ◌∷◌, ◌++◌, length, Some, slice_get, refl, sym, ap}
use Rattle.std.proofs.Common.{◌∙◌, subst, true, arith}
use Rattle.std.proofs.lemmas.Option.{slice_get_within, same_Some}
use Rattle.work_items.specs.Items.{Machine, World, Move, moved}
use Rattle.work_items.specs.Runs.{world_after, IsRun}
use Rattle.work_items.specs.Simulation.{trace}
use Rattle.work_items.specs.Histories.{deeds_of}
use Rattle.cl_model.specs.Sizes.{Launch, item_count, group_of}
use Rattle.cl_model.specs.Fitting.{FitsProgram, FitBuffers}
use Rattle.kir.specs.Tree.{Kernel}
use Rattle.kir.specs.Fits.{is_kernel}
use Rattle.kir.specs.Places.{Point, point_of}
use Rattle.kir.specs.Steps.{shell_of, Item}
use Rattle.kir.specs.Meaning.{machine_of, start_items, start_item, start_world, ItemHistory}
use Rattle.kir.specs.Live.{live_at}
use Rattle.kir.specs.Cuts.{is_stop}
use Rattle.kir.specs.Uniformity.{IsEven}
use Rattle.kir.proofs.ItemHistories.{item_histories}
use Rattle.kir.proofs.FromSteps.{length-world_after, start_is}
use Rattle.work_items.proofs.Lists.{element_within}

-- a run's beginning is a run
run_before : {S P : Type 0} (machine : Machine S P) (world : World S) (moves more : List Move) →
    IsRun machine world (moves ++ more) → IsRun machine world moves
run_before machine world [] more run = tt
run_before machine world (move ∷ moves) more run =
    (run.0, run_before machine (moved machine world move) moves more run.1)

count_start : (kernel : Kernel) (first count : ℕ) → length (start_items kernel first count) ≡ count
count_start kernel first zero = refl
count_start kernel first (suc count) = ap suc (count_start kernel (suc first) count)

module _ (kernel : Kernel) (launch : Launch) (buffers : List (List ℕ)) (valid : is_kernel kernel ≡ true)
    (fits : FitsProgram (shell_of kernel) launch) where
  -- the item that stands there after a run is one of the launch, and has come there by a history
  pub item_within : (moves : List Move) (item : ℕ) (i : Item) →
      slice_get (world_after (machine_of kernel launch) (start_world kernel launch buffers) moves).items item ≡
      Some i → item < item_count launch
  item_within moves item i e =
      let less = slice_get_within (world_after (machine_of kernel launch) (start_world kernel launch buffers)
      moves).items item i e in
      let same = length-world_after (machine_of kernel launch) (start_world kernel launch buffers) moves in
      let all = count_start kernel 0 (item_count launch) in
      omega arith

  pub history_there : (moves : List Move) →
      IsRun (machine_of kernel launch) (start_world kernel launch buffers) moves → (item : ℕ) (i : Item) →
      slice_get (world_after (machine_of kernel launch) (start_world kernel launch buffers) moves).items item ≡ Some i
      → ItemHistory kernel launch buffers item
      (deeds_of (group_of launch) item (trace (machine_of kernel launch) (start_world kernel launch buffers)
      moves)) i
  history_there moves run item i e =
      let within = item_within moves item i e in
      let all = count_start kernel 0 (item_count launch) in
      let x = element_within (start_items kernel 0 (item_count launch)) item (omega arith) in
      let first : slice_get (start_items kernel 0 (item_count launch)) item ≡ Some (start_item kernel item) =
      x.1 ∙ ap (λ s. Some s) (start_is kernel 0 (item_count launch) item x.0 x.1 ∙
      ap (start_item kernel) (omega arith)) in
      let h = (item_histories kernel launch buffers valid fits moves run).each item (start_item kernel item) first in
      subst (λ s. ItemHistory kernel launch buffers item
      (deeds_of (group_of launch) item (trace (machine_of kernel launch) (start_world kernel launch buffers)
      moves)) s) (same_Some _ _ (sym h.1 ∙ e)) h.2

  pub even_in_runs : (Cells : ℕ → Type 0) → IsEven kernel Cells → FitBuffers launch buffers →
      (moves more : List Move) → IsRun (machine_of kernel launch) (start_world kernel launch buffers) (moves ++ more)
      → (one other : ℕ) (i j : Item) → group_of launch one ≡ group_of launch other
      → slice_get (world_after (machine_of kernel launch) (start_world kernel launch buffers) moves).items one ≡ Some i
      → slice_get (world_after (machine_of kernel launch) (start_world kernel launch buffers) (moves ++ more)).items
      other ≡ Some j
      → (point : Point) → point_of i.tasks ≡ Some point → point_of j.tasks ≡ Some point →
      is_stop kernel.body point.at ≡ true → (c : ℕ) → Cells c → live_at kernel.body point.at c ≡ true →
      i.cells c ≡ j.cells c
  even_in_runs Cells even fit moves more run one other i j group ei ej point ei' ej' stop c is live =
      even launch fits buffers fit one other (item_within moves one i ei) (item_within (moves ++ more) other j ej)
      group _ _ i j
      (history_there moves (run_before (machine_of kernel launch) (start_world kernel launch buffers) moves more run)
      one i ei) (history_there (moves ++ more) run other j ej) point ei' ej' stop c is live
