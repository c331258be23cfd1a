-- What the moves of every machine need and do: what a wrong meaning of a launch would lose.
use Rattle.std.proofs.Common.{◌≡◌, ℕ, Some, slice_get, sym, ap, ◌∙◌}
use Rattle.std.proofs.lemmas.Option.{none-some}
use Rattle.work_items.specs.Items.{Machine, World, Fault, Step, Release, IsWaiting, fault_of, IsPossible, after_step}
use Rattle.work_items.specs.Items.{after_step_of, moved}
use Rattle.work_items.specs.Runs.{IsOver}

module _ {S P : Type 0} (machine : Machine S P) where
  -- no move follows a fault
  pub over_after_fault : (world : World S) (fault : Fault) → world.fault ≡ Some fault → IsOver machine world
  over_after_fault world fault e (Step item) p = none-some fault (sym p.0 ∙ e)
  over_after_fault world fault e (Release group) p = none-some fault (sym p.0 ∙ e)

  -- so a step whose access is out of range ends the run
  pub over_out_of_range : (world : World S) (item site : ℕ) (state : S) → slice_get world.items item ≡ Some state →
      fault_of world.memory (machine.next state) ≡ Some site → IsOver machine (moved machine world (Step item))
  over_out_of_range world item site state at f =
      over_after_fault (moved machine world (Step item)) (record { item = item; site = site })
      (ap (λ (w : World S). w.fault) (ap (after_step_of machine world item) at ∙
      ap (after_step machine world item state) f))

  -- each item of a group that is released waits
  pub released_waits : (world : World S) (group item : ℕ) (state : S) → IsPossible machine world (Release group) →
      machine.group item ≡ group → slice_get world.items item ≡ Some state → IsWaiting (machine.next state)
  released_waits world group item state p same at = (p.1.1.all_wait item state same at).0

  -- and all of them stand at one point
  pub released_together : (world : World S) (group one other : ℕ) (state state' : S) →
      IsPossible machine world (Release group) → machine.group one ≡ group → machine.group other ≡ group
      → slice_get world.items one ≡ Some state → slice_get world.items other ≡ Some state' →
      machine.point state ≡ machine.point state'
  released_together world group one other state state' p same same' at at' =
      (p.1.1.all_wait one state same at).1 ∙ sym (p.1.1.all_wait other state' same' at').1
