-- An item can come where it stands, and where it can come after a step.
use Rattle.std.proofs.Common.{refl}
use Rattle.work_items.specs.Memory.{Access}
use Rattle.work_items.specs.Items.{Next, Ends, Waits, Goes, Begins, Loads, Stores, Machine}
use Rattle.work_items.specs.Clean.{ComesAt, IsComing}
use Rattle.work_items.specs.Coming.{MayLead, CanCome, arrived, by_step}

comes_at : {S P : Type 0} (goes_on : Access → Type 0) (can_come : S → P → Type 0) (point : P) (come : P →
    Type 0) (n : Next S) → ((after : S) → MayLead goes_on n after → can_come after point → come point) →
    ComesAt goes_on can_come point come n
comes_at goes_on can_come point come Ends h = tt
comes_at goes_on can_come point come (Waits site after) h = h after refl
comes_at goes_on can_come point come (Goes after) h = h after refl
comes_at goes_on can_come point come (Begins after) h = h after refl
comes_at goes_on can_come point come (Loads site access after) h = λ fits bytes. h (after bytes) (fits, (bytes, refl))
comes_at goes_on can_come point come (Stores site object index bytes after) h = λ fits. h after (fits, refl)

pub comes_on : {S P : Type 0} (machine : Machine S P) (goes_on : Access → Type 0) (may_answer : S → S → Type 0) →
    IsComing machine goes_on (CanCome machine goes_on may_answer)
comes_on machine goes_on may_answer = record {
  here = λ state. arrived;
  later = λ state point. comes_at goes_on (CanCome machine goes_on may_answer) point
      (CanCome machine goes_on may_answer state) (machine.next state) (λ after may come. by_step may come);
}
