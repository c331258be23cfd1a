-- The points to which an item can come, whatever its loads give and its tests answer.
use Rattle.std.specs.Prelude.{◌≡◌, ℕ, List, length}
use Rattle.work_items.specs.Memory.{Access}
use Rattle.work_items.specs.Items.{Next, Ends, Waits, Goes, Begins, Loads, Stores, Machine}

-- the step may lead there, whatever a load gives, and a barrier is passed; `goes_on` says behind which accesses an
-- item goes on
abbrev pub MayLead : {S : Type 0} → (Access → Type 0) → Next S → S → Type 0
MayLead goes_on Ends to = ⊥
MayLead goes_on (Waits site after) to = after ≡ to
MayLead goes_on (Goes after) to = after ≡ to
MayLead goes_on (Begins after) to = after ≡ to
MayLead goes_on (Loads site access after) to = goes_on access × ((bytes : List ℕ) × (after bytes ≡ to))
MayLead goes_on (Stores site object index bytes after) to =
    goes_on (record { object = object; size = length bytes; index = index }) × (after ≡ to)

-- the item can come to the point by steps of its own, where `may_answer` says where a test may lead, whatever it
-- answers
pub data CanCome {S P : Type 0} (machine : Machine S P) (goes_on : Access → Type 0) (may_answer : S → S →
    Type 0) : S → P → Type 0 where
  arrived : {state : S} → CanCome machine goes_on may_answer state (machine.point state)
  by_step : {state after : S} {point : P} → MayLead goes_on (machine.next state) after →
      CanCome machine goes_on may_answer after point → CanCome machine goes_on may_answer state point
  by_test : {state after : S} {point : P} → may_answer state after → CanCome machine goes_on may_answer after point →
      CanCome machine goes_on may_answer state point
