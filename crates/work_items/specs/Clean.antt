-- Clean launches, and the outcomes of a launch.
use Rattle.std.specs.Prelude.{◌≡◌, ◌≢◌, ℕ, ◌+◌, ◌<◌, ◌≤◌, true, List, length, None, Some, slice_get}
use Rattle.work_items.specs.Memory.{Memory, Access, is_in_range}
use Rattle.work_items.specs.Items.{Next, Ends, Waits, Goes, Begins, Loads, Stores, Machine, World, Fault, Move}
use Rattle.work_items.specs.Runs.{world_after, IsRun, IsMaximal, turns, Races, AllEnded}

-- no run reaches a race or a fault, none has more turns than the bound, and after each that cannot go on every item
-- has ended
pub record IsClean {S P : Type 0} (machine : Machine S P) (start : World S) (bound : ℕ) : Type 0 where
  pub no_race : (moves : List Move) → IsRun machine start moves → Races machine (world_after machine start moves) → ⊥
  pub no_fault : (moves : List Move) → IsRun machine start moves → (world_after machine start moves).fault ≡ None
  pub few_turns : (moves : List Move) → IsRun machine start moves → turns machine start moves ≤ bound
  pub all_end : (moves : List Move) → IsMaximal machine start moves → AllEnded machine (world_after machine start moves)

-- after some run every item has ended, and the memory is this
pub record IsDone {S P : Type 0} (machine : Machine S P) (start : World S) (memory : Memory) : Type 0 where
  pub moves : List Move
  pub run : IsRun machine start moves
  pub calm : (world_after machine start moves).fault ≡ None
  pub ended : AllEnded machine (world_after machine start moves)
  pub left : (world_after machine start moves).memory ≡ memory

-- some run ends with this fault
pub record IsRange {S P : Type 0} (machine : Machine S P) (start : World S) (fault : Fault) : Type 0 where
  pub moves : List Move
  pub run : IsRun machine start moves
  pub faulted : (world_after machine start moves).fault ≡ Some fault

-- the step is to wait at this site
abbrev pub WaitsAt : {S : Type 0} → ℕ → Next S → Type 0
WaitsAt at (Waits site after) = site ≡ at
WaitsAt at _ = ⊥

-- after some run the item waits at this site, and another item of its group cannot come to its point
pub record IsParted {S P : Type 0} (machine : Machine S P) (can_come : S → P →
    Type 0) (start : World S) (item site : ℕ) : Type 0 where
  pub moves : List Move
  pub run : IsRun machine start moves
  pub calm : (world_after machine start moves).fault ≡ None
  pub state : S
  pub here : slice_get (world_after machine start moves).items item ≡ Some state
  pub waits : WaitsAt site (machine.next state)
  pub other : ℕ
  pub apart : other ≢ item
  pub same_group : machine.group other ≡ machine.group item
  pub state' : S
  pub there : slice_get (world_after machine start moves).items other ≡ Some state'
  pub cannot_come : can_come state' (machine.point state) → ⊥

-- some run has more turns than the bound
pub record ExceedsTurns {S P : Type 0} (machine : Machine S P) (start : World S) (bound : ℕ) : Type 0 where
  pub moves : List Move
  pub run : IsRun machine start moves
  pub more : bound < turns machine start moves

-- a number that falls at each step and release, but may rise that far where an iteration begins, on states that
-- something holds of, which steps keep
abbrev pub FallsAt : {S : Type 0} → (S → Type 0) → (S → ℕ) → ℕ → ℕ → Next S → Type 0
FallsAt keeps measure rise here Ends = Unit {0}
FallsAt keeps measure rise here (Waits site after) = keeps after × (measure after < here)
FallsAt keeps measure rise here (Goes after) = keeps after × (measure after < here)
FallsAt keeps measure rise here (Begins after) = keeps after × (measure after ≤ here + rise)
FallsAt keeps measure rise here (Loads site access after) =
    (bytes : List ℕ) → keeps (after bytes) × (measure (after bytes) < here)
FallsAt keeps measure rise here (Stores site object index bytes after) = keeps after × (measure after < here)

-- each state of which the fact holds has the number that falls
abbrev pub Falls : {S P : Type 0} → Machine S P → (S → Type 0) → (S → ℕ) → ℕ → Type 0
Falls {S} machine keeps measure rise =
    (state : S) → keeps state → FallsAt keeps measure rise (measure state) (machine.next state)

-- of each item's state something holds
abbrev pub AllKeep : {S : Type 0} → (S → Type 0) → List S → Type 0
AllKeep {S} keeps items = (item : ℕ) (state : S) → slice_get items item ≡ Some state → keeps state

-- an item can come to the point where it stands, and wherever it can come after one of its steps, whose access lets
-- it go on, or after a barrier
abbrev pub ComesAt : {S P : Type 0} → (Access → Type 0) → (S → P → Type 0) → P → (P → Type 0) → Next S → Type 0
ComesAt goes_on can_come point come Ends = Unit {0}
ComesAt goes_on can_come point come (Waits site after) = can_come after point → come point
ComesAt goes_on can_come point come (Goes after) = can_come after point → come point
ComesAt goes_on can_come point come (Begins after) = can_come after point → come point
ComesAt goes_on can_come point come (Loads site access after) =
    goes_on access → (bytes : List ℕ) → can_come (after bytes) point → come point
ComesAt goes_on can_come point come (Stores site object index bytes after) =
    goes_on (record { object = object; size = length bytes; index = index }) → can_come after point → come point

-- `can_come` holds where an item stands, and wherever it holds after one of its steps
pub record IsComing {S P : Type 0} (machine : Machine S P) (goes_on : Access → Type 0) (can_come : S → P →
    Type 0) : Type 0 where
  pub here : (state : S) → can_come state (machine.point state)
  pub later : (state : S) (point : P) → ComesAt goes_on can_come point (can_come state) (machine.next state)

-- an item goes on behind each access that is in range
abbrev pub InRangeGoesOn : (Access → Type 0) → Memory → Type 0
InRangeGoesOn goes_on memory = (access : Access) → is_in_range memory access ≡ true → goes_on access
