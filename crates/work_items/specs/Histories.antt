-- What one item does: its own steps from its start, whatever the others do.
use Rattle.std.specs.Prelude.{◌≡◌, ℕ, ℤ, true, List, [], ◌∷◌, ◌++◌, length, slice_get, Some, nat_eq, if◌then◌else◌}
use Rattle.work_items.specs.Memory.{Memory, Access, has_element, is_in_range, loaded, stored}
use Rattle.work_items.specs.Items.{Next, Ends, Waits, Goes, Begins, Loads, Stores, Machine, World, Move}
use Rattle.work_items.specs.Runs.{world_after}
use Rattle.work_items.specs.Simulation.{Event, Loaded, Stored, Faulted, Began, Freed, trace}

-- what is seen of an item's own step: a barrier passed, an iteration begun, a load with its answer, a store
pub data Deed : Type 0 where
  Passed : Deed
  Turned : Deed
  Read : (site : ℕ) (access : Access) (bytes : List ℕ) → Deed
  Wrote : (site object : ℕ) (index : ℤ) (bytes : List ℕ) → Deed

-- an object of this length has the element
abbrev pub Fits : (ℕ → ℕ) → ℕ → ℕ → ℤ → Type 0
Fits lengths object size index = has_element (lengths object) size index ≡ true

-- the step leads to that state, with this deed
abbrev pub DoesOnce : {S : Type 0} → (ℕ → ℕ) → (Access → List ℕ → Type 0) → Next S → Deed → S → Type 0
DoesOnce lengths told (Waits site after) Passed to = after ≡ to
DoesOnce lengths told (Begins after) Turned to = after ≡ to
DoesOnce lengths told (Loads site access after) (Read at read bytes) to =
    (site ≡ at) × (access ≡ read) × Fits lengths access.object access.size access.index × told access bytes ×
    (after bytes ≡ to)
DoesOnce lengths told (Stores site object index bytes after) (Wrote at object' index' bytes') to =
    (site ≡ at) × (object ≡ object') × (index ≡ index') × (bytes ≡ bytes') ×
    Fits lengths object (length bytes) index × (after ≡ to)
DoesOnce lengths told _ _ to = ⊥

-- a history of an item: its deeds from one state to another, where objects have these lengths, and loads give what
-- may be told
pub data History {S : Type 0} (lengths : ℕ → ℕ) (told : Access → List ℕ → Type 0) (next : S → Next S) : S →
    List Deed → S → Type 0 where
  nothing : {s : S} → History lengths told next s [] s
  going : {s mid to : S} {deeds : List Deed} → next s ≡ Goes mid → History lengths told next mid deeds to →
      History lengths told next s deeds to
  doing : {s mid to : S} {deed : Deed} {deeds : List Deed} → DoesOnce lengths told (next s) deed mid →
      History lengths told next mid deeds to → History lengths told next s (deed ∷ deeds) to

-- each load from the memory gives what may be told
abbrev pub Tells : (Access → List ℕ → Type 0) → Memory → Type 0
Tells told memory = (access : Access) → is_in_range memory access ≡ true → told access (loaded memory access)

-- of the states that an item can be in, something holds that a step keeps; and a store keeps what may be told
abbrev pub KeepsTold : {S : Type 0} → (Access → List ℕ → Type 0) → (S → Type 0) → Next S → Type 0
KeepsTold told keeps Ends = Unit {0}
KeepsTold told keeps (Waits site after) = keeps after
KeepsTold told keeps (Goes after) = keeps after
KeepsTold told keeps (Begins after) = keeps after
KeepsTold told keeps (Loads site access after) = (bytes : List ℕ) → told access bytes → keeps (after bytes)
KeepsTold told keeps (Stores site object index bytes after) =
    keeps after × ((memory : Memory) → Tells told memory → Tells told (stored memory object index bytes))

-- what an event is to an item, where its group is freed or it is the item's own
abbrev pub deed_of : (ℕ → ℕ) → ℕ → Event → List Deed
deed_of group item (Loaded by site access bytes) = if nat_eq by item then Read site access bytes ∷ [] else []
deed_of group item (Stored by site object index bytes) =
    if nat_eq by item then Wrote site object index bytes ∷ [] else []
deed_of group item (Faulted by site) = []
deed_of group item (Began by) = if nat_eq by item then Turned ∷ [] else []
deed_of group item (Freed freed) = if nat_eq (group item) freed then Passed ∷ [] else []

-- what a trace is to an item
abbrev pub deeds_of : (ℕ → ℕ) → ℕ → List Event → List Deed
deeds_of group item [] = []
deeds_of group item (event ∷ events) = deed_of group item event ++ deeds_of group item events

-- what each item does in a run is a history of it: what the run's trace is to it
pub record HasHistories {S P : Type 0} (machine : Machine S P) (lengths : ℕ → ℕ) (told : Access → List ℕ →
    Type 0) (start : World S) (moves : List Move) : Type 0 where
  pub each : (item : ℕ) (first : S) → slice_get start.items item ≡ Some first
      → (last : S) × (slice_get (world_after machine start moves).items item ≡ Some last) ×
      History lengths told machine.next first (deeds_of machine.group item (trace machine start moves)) last
