-- Work-items over one memory: what an item does next, and what a move does to the world.
use Rattle.std.specs.Prelude.{◌≡◌, ℕ, suc, ◌<◌, ℤ, cond, List, [], ◌∷◌, length, Option, None, Some, slice_get}
use Rattle.std.specs.Prelude.{slice_set, nat_eq}
use Rattle.work_items.specs.Memory.{Memory, Access, is_in_range, loaded, stored}

-- what an item in some state does next
pub data Next (S : Type 0) : Type 0 where
  -- no task is left
  Ends : Next S
  -- it stands at a barrier, and is in the other state once released
  Waits : (site : ℕ) (after : S) → Next S
  -- a step with no access that begins no iteration
  Goes : (after : S) → Next S
  -- a step that begins an iteration of a loop
  Begins : (after : S) → Next S
  -- a load, whose bytes decide the state after it
  Loads : (site : ℕ) (access : Access) (after : List ℕ → S) → Next S
  -- a store of these bytes, which are one element of the object
  Stores : (site object : ℕ) (index : ℤ) (bytes : List ℕ) (after : S) → Next S

-- the items of a launch: what each state does next, the point at which it stands, and the group of each item
pub record Machine (S P : Type 0) : Type 0 where
  pub next : S → Next S
  pub point : S → P
  pub group : ℕ → ℕ

-- an access out of range: of which item, at which site
pub record Fault : Type 0 where
  pub item : ℕ
  pub site : ℕ

-- the memory, the state of each item, and the fault that ended the run, if there was one
pub record World (S : Type 0) : Type 0 where
  pub memory : Memory
  pub items : List S
  pub fault : Option Fault

-- what may happen: an item takes its step, or a group is released
pub data Move : Type 0 where
  Step : (item : ℕ) → Move
  Release : (group : ℕ) → Move

-- the item can take a step
abbrev pub HasStep : {S : Type 0} → Next S → Type 0
HasStep Ends = ⊥
HasStep (Waits site after) = ⊥
HasStep (Goes after) = Unit {0}
HasStep (Begins after) = Unit {0}
HasStep (Loads site access after) = Unit {0}
HasStep (Stores site object index bytes after) = Unit {0}

-- the item stands at a barrier
abbrev pub IsWaiting : {S : Type 0} → Next S → Type 0
IsWaiting (Waits site after) = Unit {0}
IsWaiting _ = ⊥

-- no task of the item is left
abbrev pub HasEnded : {S : Type 0} → Next S → Type 0
HasEnded Ends = Unit {0}
HasEnded _ = ⊥

-- the element that the step accesses
abbrev pub access_of : {S : Type 0} → Next S → Option Access
access_of (Loads site access after) = Some access
access_of (Stores site object index bytes after) = Some (record { object = object; size = length bytes; index = index })
access_of _ = None

-- the site of the step's access, where that is out of range
abbrev pub fault_of : {S : Type 0} → Memory → Next S → Option ℕ
fault_of memory (Loads site access after) = cond (is_in_range memory access) None (Some site)
fault_of memory (Stores site object index bytes after) =
    cond (is_in_range memory (record { object = object; size = length bytes; index = index })) None (Some site)
fault_of memory _ = None

-- the memory after the step
abbrev pub memory_after : {S : Type 0} → Memory → Next S → Memory
memory_after memory (Stores site object index bytes after) = stored memory object index bytes
memory_after memory _ = memory

-- the state after the step
abbrev pub state_after : {S : Type 0} → Memory → S → Next S → S
state_after memory state Ends = state
state_after memory state (Waits site after) = state
state_after memory state (Goes after) = after
state_after memory state (Begins after) = after
state_after memory state (Loads site access after) = after (loaded memory access)
state_after memory state (Stores site object index bytes after) = after

-- the state after the release
abbrev pub after_wait : {S : Type 0} → S → Next S → S
after_wait state (Waits site after) = after
after_wait state _ = state

-- all items of the group, of which there is one, wait at this point
pub record IsGathered {S P : Type 0} (machine : Machine S P) (items : List S) (group : ℕ) (point : P) : Type 0 where
  pub some_item : (item : ℕ) × (item < length items) × (machine.group item ≡ group)
  pub all_wait : (item : ℕ) (state : S) → machine.group item ≡ group → slice_get items item ≡ Some state →
      IsWaiting (machine.next state) × (machine.point state ≡ point)

-- the move can be made. None follows a fault
abbrev pub IsPossible : {S P : Type 0} → Machine S P → World S → Move → Type 0
IsPossible {S} machine world (Step item) =
    (world.fault ≡ None) × ((state : S) × (slice_get world.items item ≡ Some state) × HasStep (machine.next state))
IsPossible {S} {P} machine world (Release group) =
    (world.fault ≡ None) × ((point : P) × IsGathered machine world.items group point)

-- the state of an item after the release of a group
abbrev pub released : {S P : Type 0} → Machine S P → ℕ → ℕ → S → S
released machine group item state =
    cond (nat_eq (machine.group item) group) (after_wait state (machine.next state)) state

-- the items after the release of a group, where the first of them has this number
abbrev pub released_from : {S P : Type 0} → Machine S P → ℕ → ℕ → List S → List S
released_from machine group first [] = []
released_from machine group first (state ∷ states) =
    released machine group first state ∷ released_from machine group (suc first) states

-- the world after the step of an item, where its access is in range and where it is not
abbrev pub after_step : {S P : Type 0} → Machine S P → World S → ℕ → S → Option ℕ → World S
after_step machine world item state None =
    record {
      memory = memory_after world.memory (machine.next state);
      items = slice_set world.items item (state_after world.memory state (machine.next state));
      fault = world.fault;
    }
after_step machine world item state (Some site) = record world { fault = Some (record { item = item; site = site }) }

-- the same, where there is such an item
abbrev pub after_step_of : {S P : Type 0} → Machine S P → World S → ℕ → Option S → World S
after_step_of machine world item None = world
after_step_of machine world item (Some state) =
    after_step machine world item state (fault_of world.memory (machine.next state))

-- the world after a move
abbrev pub moved : {S P : Type 0} → Machine S P → World S → Move → World S
moved machine world (Step item) = after_step_of machine world item (slice_get world.items item)
moved machine world (Release group) = record world { items = released_from machine group 0 world.items }
