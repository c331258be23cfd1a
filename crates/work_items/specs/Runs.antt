-- Runs: finite lists of moves from a start world.
use Rattle.std.specs.Prelude.{◌≡◌, ◌≢◌, ℕ, ◌+◌, List, [], ◌∷◌, length, Option, None, Some, slice_get}
use Rattle.work_items.specs.Memory.{Overlap}
use Rattle.work_items.specs.Items.{Next, Begins, Loads, Stores, Machine, World, Move, Step, Release, HasEnded}
use Rattle.work_items.specs.Items.{IsPossible, moved}

-- the world after these moves
abbrev pub world_after : {S P : Type 0} → Machine S P → World S → List Move → World S
world_after machine world [] = world
world_after machine world (move ∷ moves) = world_after machine (moved machine world move) moves

-- each move can be made where it comes
abbrev pub IsRun : {S P : Type 0} → Machine S P → World S → List Move → Type 0
IsRun machine world [] = Unit {0}
IsRun machine world (move ∷ moves) = IsPossible machine world move × IsRun machine (moved machine world move) moves

-- no move can follow
abbrev pub IsOver : {S P : Type 0} → Machine S P → World S → Type 0
IsOver machine world = (move : Move) → IsPossible machine world move → ⊥

-- a run that no move can follow
pub record IsMaximal {S P : Type 0} (machine : Machine S P) (world : World S) (moves : List Move) : Type 0 where
  pub run : IsRun machine world moves
  pub over : IsOver machine (world_after machine world moves)

-- 1 for a step that begins an iteration, else 0
abbrev pub turns_of : {S : Type 0} → Next S → ℕ
turns_of (Begins after) = 1
turns_of _ = 0

-- the same of the item at a place, if there is one
abbrev pub turns_of_step : {S P : Type 0} → Machine S P → Option S → ℕ
turns_of_step machine None = 0
turns_of_step machine (Some state) = turns_of (machine.next state)

-- the same of a move
abbrev pub turns_of_move : {S P : Type 0} → Machine S P → World S → Move → ℕ
turns_of_move machine world (Step item) = turns_of_step machine (slice_get world.items item)
turns_of_move machine world (Release group) = 0

-- how many iterations the moves begin, over all items
abbrev pub turns : {S P : Type 0} → Machine S P → World S → List Move → ℕ
turns machine world [] = 0
turns machine world (move ∷ moves) = turns_of_move machine world move + turns machine (moved machine world move) moves

-- the steps access a common byte, and one of them stores
abbrev pub Conflict : {S T : Type 0} → Next S → Next T → Type 0
Conflict (Loads site access after) (Stores site' object index bytes after') =
    Overlap access (record { object = object; size = length bytes; index = index })
Conflict (Stores site object index bytes after) (Loads site' access after') =
    Overlap (record { object = object; size = length bytes; index = index }) access
Conflict (Stores site object index bytes after) (Stores site' object' index' bytes' after') =
    Overlap (record { object = object; size = length bytes; index = index }) (record {
      object = object';
      size = length bytes';
      index = index';
    })
Conflict _ _ = ⊥

-- the next steps of two items conflict
pub record Races {S P : Type 0} (machine : Machine S P) (world : World S) : Type 0 where
  pub one : ℕ
  pub other : ℕ
  pub apart : one ≢ other
  pub state : S
  pub state' : S
  pub at_one : slice_get world.items one ≡ Some state
  pub at_other : slice_get world.items other ≡ Some state'
  pub conflict : Conflict (machine.next state) (machine.next state')

-- every item has ended
abbrev pub AllEnded : {S P : Type 0} → Machine S P → World S → Type 0
AllEnded {S} machine world =
    (item : ℕ) (state : S) → slice_get world.items item ≡ Some state → HasEnded (machine.next state)
