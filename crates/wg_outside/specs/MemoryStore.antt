-- What a contract sees of a store in memory.
use Rattle.std.specs.Prelude.{ℕ, ◌<◌, ◌≤◌, ◌+◌, List, [], length}
use Rattle.wg_outside.specs.Files.{FileMap}

-- the files, the numbers of the calls that are to fail, the number of the next call, how many saves of how many bytes
-- there is room for, and the counts
pub record StoreView : Type 0 where
  pub files : FileMap
  pub fail : List ℕ
  pub calls : ℕ
  pub saves : ℕ
  pub room : ℕ
  pub faults : ℕ
  pub misses : ℕ

-- a store as it is made
abbrev pub new_store : List ℕ → ℕ → ℕ → StoreView
new_store fail saves room =
    record { files = []; fail = fail; calls = 0; saves = saves; room = room; faults = 0; misses = 0 }

-- a save of these bytes under this name fits into the room
abbrev pub HasRoomFor : StoreView → List ℕ → List ℕ → Type 0
HasRoomFor store name bytes = (0 < store.saves) × (length name + length bytes ≤ store.room)
