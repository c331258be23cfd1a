-- What holds of every clean launch.
use Rattle.std.specs.Prelude.{◌≡◌, ℕ, List, ◌++◌, length, ◌≢◌}
use Rattle.work_items.specs.Memory.{Memory}
use Rattle.work_items.specs.Items.{Machine, World, Fault, Move, IsPossible, moved}
use Rattle.work_items.specs.Runs.{world_after, IsRun, IsMaximal}
use Rattle.work_items.specs.Clean.{IsDone, IsRange, IsParted}

-- two different moves that can both be made after a run lead, in either order, to one world
pub record Commutes {S P : Type 0} (machine : Machine S P) (world : World S) (one other : Move) : Type 0 where
  pub still_other : IsPossible machine (moved machine world one) other
  pub still_one : IsPossible machine (moved machine world other) one
  pub same_world : moved machine (moved machine world one) other ≡ moved machine (moved machine world other) one

-- what all runs of a clean launch have in common
pub record Agrees {S P : Type 0} (machine : Machine S P) (can_come : S → P → Type 0) (start : World S) : Type 0 where
  pub commutes : (moves : List Move) (one other : Move) → IsRun machine start moves → one ≢ other →
      IsPossible machine (world_after machine start moves) one →
      IsPossible machine (world_after machine start moves) other
      → Commutes machine (world_after machine start moves) one other
  -- each run goes on to a maximal one
  pub ends : (moves : List Move) → IsRun machine start moves → (more : List Move) ×
      IsMaximal machine start (moves ++ more)
  -- all maximal runs have one length and one end
  pub one_length : (moves others : List Move) → IsMaximal machine start moves → IsMaximal machine start others →
      length moves ≡ length others
  pub one_end : (moves others : List Move) → IsMaximal machine start moves → IsMaximal machine start others →
      world_after machine start moves ≡ world_after machine start others
  -- the launch has one outcome, which is to be done with the memory that each interleaving leaves
  pub done : (memory : Memory) × IsDone machine start memory
  pub each_leaves : (memory : Memory) → IsDone machine start memory → (moves : List Move) →
      IsMaximal machine start moves → (world_after machine start moves).memory ≡ memory
  pub no_range : (fault : Fault) → IsRange machine start fault → ⊥
  pub no_parted : (item site : ℕ) → IsParted machine can_come start item site → ⊥
