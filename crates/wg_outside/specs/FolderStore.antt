-- What a contract sees of a store over the current folder.
use Rattle.std.specs.Prelude.{ℕ}

-- its counts
pub record FolderCounts : Type 0 where
  pub faults : ℕ
  pub misses : ℕ

-- the counts of a store as it is made
abbrev pub new_counts : FolderCounts
new_counts = record { faults = 0; misses = 0 }
