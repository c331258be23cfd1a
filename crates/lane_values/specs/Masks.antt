-- Masks, as lists of truth values, lane 0 first.
use Rattle.std.specs.Prelude.{ℕ, ◌<◌, ◌≡◌, List, Bool, true, false, slice_index_or}

-- lane i is set, and none below it is
pub record IsLowest (mask : List Bool) (i : ℕ) : Type 0 where
  pub set : slice_index_or mask i false ≡ true
  pub before : (k : ℕ) → k < i → slice_index_or mask k false ≡ false

-- no lane is set
abbrev pub IsEmpty : List Bool → Type 0
IsEmpty mask = (k : ℕ) → slice_index_or mask k false ≡ false
