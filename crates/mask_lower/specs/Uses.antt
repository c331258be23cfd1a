-- What lines do first with each cell, as a table of the cells has it.
use Rattle.std.specs.Prelude.{ℕ, List, nat_eq, slice_index_or, if◌then◌else◌}
use Rattle.std.specs.Prelude.{Bool as Test, true, false}
use Rattle.mask_lower.specs.declared.setting.FirstUse.{FirstUse}
use Rattle.mask_lower.specs.declared.setting.FirstUse.TheVariants.{Neither, Read, Set}

-- no line names the cell
abbrev pub unnamed : FirstUse
unnamed = Neither

-- what the table has for a cell
abbrev pub use_at : List FirstUse → ℕ → FirstUse
use_at uses c = slice_index_or uses c Neither

-- whether a cell with which this is done first is set before it is read, if the lines behind answer so
abbrev pub is_set_first : FirstUse → (behind : Test) → Test
is_set_first Neither behind = behind
is_set_first Read behind = false
is_set_first Set behind = true

-- whether it is so of a cell, where one with this number is used so before those lines
abbrev pub used_at : (cell : ℕ) → FirstUse → ℕ → (behind : Test) → Test
used_at cell found c behind = if nat_eq c cell then is_set_first found behind else behind
