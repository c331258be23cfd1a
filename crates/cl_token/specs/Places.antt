-- The line and the column of a byte of a source.
use Rattle.std.specs.Prelude.{ℕ, List, length, Bool, ◌+◌, ◌-◌, ◌^◌, ◌==◌, take, min, count_by, if◌then◌else◌}
use Rattle.std.specs.List.{after_last}
use Rattle.wg_num.specs.declared.types.Place.{Place}

abbrev pub is_line_end : ℕ → Bool
is_line_end b = b == 10

-- one more than the number, at most what 32 bits hold
abbrev pub counted : ℕ → ℕ
counted n = min (n + 1) (2 ^ 32 - 1)

-- Lines are counted by line ends, from 1, and columns in bytes, from 1. A count stands still at 2 ^ 32 - 1.
unfoldable pub place_at : List ℕ → ℕ → Place
place_at source at = record {
  line = counted (count_by is_line_end (take at source));
  column = counted (length (after_last is_line_end (take at source)));
}

-- the place behind a byte
abbrev pub place_behind : Place → ℕ → Place
place_behind p b = if is_line_end b then record { line = counted p.line; column = 1 } else record {
  line = p.line;
  column = counted p.column;
}
