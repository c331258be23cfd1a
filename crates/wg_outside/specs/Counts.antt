-- Counts, which never fall and stay at their largest value.
use Rattle.std.specs.Prelude.{ℕ, ◌<◌, ◌+◌, ◌-◌, ◌^◌, min}

-- the largest count
abbrev pub last_count : ℕ
last_count = 2 ^ 64 - 1

-- the count after this one
abbrev pub next_count : ℕ → ℕ
next_count n = min (n + 1) last_count

-- the count rose in a call: it is greater after the call, or stands at its largest value
abbrev pub Rose : ℕ → ℕ → Type 0
Rose old new = old < last_count → old < new
