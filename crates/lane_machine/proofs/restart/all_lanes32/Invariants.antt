use Rattle.std.proofs.Common.{◌≡◌, ◌<◌, length, []}
use Rattle.std.specs.Prelude.{ℕ, slice_index_or}
use Rattle.lane_machine.proofs.restart.all_lanes32.Given as goal

-- those that were looked at have as many lanes
abbrev pub invariant-loop-i : goal.invariant-loop-i
invariant-loop-i g l = (n : ℕ) → n < l.i → length (slice_index_or l.list.items n []) ≡ g.row.W
