use Rattle.std.proofs.Common.{◌≡◌, ℕ, suc, ◌-◌, vec_len}
use Rattle.std.specs.Prelude.{slice_index_or}
use Rattle.mask_lower.proofs.setting.make_room.Given as goal

abbrev pub invariant-loop-none : goal.invariant-loop-none
invariant-loop-none g l = (c : ℕ) → slice_index_or l.table.items c l.none ≡ slice_index_or l.fn.table.items c l.none

abbrev pub decreases-loop-none : goal.decreases-loop-none
decreases-loop-none g l = suc l.at - vec_len l.table
