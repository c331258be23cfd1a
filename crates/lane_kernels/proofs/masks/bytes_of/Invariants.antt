use Rattle.std.proofs.Common.{◌≡◌, map, length, take}
use Rattle.std.specs.Int.{from_bool}
use Rattle.lane_kernels.proofs.masks.bytes_of.Given as goal

abbrev pub invariant-loop-i : goal.invariant-loop-i
invariant-loop-i g l = (length l.lanes ≡ g.row.W) × (take l.i l.lanes ≡ take l.i (map from_bool l.mask))
