use Rattle.std.proofs.Common.{◌≡◌, ℕ, ◌<◌, false, length, take, get_or}
use Rattle.lane_values.specs.Access.{faults, scattered}
use Rattle.lane_kernels.proofs.access.put_each.Given as goal

abbrev pub invariant-loop-i : goal.invariant-loop-i
invariant-loop-i g l = record {
  long : length l.bytes ≡ length l.fn.bytes;
  written : l.bytes ≡ scattered g.row.S l.fn.bytes (take l.i l.fn.mask) (take l.i l.places) (take l.i l.lanes);
  clear : (k : ℕ) → k < l.i → get_or (faults g.row.S (length l.fn.bytes) l.fn.mask l.places) k false ≡ false;
}
