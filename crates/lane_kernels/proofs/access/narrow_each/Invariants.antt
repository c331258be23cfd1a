use Rattle.std.proofs.Common.{◌≡◌, ℕ, ◌<◌, false, length, take, get_or}
use Rattle.std.specs.Simd.Lanes.{zip2}
use Rattle.lane_values.specs.Access.{faults}
use Rattle.lane_kernels.specs.Vectors.{number_from}
use Rattle.lane_kernels.proofs.access.narrow_each.Given as goal

abbrev pub invariant-loop-i : goal.invariant-loop-i
invariant-loop-i g l = record {
  long : length l.lanes ≡ g.row.W;
  written : take l.i l.lanes ≡ take l.i (zip2 (number_from g.row.S l.bytes) l.fn.mask l.places);
  clear : (k : ℕ) → k < l.i → get_or (faults g.row.S (length l.bytes) l.fn.mask l.places) k false ≡ false;
}
