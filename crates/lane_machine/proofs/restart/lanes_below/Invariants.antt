use Rattle.std.proofs.Common.{◌≡◌, length, take}
use Rattle.std.specs.List.{range_with_len}
use Rattle.lane_machine.proofs.restart.lanes_below.Given as goal

abbrev pub invariant-loop-i : goal.invariant-loop-i
invariant-loop-i g l = record {
  long : length l.places ≡ g.row.W;
  written : take l.i l.places ≡ take l.i (range_with_len 0 g.row.W);
}
