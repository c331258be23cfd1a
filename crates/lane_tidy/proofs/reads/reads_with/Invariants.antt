use Rattle.std.proofs.Common.{◌≡◌, length, take}
use Rattle.lane_tidy.proofs.reads.reads_with.Given as goal

abbrev pub invariant-loop-i : goal.invariant-loop-i
invariant-loop-i g l = record {
  long : length l.all ≡ 4;
  written : take l.i l.all ≡ take l.i l.registers;
}
