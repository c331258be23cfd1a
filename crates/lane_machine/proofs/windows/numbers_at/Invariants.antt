use Rattle.std.proofs.Common.{◌≡◌, length, take}
use Rattle.lane_code.specs.Groups.{window}
use Rattle.lane_machine.proofs.windows.numbers_at.Given as goal

abbrev pub invariant-loop-k : goal.invariant-loop-k
invariant-loop-k g l = record {
  long : length l.lanes ≡ g.row.W;
  written : take l.k l.lanes ≡ take l.k (window 0 l.list l.first g.row.W);
}
