use Rattle.std.proofs.Common.{◌≡◌, ℕ, ◌≤◌, length, take, get_or}
use Rattle.lane_code.specs.Groups.{window}
use Rattle.lane_machine.proofs.windows.numbers_within.Given as goal

abbrev pub invariant-loop-k : goal.invariant-loop-k
invariant-loop-k g l = record {
  long : length l.lanes ≡ g.row.W;
  written : take l.k l.lanes ≡ take l.k (window 0 l.list l.first g.row.W);
  unwritten : (j : ℕ) → l.k ≤ j → get_or l.lanes j 0 ≡ 0;
}
