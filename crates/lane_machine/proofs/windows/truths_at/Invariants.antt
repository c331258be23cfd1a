use Rattle.std.proofs.Common.{◌≡◌, ℕ, ◌≤◌, length, take, get_or, false}
use Rattle.lane_code.specs.Groups.{window}
use Rattle.lane_machine.proofs.windows.truths_at.Given as goal

abbrev pub invariant-loop-k : goal.invariant-loop-k
invariant-loop-k g l = record {
  long : length l.lanes ≡ g.row.W;
  written : take l.k l.lanes ≡ take l.k (window false l.list l.first g.row.W);
}

abbrev pub invariant-loop-k-2 : goal.invariant-loop-k-2
invariant-loop-k-2 g l = record {
  long : length l.lanes ≡ g.row.W;
  written : take l.k l.lanes ≡ take l.k (window false l.list l.first g.row.W);
  unwritten : (j : ℕ) → l.k ≤ j → get_or l.lanes j false ≡ false;
}
