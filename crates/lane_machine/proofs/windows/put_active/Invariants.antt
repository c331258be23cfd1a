use Rattle.std.proofs.Common.{◌≡◌, ℕ, ◌+◌, ◌≤◌, drop, get_or}
use Rattle.std.specs.Simd.Lanes.{sel_l}
use Rattle.lane_code.specs.Groups.{window, with_window}
use Rattle.lane_machine.proofs.windows.put_active.Given as goal

-- what is still to be written completes the list, and is as it was
abbrev pub invariant-loop-k : goal.invariant-loop-k
invariant-loop-k g l = record {
  completes : with_window l.list (l.first + l.k) (drop l.k (sel_l l.mask l.lanes (window 0 l.fn.list l.first g.row.W))) ≡
      with_window l.fn.list l.first (sel_l l.mask l.lanes (window 0 l.fn.list l.first g.row.W));
  same : (j : ℕ) → l.first + l.k ≤ j → get_or l.list j 0 ≡ get_or l.fn.list j 0;
}
