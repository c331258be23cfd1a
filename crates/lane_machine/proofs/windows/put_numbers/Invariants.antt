use Rattle.std.proofs.Common.{◌≡◌, ◌+◌, drop}
use Rattle.lane_code.specs.Groups.{with_window}
use Rattle.lane_machine.proofs.windows.put_numbers.Given as goal

-- what is still to be written completes the list
abbrev pub invariant-loop-k : goal.invariant-loop-k
invariant-loop-k g l = with_window l.list (l.first + l.k) (drop l.k l.lanes) ≡ with_window l.fn.list l.first l.lanes

abbrev pub invariant-loop-k-2 : goal.invariant-loop-k-2
invariant-loop-k-2 g l = with_window l.list (l.first + l.k) (drop l.k l.lanes) ≡ with_window l.fn.list l.first l.lanes
