use Rattle.std.proofs.Common.{◌≡◌, take, nat_lt}
use Rattle.std.specs.List.{list_all}
use Rattle.lane_kernels.proofs.access.are_below.Given as goal

abbrev pub invariant-loop-i : goal.invariant-loop-i
invariant-loop-i g l = l.below ≡ list_all (λ at. nat_lt at l.count) (take l.i l.places)
