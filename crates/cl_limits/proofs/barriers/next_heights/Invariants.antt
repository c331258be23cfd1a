use Rattle.std.proofs.Common.{◌≡◌, drop}
use Rattle.cl_limits.specs.Rounds.{with_points, next_heights}
use Rattle.cl_limits.proofs.barriers.next_heights.Given as goal

abbrev pub invariant-loop-point : goal.invariant-loop-point
invariant-loop-point l = with_points l.cap l.heights l.tops.items (drop l.point-index l.points) ≡
    next_heights l.cap l.count l.points l.heights
