use Rattle.std.proofs.Common.{◌≡◌, drop}
use Rattle.ctx_plan.specs.Points.{entry, points_hold}
use Rattle.ctx_plan.proofs.holding.some_hold.Given as goal

abbrev pub invariant-loop-point : goal.invariant-loop-point
invariant-loop-point l =
    points_hold (entry l.inside) (drop l.point-index l.points) ≡ points_hold (entry l.inside) l.points
