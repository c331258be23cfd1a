use Rattle.std.proofs.Common.{◌≡◌}
use Rattle.cl_limits.specs.Rounds.{heights_after}
use Rattle.cl_limits.proofs.barriers.heights.Given as goal

abbrev pub invariant-loop-round : goal.invariant-loop-round
invariant-loop-round l = l.heights.items ≡ heights_after l._round l.cap l.count l.points.items
