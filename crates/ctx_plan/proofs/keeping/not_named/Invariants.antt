use Rattle.std.proofs.Common.{◌≡◌, replicate, None}
use Rattle.ctx_plan.proofs.keeping.not_named.Given as goal

abbrev pub invariant-loop-cell : goal.invariant-loop-cell
invariant-loop-cell l = l.first.items ≡ replicate l._cell None
