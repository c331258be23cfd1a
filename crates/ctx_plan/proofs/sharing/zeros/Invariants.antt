use Rattle.std.proofs.Common.{◌≡◌, replicate}
use Rattle.ctx_plan.proofs.sharing.zeros.Given as goal

abbrev pub invariant-loop-zero : goal.invariant-loop-zero
invariant-loop-zero l = l.list.items ≡ replicate l._zero 0
