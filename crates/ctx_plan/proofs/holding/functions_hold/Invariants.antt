use Rattle.std.proofs.Common.{◌≡◌, map}
use Rattle.cl_model.specs.View.{function_of}
use Rattle.ctx_plan.specs.Sharing.{holding_after}
use Rattle.ctx_plan.proofs.holding.functions_hold.Given as goal

abbrev pub invariant-loop-depth : goal.invariant-loop-depth
invariant-loop-depth l = l.inside.items ≡ holding_after (map function_of l.functions) l._depth
