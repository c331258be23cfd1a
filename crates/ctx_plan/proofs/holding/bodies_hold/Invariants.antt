use Rattle.std.proofs.Common.{◌≡◌, ◌++◌, drop, map}
use Rattle.cl_model.specs.View.{function_of}
use Rattle.ctx_plan.specs.Sharing.{bodies_after}
use Rattle.ctx_plan.proofs.holding.bodies_hold.Given as goal

abbrev pub invariant-loop-function : goal.invariant-loop-function
invariant-loop-function l = l.list.items ++
    bodies_after l.inside (map function_of (drop l.function-index l.functions)) ≡
    bodies_after l.inside (map function_of l.functions)
