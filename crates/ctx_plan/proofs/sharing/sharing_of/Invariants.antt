use Rattle.std.proofs.Common.{◌≡◌, [], drop, map, replicate, length}
use Rattle.cl_model.specs.View.{function_of}
use Rattle.ctx_plan.specs.Sharing.{shares_onto}
use Rattle.ctx_plan.specs.View.{varying_of, shares_of}
use Rattle.ctx_plan.proofs.sharing.sharing_of.Given as goal

abbrev pub invariant-loop-function : goal.invariant-loop-function
invariant-loop-function l = shares_onto l.inside (varying_of l.varying) l.number
    (map function_of (drop l.function-index l.program.functions.items)) (shares_of l.sharing)
    ≡ shares_onto l.inside (varying_of l.varying) 0 (map function_of l.program.functions.items)
    (record { crossing = []; numbers = []; taken = replicate (length l.program.sites.items) 0 })
