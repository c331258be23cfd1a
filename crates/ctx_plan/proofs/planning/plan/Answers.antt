use Rattle.std.proofs.Common.{sym, subst}
use Rattle.cl_model.specs.View.{program_of}
use Rattle.kir.specs.View.{kernel_of}
use Rattle.ctx_plan.specs.Planned.{IsCounted}
use Rattle.ctx_plan.specs.View.{varying_of}
use Rattle.ctx_plan.proofs.Counted.{plan_counted}
use Rattle.ctx_plan.proofs.planning.plan.Goals as goal

pub returns-clause-counted : goal.returns-clause-counted
returns-clause-counted c =
    subst (IsCounted (kernel_of c.args.kernel.now)) (sym c.in_ok-plan.ensures)
    (plan_counted (program_of c.args.program.now) (kernel_of c.args.kernel.now) (varying_of c.args.varying.now))
