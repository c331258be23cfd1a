use Rattle.std.proofs.Common.{sym, ◌∙◌}
use Rattle.cl_tree.specs.Syntax.{view}
use Rattle.cl_faults.specs.View.{asked_of}
use Rattle.cl_check.proofs.Aside.{kind_aside, least_aside}
use Rattle.cl_check.proofs.walk.look.Goals as goal

pub returns-clause-fault : goal.returns-clause-fault
returns-clause-fault c = λ places. least_aside (asked_of c.args.asked.now) places c.args.environment.now c.args.role
    (view c.args.tree.now) c.args.kinds.now c.in_ok-fault.fault c.in_ok-fault.ensures

pub returns-clause-kind : goal.returns-clause-kind
returns-clause-kind c = λ places. c.kind_of-kind.ensures ∙
    sym (kind_aside places c.args.environment.now c.args.role (view c.args.tree.now) c.args.kinds.now)
