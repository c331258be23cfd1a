use Rattle.std.proofs.Common.{arith, length, ◌-◌}
use Rattle.cl_scope.proofs.Declaring.{last_kind_at}
use Rattle.cl_scope.proofs.declare.last_kind.Goals as goal

pub returns-in-len1-up : goal.returns-in-len1-up
returns-in-len1-up c = last_kind_at c.args.kinds.now (length c.args.kinds.now - 1) (omega arith)
