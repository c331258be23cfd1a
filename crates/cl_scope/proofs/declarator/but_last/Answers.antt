use Rattle.std.proofs.Common.{arith, length, ◌-◌}
use Rattle.cl_scope.proofs.Trees.{front_of}
use Rattle.cl_scope.proofs.declarator.but_last.Goals as goal

pub returns-in-len1-up : goal.returns-in-len1-up
returns-in-len1-up c = front_of c.args.trees.now (length c.args.trees.now - 1) (omega arith)
