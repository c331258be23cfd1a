use Rattle.std.proofs.Common.{arith, length, ◌-◌}
use Rattle.cl_scope.proofs.Trees.{end_of}
use Rattle.cl_scope.proofs.declarator.last_one.Goals as goal

pub returns-in-len1-up : goal.returns-in-len1-up
returns-in-len1-up c =
    end_of c.args.trees.now (length c.args.trees.now - 1) c.tree-item.result (omega arith) c.tree-item.is
