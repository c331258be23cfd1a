use Rattle.std.proofs.Common.{arith}
use Rattle.cl_tree.specs.declared.tree.Tree.TheViews.{out-Tree}
use Rattle.cl_scope.proofs.Trees.{parts_counted}
use Rattle.cl_scope.proofs.declarator.initialiser_count.Goals as goal

pub returns-in-Some : goal.returns-in-Some
returns-in-Some c = rw c.in-Some.is (omega (
  arith,
  c.len.ensures,
  (out-Tree c.in-Some.tree.now).parts.ok,
  parts_counted c.in-Some.tree.now,
))
