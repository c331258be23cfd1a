use Rattle.std.proofs.Common.{◌≡◌, ◌≤◌, drop}
use Rattle.cl_tree.specs.Syntax.{views}
use Rattle.cl_limits.specs.Heights.{functions_among, number_from}
use Rattle.cl_limits.proofs.points.number_of.Given as goal

abbrev pub invariant-loop-tree : goal.invariant-loop-tree
invariant-loop-tree l = record {
  same : number_from l.name l.number (functions_among (views (drop l.tree-index l.trees))) ≡
      number_from l.name 0 (functions_among (views l.trees));
  within : l.number ≤ l.tree-index;
}
