use Rattle.std.proofs.Common.{◌≡◌, ◌+◌, ◌≤◌, length, drop}
use Rattle.cl_tree.specs.Syntax.{views}
use Rattle.cl_limits.specs.Heights.{functions_among}
use Rattle.cl_limits.proofs.points.count_functions.Given as goal

abbrev pub invariant-loop-tree : goal.invariant-loop-tree
invariant-loop-tree l = record {
  same : l.count + length (functions_among (views (drop l.tree-index l.trees))) ≡
      length (functions_among (views l.trees));
  within : l.count ≤ l.tree-index;
}
