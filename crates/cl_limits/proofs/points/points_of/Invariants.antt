use Rattle.std.proofs.Common.{◌≡◌, ◌≤◌, [], drop}
use Rattle.cl_tree.specs.Syntax.{views}
use Rattle.cl_limits.specs.Heights.{functions_among}
use Rattle.cl_limits.specs.Points.{functions_onto}
use Rattle.cl_limits.proofs.points.points_of.Given as goal

abbrev pub invariant-loop-tree : goal.invariant-loop-tree
invariant-loop-tree l = record {
  same : functions_onto (functions_among (views l.trees)) l.cap l.caller
      (functions_among (views (drop l.tree-index l.trees))) l.points.items ≡
      functions_onto (functions_among (views l.trees)) l.cap 0 (functions_among (views l.trees)) [];
  within : l.caller ≤ l.tree-index;
}
