use Rattle.std.proofs.Common.{◌≡◌, ◌+◌, ◌≤◌, min, drop}
use Rattle.cl_tree.specs.Syntax.{views}
use Rattle.cl_limits.specs.Limits.{count_forest}
use Rattle.cl_limits.proofs.nodes.+nodes.Given as goal

abbrev pub invariant-count_all-loop-tree : goal.invariant-count_all-loop-tree
invariant-count_all-loop-tree l = record {
  same : min (l.count + count_forest (views (drop l.tree-index l.trees))) 18446744073709551615 ≡
      min (count_forest (views l.trees)) 18446744073709551615;
  within : l.count ≤ 18446744073709551615;
}
