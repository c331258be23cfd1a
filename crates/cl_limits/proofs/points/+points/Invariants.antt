use Rattle.std.proofs.Common.{◌≡◌, drop}
use Rattle.cl_tree.specs.Syntax.{views}
use Rattle.cl_limits.specs.Heights.{functions_among}
use Rattle.cl_limits.specs.Points.{all_onto}
use Rattle.cl_limits.proofs.points.+points.Given as goal

abbrev pub invariant-put_trees-loop-tree : goal.invariant-put_trees-loop-tree
invariant-put_trees-loop-tree l =
    all_onto (functions_among (views l.unit)) l.at (views (drop l.tree-index l.trees)) l.points.items ≡
    all_onto (functions_among (views l.unit)) l.at (views l.trees) l.fn.points.items
