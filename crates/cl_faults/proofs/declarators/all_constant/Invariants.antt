use Rattle.std.proofs.Common.{◌≡◌, drop, map}
use Rattle.cl_tree.specs.Syntax.{view}
use Rattle.cl_meaning.specs.Faults.{all_constant}
use Rattle.cl_faults.proofs.declarators.all_constant.Given as goal

abbrev pub invariant-loop-tree : goal.invariant-loop-tree
invariant-loop-tree l = all_constant (map view (drop l.tree-index l.trees)) ≡ all_constant (map view l.trees)
