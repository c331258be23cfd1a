use Rattle.std.proofs.Common.{◌≡◌, drop, map}
use Rattle.cl_tree.specs.Syntax.{view}
use Rattle.cl_meaning.specs.Faults.{all_positive}
use Rattle.cl_faults.proofs.declarators.all_positive.Given as goal

abbrev pub invariant-loop-tree : goal.invariant-loop-tree
invariant-loop-tree l = all_positive (map view (drop l.tree-index l.trees)) ≡ all_positive (map view l.trees)
