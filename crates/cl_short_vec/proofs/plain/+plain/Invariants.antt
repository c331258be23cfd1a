use Rattle.std.proofs.Common.{◌≡◌, drop}
use Rattle.cl_tree.specs.Syntax.{views}
use Rattle.cl_short_vec.specs.Plain as spec
use Rattle.cl_short_vec.proofs.plain.+plain.Given as goal

abbrev pub invariant-have_vectors-loop-tree : goal.invariant-have_vectors-loop-tree
invariant-have_vectors-loop-tree l =
    spec.have_vectors (views (drop l.tree-index l.trees)) ≡ spec.have_vectors (views l.trees)
