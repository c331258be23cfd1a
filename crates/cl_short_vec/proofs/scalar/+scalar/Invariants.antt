use Rattle.std.proofs.Common.{◌≡◌, drop}
use Rattle.cl_tree.specs.Syntax.{joined, views}
use Rattle.cl_short_vec.specs.Scalar as spec
use Rattle.cl_short_vec.specs.View.{marks_of}
use Rattle.cl_short_vec.proofs.scalar.+scalar.Given as goal

abbrev pub invariant-scalars-loop-node : goal.invariant-scalars-loop-node
invariant-scalars-loop-node l =
    joined (views l.trees.items) (spec.scalars (marks_of (drop l.node-index l.nodes))) ≡
    spec.scalars (marks_of l.nodes)
