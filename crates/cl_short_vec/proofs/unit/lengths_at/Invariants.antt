use Rattle.std.proofs.Common.{◌≡◌, drop}
use Rattle.cl_tree.specs.Syntax.{joined, views}
use Rattle.cl_short_vec.specs.Unit as spec
use Rattle.cl_short_vec.specs.View.{marks_of}
use Rattle.cl_short_vec.proofs.unit.lengths_at.Given as goal

abbrev pub invariant-loop-part : goal.invariant-loop-part
invariant-loop-part l =
    joined (views l.list.items) (spec.lengths_at l.vector (marks_of (drop l.part-index l.parts))) ≡
    spec.lengths_at l.vector (marks_of l.parts)
