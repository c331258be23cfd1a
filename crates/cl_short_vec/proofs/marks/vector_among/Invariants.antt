use Rattle.std.proofs.Common.{◌≡◌, drop}
use Rattle.cl_short_vec.specs.Marks as spec
use Rattle.cl_short_vec.specs.View.{marks_of}
use Rattle.cl_short_vec.proofs.marks.vector_among.Given as goal

abbrev pub invariant-loop-part : goal.invariant-loop-part
invariant-loop-part l =
    spec.vector_among (marks_of (drop l.part-index l.parts)) ≡ spec.vector_among (marks_of l.parts)
