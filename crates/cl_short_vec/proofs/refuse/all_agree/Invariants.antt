use Rattle.std.proofs.Common.{◌≡◌, drop}
use Rattle.cl_short_vec.specs.Faults as spec
use Rattle.cl_short_vec.specs.View.{marks_of}
use Rattle.cl_short_vec.proofs.refuse.all_agree.Given as goal

abbrev pub invariant-loop-part : goal.invariant-loop-part
invariant-loop-part l = spec.all_agree l.kind (marks_of (drop l.part-index l.parts)) ≡
    spec.all_agree l.kind (marks_of l.parts)
