use Rattle.std.proofs.Common.{◌≡◌, ◌+◌, drop, length, true}
use Rattle.cl_short_vec.specs.Faults as spec
use Rattle.cl_short_vec.specs.View.{mark_of, marks_of}
use Rattle.cl_short_vec.proofs.refuse.+refuse.Given as goal

abbrev pub invariant-refuse_parts-loop-part : goal.invariant-refuse_parts-loop-part
invariant-refuse_parts-loop-part l = record {
  same : spec.told (spec.refusals_in l.role (mark_of l.whole) l.front (marks_of (drop l.part-index l.parts))) ≡
      spec.told (spec.refusals_in l.role (mark_of l.whole) true (marks_of l.parts));
  counted : l.left + l.part-index ≡ length l.parts;
}
