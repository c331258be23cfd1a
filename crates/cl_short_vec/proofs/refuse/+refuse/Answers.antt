use Rattle.std.proofs.Common.{arith, true}
use Rattle.cl_short_vec.specs.Faults.{told, refusals_in}
use Rattle.cl_short_vec.specs.View.{mark_of, marks_of}
use Rattle.cl_short_vec.proofs.Telling.{told_here, told_behind, told_none}
use Rattle.cl_short_vec.proofs.refuse.+refuse.Goals as goal

pub refuse_parts-returns-in-Some : goal.refuse_parts-returns-in-Some
refuse_parts-returns-in-Some t c =
    told_here c.args.role (mark_of c.args.whole.now) c.args.parts.now c.loop-part.part-index c.loop-part.left
    c.loop-part.front c.part-item.result c.role_of-place.result
    (told (refusals_in c.args.role (mark_of c.args.whole.now) true (marks_of c.args.parts.now)))
    c.in_ok-refusal.field-0 c.loop-part-test.true c.part-item.is c.loop-part.invariant.same
    c.loop-part.invariant.counted c.role_of-place.ensures c.in_ok-refusal.ensures c.in-Some.refusal c.in-Some.is

pub refuse_parts-loop-part-preserved : goal.refuse_parts-loop-part-preserved
refuse_parts-loop-part-preserved t c = record {
  same = told_behind c.args.role (mark_of c.args.whole.now) c.args.parts.now c.loop-part.part-index c.loop-part.left
      c.loop-part.front c.part-item.result c.role_of-place.result
      (told (refusals_in c.args.role (mark_of c.args.whole.now) true (marks_of c.args.parts.now)))
      c.in_ok-refusal.field-0 c.loop-part-test.true c.part-item.is c.loop-part.invariant.same
      c.loop-part.invariant.counted c.role_of-place.ensures c.in_ok-refusal.ensures c.in-None.is;
  counted = omega (arith, c.loop-part.invariant.counted, c.loop-part-test.true);
}

pub refuse_parts-returns : goal.refuse_parts-returns
refuse_parts-returns t c =
    told_none c.args.role (mark_of c.args.whole.now) c.args.parts.now c.loop-part.part-index c.loop-part.front
    (told (refusals_in c.args.role (mark_of c.args.whole.now) true (marks_of c.args.parts.now)))
    c.loop-part-test.false c.loop-part.invariant.same
