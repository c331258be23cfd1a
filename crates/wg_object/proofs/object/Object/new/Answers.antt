use Rattle.wg_object.proofs.object.Object.new.Goals as goal

pub invariant_of-result : goal.invariant_of-result
invariant_of-result c = record {
  locals = rw c.deref.ensures.value at (c.are_within.ensures.0 c.if-are_within.true);
  privates = rw c.deref-then-are_within.ensures.value at
      (c.are_within-then-are_within.ensures.0 c.if-are_within-2.true);
}
