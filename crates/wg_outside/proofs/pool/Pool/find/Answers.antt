use Rattle.std.proofs.Common.{rules, arith}
use Rattle.wg_outside.proofs.FileLemmas.{find_step-hit, find_step-miss}
use Rattle.wg_outside.proofs.pool.Pool.find.Goals as goal
use Rattle.wg_outside.proofs.pool.Pool.find.Goals.{then-eq, else-eq}

pub loop-span-preserved : goal.loop-span-preserved
loop-span-preserved c =
    elim c.if-eq.branch [
      | then-eq w ↦ record {
        found = find_step-hit _ _ c.deref-span-items.result.now _ _ _ c.name_of.result.now c.as_bytes.result.now _
            w.found-is (search rules) (omega arith) c.name_of.ensures c.as_bytes.ensures.value w.if-eq.ensures;
        within = search rules;
      }
      | else-eq w ↦ record {
        found = find_step-miss _ _ c.deref-span-items.result.now _ _ _ c.name_of.result.now c.as_bytes.result.now
            c.loop-span.found _ w.found-is (search rules) (omega arith) c.name_of.ensures c.as_bytes.ensures.value
            w.if-eq.ensures c.loop-span.invariant.found;
        within = search rules;
      }
    ]
