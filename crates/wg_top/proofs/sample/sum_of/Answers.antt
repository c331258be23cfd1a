use Rattle.std.proofs.Common.{ℕ, ◌+◌, ◌%◌, ap, ◌∙◌, arith}
use Rattle.wg_top.proofs.SampleLemmas.{more_sum}
use Rattle.wg_top.proofs.sample.sum_of.Goals as goal

pub loop-k-preserved : goal.loop-k-preserved
loop-k-preserved c =
    ap (λ (n : ℕ). (c.loop-k.total + n) % 4294967296) c.from.ensures
    ∙ more_sum c.in_ok-list.list.items c.loop-k.k c.index.result.now c.loop-k.total 4294967296 (omega (
      arith,
      c.loop-k-test.true,
      c.len-k-end.ensures,
      c.in_ok-list.list.ok.0,
    )) c.index.ensures c.loop-k.invariant
