use Rattle.std.proofs.Common.{◌+◌, ◌*◌, min, drop, arith, ◌∙◌, ap}
use Rattle.cl_model.specs.Sizes.{product}
use Rattle.cl_limits.proofs.Caps.{product_step}
use Rattle.cl_limits.proofs.memory.product_of.Goals as goal

pub loop-length-preserved : goal.loop-length-preserved
loop-length-preserved c = record {
  same = ap (λ n. min (n * product (drop (c.loop-length.length-index + 1) c.args.lengths.now)) 18446744073709551615)
      c.saturating_mul-count.ensures ∙
      (product_step c.args.lengths.now c.loop-length.length-index c.loop-length.count 18446744073709551615
      c.loop-length-test.true ∙ c.loop-length.invariant.same);
  within = omega (arith, c.saturating_mul-count.ensures);
}
