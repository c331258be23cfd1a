use Rattle.std.proofs.Common.{◌≡◌, ◌*◌, ◌≤◌, min, drop}
use Rattle.cl_model.specs.Sizes.{product}
use Rattle.cl_limits.proofs.memory.product_of.Given as goal

abbrev pub invariant-loop-length : goal.invariant-loop-length
invariant-loop-length l = record {
  same : min (l.count * product (drop l.length-index l.lengths)) 18446744073709551615 ≡
      min (product l.lengths) 18446744073709551615;
  within : l.count ≤ 18446744073709551615;
}
