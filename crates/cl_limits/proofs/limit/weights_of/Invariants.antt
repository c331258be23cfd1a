use Rattle.std.proofs.Common.{◌≡◌, ◌++◌, min, map, drop}
use Rattle.cl_tree.specs.Syntax.{views}
use Rattle.cl_limits.specs.Kernel.{blocks_in}
use Rattle.cl_limits.proofs.limit.weights_of.Given as goal

abbrev pub invariant-loop-part : goal.invariant-loop-part
invariant-loop-part l = l.weights.items ++ map (λ n. min n 18446744073709551615)
    (blocks_in (views (drop l.part-index l.part-items))) ≡ map (λ n. min n 18446744073709551615)
    (blocks_in (views l.part-items))
