use Rattle.std.proofs.Common.{◌≡◌, ◌++◌, drop, map}
use Rattle.cl_model.specs.View.{array_of}
use Rattle.item_loops.specs.Built.{array_sizes}
use Rattle.item_loops.proofs.arrays.sizes_in.Given as goal

-- with the arrays still to come they are the sizes of all
abbrev pub invariant-loop-array : goal.invariant-loop-array
invariant-loop-array l = l.sizes.items ++ array_sizes l.private (map array_of (drop l.array-index l.arrays)) ≡
    array_sizes l.private (map array_of l.arrays)
