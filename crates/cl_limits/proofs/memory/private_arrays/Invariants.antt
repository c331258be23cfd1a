use Rattle.std.proofs.Common.{◌≡◌, ◌+◌, ◌≤◌, min, map, drop}
use Rattle.cl_limits.specs.Limits.{private_arrays}
use Rattle.cl_limits.proofs.memory.private_arrays.Given as goal
use Rattle.cl_meaning.specs.View.{array_of}

abbrev pub invariant-loop-array : goal.invariant-loop-array
invariant-loop-array l = record {
  same : min (l.bytes + private_arrays (map array_of (drop l.array-index l.arrays))) 18446744073709551615 ≡
      min (private_arrays (map array_of l.arrays)) 18446744073709551615;
  within : l.bytes ≤ 18446744073709551615;
}
