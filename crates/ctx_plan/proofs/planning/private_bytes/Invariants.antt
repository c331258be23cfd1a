use Rattle.std.proofs.Common.{◌≡◌, ◌+◌, drop, map}
use Rattle.cl_model.specs.View.{array_of}
use Rattle.ctx_plan.specs.Made.{bytes_among}
use Rattle.ctx_plan.proofs.planning.private_bytes.Given as goal

abbrev pub invariant-loop-array : goal.invariant-loop-array
invariant-loop-array l =
    l.sum + bytes_among (map array_of (drop l.array-index l.arrays)) ≡ bytes_among (map array_of l.arrays)
