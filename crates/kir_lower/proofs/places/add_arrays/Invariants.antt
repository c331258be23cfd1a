use Rattle.std.proofs.Common.{◌≡◌, ◌++◌, map, take}
use Rattle.cl_model.specs.View.{array_of}
use Rattle.kir_lower.proofs.places.add_arrays.Given as goal

abbrev pub invariant-loop-array : goal.invariant-loop-array
invariant-loop-array l =
    (l.made.cells ≡ l.fn.made.cells) ×
    (map array_of l.made.arrays.items ≡ map array_of l.fn.made.arrays.items ++
    map array_of (take l.array-index l.arrays))
