use Rattle.std.proofs.Common.{◌≡◌, ◌++◌, drop, map}
use Rattle.cl_model.specs.View.{array_of}
use Rattle.mask_lower.specs.Registers.{places_from}
use Rattle.mask_lower.proofs.placing.place_arrays.Given as goal

abbrev pub invariant-loop-array : goal.invariant-loop-array
invariant-loop-array l = places_from 0 0 (map array_of l.array-items) ≡ l.places.items ++
    places_from l.locals l.privates (map array_of (drop l.array-index l.array-items))
