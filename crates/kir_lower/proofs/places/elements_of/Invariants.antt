use Rattle.std.proofs.Common.{◌≡◌, map, take}
use Rattle.cl_model.specs.Tree.{Array}
use Rattle.cl_model.specs.View.{array_of}
use Rattle.kir_lower.proofs.places.elements_of.Given as goal

abbrev pub invariant-loop-array : goal.invariant-loop-array
invariant-loop-array l = l.types.items ≡ map (λ (a : Array). a.element) (map array_of (take l.array-index l.arrays))
