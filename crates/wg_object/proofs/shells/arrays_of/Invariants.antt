use Rattle.std.proofs.Common.{◌≡◌, map, take}
use Rattle.wg_object.specs.Shell.{shell_array}
use Rattle.wg_object.proofs.shells.arrays_of.Given as goal

abbrev pub invariant-loop-bytes : goal.invariant-loop-bytes
invariant-loop-bytes l = map (λ a. (a.space, a.element, a.dims.items)) l.arrays.items ≡
    map shell_array (take l.bytes-index l.locals)
