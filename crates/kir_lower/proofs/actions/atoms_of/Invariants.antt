use Rattle.std.proofs.Common.{◌≡◌, take}
use Rattle.kir_lower.specs.Actions.{atoms_of}
use Rattle.kir_lower.proofs.actions.atoms_of.Given as goal

abbrev pub invariant-loop-value : goal.invariant-loop-value
invariant-loop-value l = l.atoms.items ≡ atoms_of (take l.value-index l.values)
