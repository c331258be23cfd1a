use Rattle.std.proofs.Common.{◌≡◌, ◌+◌, length, drop}
use Rattle.kir_simplify.specs.Passes.{atoms_size}
use Rattle.kir_simplify.proofs.sizing.mark_atoms.Given as goal

abbrev pub invariant-loop-atom : goal.invariant-loop-atom
invariant-loop-atom l =
    length l.marks.items + atoms_size (drop l.atom-index l.atoms) ≡
    length l.fn.marks.items + atoms_size l.atoms
