use Rattle.std.proofs.Common.{◌≡◌, drop, length, replicate}
use Rattle.kir.specs.Parts.{parts_of}
use Rattle.kir.specs.Fits.{have_types}
use Rattle.kir.proofs.fitting.all_have_type.Given as goal

abbrev pub invariant-loop-atom : goal.invariant-loop-atom
invariant-loop-atom l =
    let left = drop l.atom-index l.atoms in
    have_types (parts_of l.parts) (replicate (length l.atoms) l.of) l.atoms ≡
    have_types (parts_of l.parts) (replicate (length left) l.of) left
