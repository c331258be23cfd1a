use Rattle.std.proofs.Common.{◌≡◌, drop}
use Rattle.kir_simplify.specs.Simple.{are_constants}
use Rattle.kir_simplify.proofs.settling.are_constants.Given as goal

abbrev pub invariant-loop-atom : goal.invariant-loop-atom
invariant-loop-atom l = are_constants l.atoms ≡ are_constants (drop l.atom-index l.atoms)
