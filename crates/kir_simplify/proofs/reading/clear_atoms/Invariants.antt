use Rattle.std.proofs.Common.{drop}
use Rattle.kir.specs.Live.{some_reads}
use Rattle.kir_simplify.proofs.Tables.{Halfway}
use Rattle.kir_simplify.proofs.reading.clear_atoms.Given as goal

abbrev pub invariant-loop-atom : goal.invariant-loop-atom
invariant-loop-atom l =
    Halfway l.fn.set l.set (λ c. some_reads c (drop l.atom-index l.atoms)) (λ c. some_reads c l.atoms)
