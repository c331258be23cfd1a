use Rattle.std.proofs.Common.{◌≡◌, ◌++◌, drop, map}
use Rattle.kir_simplify.specs.Passes.{known_atom}
use Rattle.kir_simplify.specs.Tables.{known_in}
use Rattle.kir_simplify.proofs.settling.known_atoms.Given as goal

abbrev pub invariant-loop-atom : goal.invariant-loop-atom
invariant-loop-atom l =
    l.found.items ++ map (known_atom (known_in l.facts l.in_loop l.known)) (drop l.atom-index l.atoms) ≡
    map (known_atom (known_in l.facts l.in_loop l.known)) l.atoms
