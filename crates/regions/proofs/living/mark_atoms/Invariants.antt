use Rattle.std.proofs.Common.{drop}
use Rattle.regions.proofs.Sets.{Marks}
use Rattle.regions.proofs.living.mark_atoms.Given as goal

abbrev pub invariant-loop-atom : goal.invariant-loop-atom
invariant-loop-atom l = Marks l.fn.set l.set (drop l.atom-index l.atoms) l.atoms
