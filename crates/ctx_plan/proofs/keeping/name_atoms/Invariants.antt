use Rattle.std.proofs.Common.{drop}
use Rattle.ctx_plan.proofs.Names.{LedThrough}
use Rattle.kir.specs.Keeps.{named_by_all}
use Rattle.ctx_plan.proofs.keeping.name_atoms.Given as goal

abbrev pub invariant-loop-atom : goal.invariant-loop-atom
invariant-loop-atom l =
    LedThrough l.fn.naming l.naming (named_by_all l.atoms) (named_by_all (drop l.atom-index l.atoms))
