use Rattle.ctx_plan.proofs.Onto.{any_default}
use Rattle.ctx_plan.proofs.Texts.{atoms_step}
use Rattle.ctx_plan.proofs.keeping.name_atoms.Goals as goal

pub loop-atom-preserved : goal.loop-atom-preserved
loop-atom-preserved c =
    atoms_step c.args.naming.now c.loop-atom.naming c.name_atom.new.naming c.args.atoms.now c.loop-atom.atom-index _
    c.loop-atom-test.true
    (any_default c.args.atoms.now c.loop-atom.atom-index _ _ c.loop-atom-test.true) c.loop-atom.invariant
    c.name_atom.ensures
