use Rattle.kir_simplify.specs.Tables.{listed}
use Rattle.kir_simplify.proofs.Folds.{offsets_found}
use Rattle.kir_simplify.proofs.offsets.facts_of.Goals as goal

pub returns-clause-offsets : goal.returns-clause-offsets
returns-clause-offsets c =
    offsets_found (listed c.in_ok-offsets.offsets.items) c.in_ok-sets.sets.items c.deref-2.result.now
    c.args.kernel.now.params.items c.deref-3.result.now c.deref.result.now c.deref-4.result.now
    c.args.kernel.now.body.items c.in_ok-offsets.ensures c.deref-2.ensures.value c.deref-3.ensures.value
    c.deref-4.ensures.value c.in_ok-sets.ensures c.deref.ensures.value
