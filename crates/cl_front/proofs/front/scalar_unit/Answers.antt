use Rattle.cl_tree.specs.Syntax.{view}
use Rattle.cl_front.proofs.FrontLemmas.{on_vectors_stands}
use Rattle.cl_front.proofs.front.scalar_unit.Goals as goal

pub returns-in-Err-Refused-clause-err : goal.returns-in-Err-Refused-clause-err
returns-in-Err-Refused-clause-err c =
    on_vectors_stands c.args.source.now c.args.expanded.now (view c.args.unit) c.in-Err-Refused.refusal
    c.token_place.result c.requires.spelled c.requires.nests
    (rw c.in-Err-Refused.field-0-is at c.in-Err-Refused.ensures.refused) c.token_place.ensures
