use Rattle.cl_front.proofs.FrontLemmas.{no_unit_stands, too_deep_stands}
use Rattle.cl_front.proofs.front.read_unit.Goals as goal

pub returns-in-Err-Syntax-clause-err : goal.returns-in-Err-Syntax-clause-err
returns-in-Err-Syntax-clause-err c =
    no_unit_stands c.args.source.now c.args.expanded.now c.in-Err-Syntax.token c.token_place.result
    (rw c.in-Err-Syntax.field-0-is at c.in-Err-Syntax.ensures.syntax)
    (rw c.in-Err-Syntax.field-0-is at c.in-Err-Syntax.ensures.least)
    (rw c.in-Err-Syntax.field-0-is at c.token_place.ensures)

pub returns-in-Err-Nesting-clause-err : goal.returns-in-Err-Nesting-clause-err
returns-in-Err-Nesting-clause-err c =
    too_deep_stands c.args.source.now c.args.expanded.now c.in-Err-Nesting.token c.token_place-in-Err-Nesting.result
    (rw c.in-Err-Nesting.field-0-is at c.in-Err-Nesting.ensures.nesting)
    (rw c.in-Err-Nesting.field-0-is at c.in-Err-Nesting.ensures.deeper)
    (rw c.in-Err-Nesting.field-0-is at c.token_place-in-Err-Nesting.ensures)
