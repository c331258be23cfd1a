use Rattle.std.proofs.Common.{sym, ap, arith}
use Rattle.diverge.specs.Known.{row_of, with_result_entry}
use Rattle.diverge.proofs.Tables.{changed_there, changed_nowhere}
use Rattle.diverge.proofs.known.change_result.Goals as goal

pub returns-then-function-rows : goal.returns-then-function-rows
returns-then-function-rows c =
    changed_there (with_result_entry c.args.entry) c.args.rows.now c.args.function c.index-rows-function.result _
    c.if-function-rows.true c.index-rows-function.is
    (ap (λ r. with_result_entry c.args.entry (row_of r)) (sym c.index-rows-function.is))

pub returns-else-function-rows : goal.returns-else-function-rows
returns-else-function-rows c =
    changed_nowhere (with_result_entry c.args.entry) c.args.rows.now c.args.function (omega (
      arith,
      c.if-function-rows.false,
    ))
