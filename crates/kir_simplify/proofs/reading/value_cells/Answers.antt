use Rattle.kir_simplify.proofs.Tables.{values_step, values_end}
use Rattle.kir_simplify.proofs.reading.value_cells.Goals as goal

pub loop-cell-preserved : goal.loop-cell-preserved
loop-cell-preserved c =
    values_step c.loop-cell.set.items c.push.new.list.items c.args.cells.now c.loop-cell.cell-index
    c.cell-item.result c.is_value_kind.result c.loop-cell-test.true c.cell-item.is c.is_value_kind.ensures
    c.in_ok-push.ensures c.loop-cell.invariant

pub returns : goal.returns
returns c =
    values_end c.loop-cell.set.items c.args.cells.now c.loop-cell.cell-index c.loop-cell-test.false
    c.loop-cell.invariant
