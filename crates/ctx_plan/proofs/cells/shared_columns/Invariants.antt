use Rattle.std.proofs.Common.{◌≡◌, drop, map}
use Rattle.kir.specs.Listed.{cell_of}
use Rattle.ctx_plan.specs.Made.{columns_onto}
use Rattle.ctx_plan.specs.View.{varying_of, shares_of}
use Rattle.ctx_plan.proofs.cells.shared_columns.Given as goal

abbrev pub invariant-loop-cell : goal.invariant-loop-cell
invariant-loop-cell l = columns_onto (shares_of l.sharing) (varying_of l.varying)
    (map cell_of (drop l.cell-index l.cells)) l.columns ≡ columns_onto (shares_of l.sharing) (varying_of l.varying)
    (map cell_of l.cells) 0
