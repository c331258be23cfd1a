use Rattle.std.proofs.Common.{◌≡◌, [], drop, map}
use Rattle.kir.specs.Listed.{cell_of}
use Rattle.ctx_plan.specs.Made.{columns_onto, homes_onto}
use Rattle.ctx_plan.specs.View.{varying_of, shares_of, placed_of}
use Rattle.ctx_plan.proofs.cells.homes_of.Given as goal

abbrev pub invariant-loop-cell : goal.invariant-loop-cell
invariant-loop-cell l = homes_onto (shares_of l.sharing) (varying_of l.varying) l.across l.number
    (map cell_of (drop l.cell-index l.cells)) (placed_of l.homes)
    ≡ homes_onto (shares_of l.sharing) (varying_of l.varying) l.across 0 (map cell_of l.cells) (record {
      list = [];
      columns = columns_onto (shares_of l.sharing) (varying_of l.varying) (map cell_of l.cells) 0;
      slots = 0;
    })
