use Rattle.std.proofs.Common.{◌≡◌, ◌++◌, drop}
use Rattle.kir.specs.Listed.{lines_of}
use Rattle.mask_lower.specs.Homes.{put_cells}
use Rattle.mask_lower.proofs.setting.put_cells.Given as goal

abbrev pub invariant-loop-cell : goal.invariant-loop-cell
invariant-loop-cell l =
    put_cells (lines_of l.lines.items) l.cell-items ≡ l.put.items ++
    put_cells (lines_of l.lines.items) (drop l.cell-index l.cell-items)
