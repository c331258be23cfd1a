use Rattle.std.proofs.Common.{◌≡◌, ◌++◌, drop, map}
use Rattle.kir.specs.Listed.{cell_of}
use Rattle.mask_lower.specs.Registers.{cells_from, behind_cells, all_free}
use Rattle.mask_lower.proofs.placing.place_cells.Given as goal

abbrev pub invariant-loop-cell : goal.invariant-loop-cell
invariant-loop-cell l = record {
  counted : l.number ≡ l.cell-index;
  placed : cells_from l.marks.items all_free 0 (map cell_of l.cell-items) ≡ l.placed.items ++
      cells_from l.marks.items l.next l.number (map cell_of (drop l.cell-index l.cell-items));
  behind : behind_cells l.marks.items all_free 0 (map cell_of l.cell-items) ≡ behind_cells l.marks.items l.next
      l.number (map cell_of (drop l.cell-index l.cell-items));
}
