use Rattle.std.proofs.Common.{◌≡◌, ◌++◌, drop, map}
use Rattle.kir.specs.Listed.{cell_of}
use Rattle.kir_simplify.specs.Tables.{values_among}
use Rattle.kir_simplify.proofs.reading.value_cells.Given as goal

abbrev pub invariant-loop-cell : goal.invariant-loop-cell
invariant-loop-cell l =
    l.set.items ++ values_among (map cell_of (drop l.cell-index l.cells)) ≡ values_among (map cell_of l.cells)
