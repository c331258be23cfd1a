use Rattle.std.proofs.Common.{◌≡◌}
use Rattle.regions.specs.Living.{those_of}
use Rattle.regions.proofs.living.listed_cells.Given as goal

abbrev pub invariant-loop-cell : goal.invariant-loop-cell
invariant-loop-cell l = l.list.items ≡ those_of l.cell l.set
