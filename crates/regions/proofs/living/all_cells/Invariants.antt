use Rattle.std.proofs.Common.{◌≡◌, replicate}
use Rattle.regions.proofs.living.all_cells.Given as goal

abbrev pub invariant-loop-cell : goal.invariant-loop-cell
invariant-loop-cell l = l.set.items ≡ replicate l._cell l.live
