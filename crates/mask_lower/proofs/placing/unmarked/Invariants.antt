use Rattle.std.proofs.Common.{◌≡◌, ◌++◌, false, length, drop, replicate}
use Rattle.mask_lower.proofs.placing.unmarked.Given as goal

abbrev pub invariant-loop-cell : goal.invariant-loop-cell
invariant-loop-cell l = replicate (length l._cell-items) false ≡ l.marks.items ++
    replicate (length (drop l._cell-index l._cell-items)) false
