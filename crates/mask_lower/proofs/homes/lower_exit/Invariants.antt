use Rattle.std.proofs.Common.{◌≡◌, ◌++◌, drop}
use Rattle.mask_lower.specs.Homes.{exit_code}
use Rattle.mask_lower.proofs.homes.lower_exit.Given as goal

abbrev pub invariant-loop-cell : goal.invariant-loop-cell
invariant-loop-cell l =
    l.fn.code.items ++ exit_code l.homes.items l.cells.items l.cell-items ≡ l.code.items ++
    exit_code l.homes.items l.cells.items (drop l.cell-index l.cell-items)
