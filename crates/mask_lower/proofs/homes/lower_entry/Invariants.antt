use Rattle.std.proofs.Common.{◌≡◌, ◌++◌, drop}
use Rattle.kir.specs.Listed.{lines_of}
use Rattle.mask_lower.specs.Homes.{entry_code}
use Rattle.mask_lower.proofs.homes.lower_entry.Given as goal

abbrev pub invariant-loop-cell : goal.invariant-loop-cell
invariant-loop-cell l = record {
  counted : l.number ≡ l.cell-index;
  emitted : l.fn.code.items ++ entry_code l.homes.items (lines_of l.lines.items) 0 l.cell-items ≡ l.code.items ++
      entry_code l.homes.items (lines_of l.lines.items) l.number (drop l.cell-index l.cell-items);
}
