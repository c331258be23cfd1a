use Rattle.std.proofs.Common.{◌≡◌, ◌++◌, length, drop}
use Rattle.kir.specs.Listed.{lines_of}
use Rattle.mask_lower.specs.Atoms.{atoms_in}
use Rattle.mask_lower.specs.Registers.{frame_of, past}
use Rattle.mask_lower.specs.Lowered.{lines_code}
use Rattle.mask_lower.proofs.lines.+lines.Given as goal

abbrev pub invariant-lower_lines-loop-line : goal.invariant-lower_lines-loop-line
invariant-lower_lines-loop-line l = record {
  code : l.fn.code.items ++ lines_code (frame_of l.layout) l.at.mask l.at.free (length l.fn.code.items) l.at.next
      (lines_of l.line-items)
      ≡ l.code.items ++ lines_code (frame_of l.layout) l.at.mask l.at.free (length l.code.items) l.next
      (lines_of (drop l.line-index l.line-items));
  next : past l.at.next (atoms_in (lines_of l.line-items)) ≡
      past l.next (atoms_in (lines_of (drop l.line-index l.line-items)));
}
