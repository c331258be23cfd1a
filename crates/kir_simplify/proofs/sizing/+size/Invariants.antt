use Rattle.std.proofs.Common.{◌≡◌, ◌+◌, length, drop}
use Rattle.kir.specs.Listed.{lines_of}
use Rattle.kir_simplify.specs.Passes.{size_of}
use Rattle.kir_simplify.proofs.sizing.+size.Given as goal

abbrev pub invariant-mark_lines-loop-line : goal.invariant-mark_lines-loop-line
invariant-mark_lines-loop-line l =
    length l.marks.items + size_of (lines_of (drop l.line-index l.lines)) ≡
    length l.fn.marks.items + size_of (lines_of l.lines)
