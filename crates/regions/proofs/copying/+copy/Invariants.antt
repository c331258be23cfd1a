use Rattle.std.proofs.Common.{◌≡◌, drop}
use Rattle.kir.specs.Tree.{joined_to}
use Rattle.kir.specs.Listed.{lines_of}
use Rattle.regions.proofs.copying.+copy.Given as goal

abbrev pub invariant-copy_lines-loop-line : goal.invariant-copy_lines-loop-line
invariant-copy_lines-loop-line l =
    joined_to (lines_of l.copied.items) (lines_of (drop l.line-index l.lines)) ≡ lines_of l.lines
