use Rattle.std.proofs.Common.{◌≡◌, drop}
use Rattle.kir.specs.Tree.{joined_to}
use Rattle.kir.specs.Listed.{lines_of}
use Rattle.kir_simplify.specs.Passes.{swept}
use Rattle.kir_simplify.specs.Tables.{listed}
use Rattle.kir_simplify.proofs.sweeping.+sweep.Given as goal

abbrev pub invariant-sweep_lines-loop-line : goal.invariant-sweep_lines-loop-line
invariant-sweep_lines-loop-line l =
    joined_to (lines_of l.kept.items) (swept (listed l.unread) (lines_of (drop l.line-index l.lines))) ≡
    swept (listed l.unread) (lines_of l.lines)
