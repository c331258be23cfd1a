use Rattle.std.proofs.Common.{◌≡◌, drop}
use Rattle.kir.specs.Tree.{joined_to}
use Rattle.kir.specs.Listed.{lines_of}
use Rattle.kir_simplify.specs.Passes.{spliced}
use Rattle.kir_simplify.proofs.splicing.+splice.Given as goal

abbrev pub invariant-splice_each-loop-line : goal.invariant-splice_each-loop-line
invariant-splice_each-loop-line l =
    joined_to (lines_of l.kept.items) (spliced (lines_of (drop l.line-index l.lines))) ≡
    joined_to (lines_of l.fn.kept.items) (spliced (lines_of l.lines))
