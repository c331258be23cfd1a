use Rattle.std.proofs.Common.{◌≡◌, length}
use Rattle.kir.specs.Listed.{lines_of}
use Rattle.kir.specs.Tree.{joined_to}
use Rattle.kir_lower.specs.Whole.{bound_lines}
use Rattle.kir_lower.proofs.entering.put_bound.Given as goal

abbrev pub invariant-loop-others : goal.invariant-loop-others
invariant-loop-others l =
    joined_to (lines_of l.fn.lines.items) (bound_lines l.base 0 l.kinds) ≡ joined_to (lines_of l.lines.items)
    (bound_lines l.cell l.n l.rest)

abbrev pub decreases-loop-others : goal.decreases-loop-others
decreases-loop-others l = length l.rest
