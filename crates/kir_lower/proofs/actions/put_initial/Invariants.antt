use Rattle.std.proofs.Common.{◌≡◌, length}
use Rattle.kir.specs.Listed.{lines_of}
use Rattle.kir.specs.Tree.{joined_to}
use Rattle.kir_lower.specs.Actions.{initial_lines}
use Rattle.kir_lower.proofs.actions.put_initial.Given as goal

abbrev pub invariant-loop-value : goal.invariant-loop-value
invariant-loop-value l =
    joined_to (lines_of l.fn.lines.items) (initial_lines l.site l.of l.array 0 l.values) ≡
    joined_to (lines_of l.lines.items) (initial_lines l.site l.of l.array l.k l.rest)

abbrev pub decreases-loop-value : goal.decreases-loop-value
decreases-loop-value l = length l.rest
