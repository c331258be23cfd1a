use Rattle.std.proofs.Common.{◌≡◌, length}
use Rattle.kir.specs.Listed.{lines_of}
use Rattle.kir.specs.Tree.{joined_to}
use Rattle.kir_lower.specs.Whole.{parameter_lines}
use Rattle.kir_lower.proofs.entering.put_parameters.Given as goal

abbrev pub invariant-loop-value : goal.invariant-loop-value
invariant-loop-value l =
    joined_to (lines_of l.fn.lines.items) (parameter_lines l.base l.values) ≡ joined_to (lines_of l.lines.items)
    (parameter_lines l.cell l.rest)

abbrev pub decreases-loop-value : goal.decreases-loop-value
decreases-loop-value l = length l.rest
