use Rattle.std.proofs.Common.{drop}
use Rattle.kir.specs.Listed.{lines_of}
use Rattle.kir_simplify.specs.Reading.{reads_in}
use Rattle.kir_simplify.proofs.Tables.{Halfway}
use Rattle.kir_simplify.proofs.reading.+clear.Given as goal

abbrev pub invariant-clear_lines-loop-line : goal.invariant-clear_lines-loop-line
invariant-clear_lines-loop-line l =
    Halfway l.fn.set l.set (λ c. reads_in c (lines_of (drop l.line-index l.lines))) (λ c. reads_in c (lines_of l.lines))
