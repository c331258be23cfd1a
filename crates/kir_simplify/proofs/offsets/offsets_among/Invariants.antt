use Rattle.kir_simplify.specs.Tables.{is_one_at}
use Rattle.kir_simplify.proofs.Folds.{Marked}
use Rattle.kir_simplify.proofs.offsets.offsets_among.Given as goal

abbrev pub invariant-loop-line : goal.invariant-loop-line
invariant-loop-line l = Marked (is_one_at l.sets) l.params l.lines l.offsets.items l.line-index
