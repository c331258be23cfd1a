use Rattle.std.proofs.Common.{◌≡◌, ℕ, ◌+◌, ◌*◌, drop}
use Rattle.kir.specs.Tree.{NoLine, joined_to}
use Rattle.kir.specs.Listed.{line_before, lines_of}
use Rattle.kir_simplify.specs.Computable.{AreComputable}
use Rattle.kir_simplify.specs.Passes.{folded, size_of}
use Rattle.kir_simplify.specs.Tables.{known_by, known_in, offsets_by, once_by, unlearned}
use Rattle.kir_simplify.proofs.folding.+fold.Given as goal

abbrev pub invariant-fold_lines-loop-line : goal.invariant-fold_lines-loop-line
invariant-fold_lines-loop-line l = record {
  before : (c : ℕ) → unlearned l.trail.items (known_by l.known.items) c ≡ known_by l.fn.known.items c;
  made : joined_to (lines_of l.made.items) (folded (once_by l.facts) (offsets_by l.facts)
      (known_in l.facts l.in_loop l.known.items) (lines_of (drop l.line-index l.lines))) ≡
      folded (once_by l.facts) (offsets_by l.facts) (known_in l.facts l.in_loop l.fn.known.items) (lines_of l.lines);
  computable : AreComputable (once_by l.facts) (offsets_by l.facts) (known_in l.facts l.in_loop l.known.items)
      (lines_of (drop l.line-index l.lines));
}

-- the size, and which function walks
abbrev pub decreases-fold_lines : goal.decreases-fold_lines
decreases-fold_lines l = 2 * size_of (lines_of l.lines.now) + 1

abbrev pub decreases-fold_onto : goal.decreases-fold_onto
decreases-fold_onto l = 2 * size_of (line_before l.line.now NoLine)
