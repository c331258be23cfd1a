use Rattle.std.proofs.Common.{◌≡◌, map}
use Rattle.std.specs.Vec.Iter.{into_iter_items}
use Rattle.cl_model.specs.View.{listed_statements}
use Rattle.cl_meaning.specs.Statements.{followed, all_lines}
use Rattle.cl_fragment.specs.View.{piece_of}
use Rattle.cl_fragment.proofs.lines.all_lines.Given as goal

abbrev pub invariant-loop-piece : goal.invariant-loop-piece
invariant-loop-piece l = followed (listed_statements l.lines.items)
    (all_lines (map piece_of (into_iter_items l.piece-iterator))) ≡ all_lines (map piece_of l.fn.pieces.items)
