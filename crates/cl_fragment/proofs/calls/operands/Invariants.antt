use Rattle.std.proofs.Common.{◌≡◌, ◌++◌, map}
use Rattle.std.specs.Vec.Iter.{into_iter_items}
use Rattle.cl_model.specs.View.{expression_of}
use Rattle.cl_meaning.specs.Expressions.{operands}
use Rattle.cl_fragment.specs.View.{piece_of}
use Rattle.cl_fragment.proofs.calls.operands.Given as goal

abbrev pub invariant-loop-piece : goal.invariant-loop-piece
invariant-loop-piece l = map expression_of l.values.items ++
    operands l.of (map piece_of (into_iter_items l.piece-iterator)) ≡ operands l.of (map piece_of l.fn.pieces.items)
