use Rattle.std.proofs.Common.{◌≡◌, ◌++◌, drop, map}
use Rattle.cl_meaning.specs.Expressions.{types_in}
use Rattle.cl_fragment.specs.View.{piece_of}
use Rattle.cl_fragment.proofs.calls.types_in.Given as goal

abbrev pub invariant-loop-piece : goal.invariant-loop-piece
invariant-loop-piece l =
    l.types.items ++ types_in (map piece_of (drop l.piece-index l.pieces)) ≡ types_in (map piece_of l.pieces)
