use Rattle.std.proofs.Common.{◌≡◌, ◌++◌, map}
use Rattle.std.specs.Vec.Iter.{into_iter_items}
use Rattle.cl_meaning.specs.Statements.{functions_in}
use Rattle.cl_meaning.specs.View.{function_of}
use Rattle.cl_fragment.specs.View.{piece_of}
use Rattle.cl_fragment.proofs.functions.functions.Given as goal

abbrev pub invariant-loop-piece : goal.invariant-loop-piece
invariant-loop-piece l = map function_of l.all.items ++
    functions_in (map piece_of (into_iter_items l.piece-iterator)) ≡ functions_in (map piece_of l.fn.pieces.items)
