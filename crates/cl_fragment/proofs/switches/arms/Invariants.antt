use Rattle.std.proofs.Common.{◌≡◌, map}
use Rattle.std.specs.Vec.Iter.{into_iter_items}
use Rattle.cl_meaning.specs.Statements.{arms_of}
use Rattle.cl_fragment.specs.View.{piece_of}
use Rattle.cl_fragment.specs.Arms.{arms_with}
use Rattle.cl_fragment.proofs.switches.arms.Given as goal

abbrev pub invariant-loop-piece : goal.invariant-loop-piece
invariant-loop-piece l = arms_with l.all.items l.last (map piece_of (into_iter_items l.piece-iterator)) ≡
    arms_of (map piece_of l.fn.pieces.items)
