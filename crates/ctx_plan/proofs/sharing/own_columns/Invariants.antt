use Rattle.std.proofs.Common.{◌≡◌, ◌+◌, drop}
use Rattle.ctx_plan.specs.Outline.{NoPiece, pieces_then}
use Rattle.ctx_plan.specs.Points.{entry}
use Rattle.ctx_plan.specs.Sharing.{own_columns}
use Rattle.ctx_plan.proofs.sharing.own_columns.Given as goal

abbrev pub invariant-loop-piece : goal.invariant-loop-piece
invariant-loop-piece l = l.count + own_columns (entry l.marked) (pieces_then (drop l.piece-index l.block) NoPiece) ≡
    own_columns (entry l.marked) (pieces_then l.block NoPiece)
