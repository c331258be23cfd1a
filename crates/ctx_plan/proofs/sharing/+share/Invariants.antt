use Rattle.std.proofs.Common.{◌≡◌, drop}
use Rattle.ctx_plan.specs.Outline.{NoPiece, pieces_then}
use Rattle.ctx_plan.specs.Points.{entry}
use Rattle.ctx_plan.specs.Sharing.{share_columns}
use Rattle.ctx_plan.specs.View.{plain_columns}
use Rattle.ctx_plan.proofs.sharing.+share.Given as goal

abbrev pub invariant-share_block-loop-piece : goal.invariant-share_block-loop-piece
invariant-share_block-loop-piece l =
    share_columns (entry l.marked) l.within l.next (pieces_then (drop l.piece-index l.block) NoPiece)
    (plain_columns l.columns) ≡ share_columns (entry l.marked) l.within l.fn.around (pieces_then l.block NoPiece)
    (plain_columns l.fn.columns)
