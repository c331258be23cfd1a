use Rattle.std.proofs.Common.{ap, sym, ◌∙◌}
use Rattle.ctx_plan.specs.Outline.{NoPiece, piece_then, pieces_then}
use Rattle.ctx_plan.specs.Points.{entry}
use Rattle.ctx_plan.specs.Sharing.{share_columns, share_block}
use Rattle.ctx_plan.specs.View.{plain_columns}
use Rattle.ctx_plan.proofs.Outlines.{block_piece}
use Rattle.ctx_plan.proofs.sharing.+share.Goals as goal

pub share_piece-returns-in_ok-share_block-in-Block : goal.share_piece-returns-in_ok-share_block-in-Block
share_piece-returns-in_ok-share_block-in-Block t c = λ rest.
    let M = entry c.args.marked.now in
    let S = plain_columns c.args.columns.now in
    ap (λ p. share_columns M c.args.within c.args.next (piece_then p rest) S) c.in-Block.is
    ∙ (ap (λ o. share_columns M c.args.within c.args.next o S) (block_piece c.in-Block.inner rest)
    ∙ ap (share_columns M c.args.within c.args.next rest)
    (sym (c.in_ok-share_block-in-Block.ensures ∙
    ap (λ xs. share_block M c.args.within (pieces_then xs NoPiece) S) c.deref.ensures.value)))
