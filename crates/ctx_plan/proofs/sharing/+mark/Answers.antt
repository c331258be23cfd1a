use Rattle.std.proofs.Common.{ap, sym, ◌∙◌}
use Rattle.std.specs.Prelude.{◌||◌}
use Rattle.ctx_plan.specs.Outline.{NoPiece, piece_then, pieces_then}
use Rattle.ctx_plan.specs.Points.{entry}
use Rattle.ctx_plan.specs.Sharing.{has_cut, mark_crossing}
use Rattle.ctx_plan.proofs.Outlines.{block_piece}
use Rattle.ctx_plan.proofs.sharing.+mark.Goals as goal

pub mark_piece-returns-then-within-clause-cut : goal.mark_piece-returns-then-within-clause-cut
mark_piece-returns-then-within-clause-cut t c = λ rest e.
    let I = entry c.args.inside.now in
    let here =
    c.mark_crossing-within.ensures.cut ∙ ap (λ xs. has_cut I (pieces_then xs NoPiece)) c.deref.ensures.value in
    c.if-within.true
    ∙ (sym (ap (λ x. x || has_cut I rest) (sym here ∙ c.if-within.true))
    ∙ sym (ap (λ p. has_cut I (piece_then p rest)) c.in-Block.is ∙ ap (has_cut I) (block_piece c.in-Block.inner rest)))

pub mark_piece-returns-then-within-clause-marks : goal.mark_piece-returns-then-within-clause-marks
mark_piece-returns-then-within-clause-marks t c = λ rest list e same.
    let I = entry c.args.inside.now in
    c.mark_crossing-within.ensures.marks
    ∙ (ap (λ xs. mark_crossing I (pieces_then xs NoPiece) c.args.crossing.now.items) c.deref.ensures.value
    ∙ (ap (mark_crossing I (pieces_then c.in-Block.inner.items NoPiece)) same
    ∙ sym (ap (λ p. mark_crossing I (piece_then p rest) list) c.in-Block.is ∙
    ap (λ o. mark_crossing I o list) (block_piece c.in-Block.inner rest))))

pub mark_piece-returns-else-within-clause-cut : goal.mark_piece-returns-else-within-clause-cut
mark_piece-returns-else-within-clause-cut t c = λ rest e.
    let I = entry c.args.inside.now in
    let here =
    c.mark_crossing-within.ensures.cut ∙ ap (λ xs. has_cut I (pieces_then xs NoPiece)) c.deref.ensures.value in
    e
    ∙ (sym (ap (λ x. x || has_cut I rest) (sym here ∙ c.if-within.false))
    ∙ sym (ap (λ p. has_cut I (piece_then p rest)) c.in-Block.is ∙ ap (has_cut I) (block_piece c.in-Block.inner rest)))

pub mark_piece-returns-else-within-clause-marks : goal.mark_piece-returns-else-within-clause-marks
mark_piece-returns-else-within-clause-marks t c = λ rest list e same.
    let I = entry c.args.inside.now in
    c.mark_crossing-within.ensures.marks
    ∙ (ap (λ xs. mark_crossing I (pieces_then xs NoPiece) c.args.crossing.now.items) c.deref.ensures.value
    ∙ (ap (mark_crossing I (pieces_then c.in-Block.inner.items NoPiece)) same
    ∙ sym (ap (λ p. mark_crossing I (piece_then p rest) list) c.in-Block.is ∙
    ap (λ o. mark_crossing I o list) (block_piece c.in-Block.inner rest))))
