use Rattle.std.proofs.Common.{ap, ◌∙◌, [], ◌∷◌}
use Rattle.std.proofs.lemmas.Result.{on_ok_weaker}
use Rattle.ctx_plan.specs.Outline.{pieces_then}
use Rattle.ctx_plan.proofs.Outlines.{pieces_then-append}
use Rattle.ctx_plan.proofs.outline.put_piece.Goals as goal

pub returns : goal.returns
returns c = on_ok_weaker c.push.result (λ e rest. ap (λ xs. pieces_then xs rest) e ∙
    pieces_then-append c.args.pieces.now.items (c.args.piece ∷ []) rest) c.push.ensures
