use Rattle.std.proofs.Common.{ap, ◌∙◌}
use Rattle.std.proofs.lemmas.Result.{on_ok_weaker}
use Rattle.cl_model.specs.Calls.{calls_in_optional}
use Rattle.cl_model.specs.View.{optional_expression}
use Rattle.ctx_plan.specs.Outline.{pieces_then}
use Rattle.ctx_plan.proofs.Outlines.{calls_put}
use Rattle.ctx_plan.proofs.outline.put_optional_calls.Goals as goal

pub returns : goal.returns
returns c = on_ok_weaker c.put_optional.result (λ e rest. ap (λ xs. pieces_then xs rest) e ∙
    calls_put (calls_in_optional (optional_expression c.args.e.now)) c.args.pieces.now.items rest)
    c.put_optional.ensures
