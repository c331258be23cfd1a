use Rattle.std.proofs.Common.{◌≡◌, suc, ◌+◌, ◌-◌, ap, sym, ◌∙◌, arith}
use Rattle.ctx_plan.specs.Outline.{pieces_then, parameters_then, DeclaresThen}
use Rattle.ctx_plan.proofs.outline.put_parameters.Goals as goal

pub loop-parameter-preserved : goal.loop-parameter-preserved
loop-parameter-preserved c = λ rest.
    let i = c.loop-parameter.parameter in
    let n = c.args.count in
    let lt = c.loop-parameter-test.true in
    let more : n - i ≡ suc (n - (i + 1)) = omega (arith, lt) in
    let one : i + 1 ≡ suc i = omega arith in
    c.in_ok-put_piece.ensures (parameters_then (i + 1) (n - (i + 1)) rest)
    ∙ (ap (λ m. pieces_then c.loop-parameter.pieces.items (DeclaresThen i (parameters_then m (n - (i + 1)) rest))) one
    ∙ (sym (ap (λ m. pieces_then c.loop-parameter.pieces.items (parameters_then i m rest)) more) ∙
    c.loop-parameter.invariant rest))
