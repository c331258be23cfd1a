use Rattle.std.proofs.Common.{◌≡◌, min, length, arith, ◌∙◌}
use Rattle.kir_lower.proofs.Wholes.{kinds_taken}
use Rattle.kir_lower.proofs.whole.kinds_of.Goals as goal

pub returns : goal.returns
returns c =
    let first : c.min-params.result ≡ min c.args.function.now.params (length c.args.function.now.vars.items) =
    omega (arith, c.min-params.ensures, c.len.ensures) in
    c.loop-var.invariant
    ∙ kinds_taken c.deref.result.now c.args.function.now.vars.items c.min-params.result c.args.function.now.params
    c.loop-var.var-index c.deref.ensures.value first c.loop-var-test.false
