use Rattle.std.proofs.Common.{◌≡◌, OnOk, subst}
use Rattle.ctx_plan.proofs.Onto.{switch_onto}
use Rattle.ctx_plan.proofs.holding.+points.Goals as goal

pub put_points-returns-in_ok-put_expression-in-Switch : goal.put_points-returns-in_ok-put_expression-in-Switch
put_points-returns-in_ok-put_expression-in-Switch t c =
    subst (λ z. OnOk c.put_arm_points.result (c.put_arm_points.new.points.items ≡ z))
    (switch_onto c.args.s.now c.in-Switch.site c.in-Switch.value c.in-Switch.arms c.deref-in-Switch.result.now
    c.args.points.now.items c.put_expression-in-Switch.new.pieces.items c.in-Switch.is
    c.deref-in-Switch.ensures.value c.in_ok-put_expression-in-Switch.ensures)
    c.put_arm_points.ensures
