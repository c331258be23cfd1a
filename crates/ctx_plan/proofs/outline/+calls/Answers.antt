use Rattle.std.proofs.Common.{◌≡◌, OnOk, subst}
use Rattle.ctx_plan.proofs.Onto.{expressions_step, arguments_step, call_onto, builtin_onto}
use Rattle.ctx_plan.proofs.outline.+calls.Goals as goal

pub put_expressions-loop-e-preserved : goal.put_expressions-loop-e-preserved
put_expressions-loop-e-preserved t c =
    expressions_step c.args.list.now c.loop-e.e-index c.e-item.result c.loop-e.pieces.items
    c.put_expression.new.pieces.items _ c.loop-e-test.true c.e-item.is c.in_ok-put_expression.ensures
    c.loop-e.invariant

pub put_arguments-loop-argument-preserved : goal.put_arguments-loop-argument-preserved
put_arguments-loop-argument-preserved t c =
    arguments_step c.args.list.now c.loop-argument.argument-index c.argument-item.result c.loop-argument.pieces.items
    c.put_argument.new.pieces.items _ c.loop-argument-test.true c.argument-item.is c.in_ok-put_argument.ensures
    c.loop-argument.invariant

pub put_expression-returns-in_ok-put_arguments-in-Call : goal.put_expression-returns-in_ok-put_arguments-in-Call
put_expression-returns-in_ok-put_arguments-in-Call t c =
    subst (λ z. OnOk c.put_call.result (c.put_call.new.pieces.items ≡ z))
    (call_onto c.args.e.now c.in-Call.site c.in-Call.function c.in-Call.args c.deref-in-Call.result.now
    c.args.pieces.now.items c.put_arguments.new.pieces.items c.in-Call.is c.deref-in-Call.ensures.value
    c.in_ok-put_arguments-in-Call.ensures)
    c.put_call.ensures

pub put_expression-returns-in-Builtin : goal.put_expression-returns-in-Builtin
put_expression-returns-in-Builtin t c =
    subst (λ z. OnOk c.put_expressions.result (c.put_expressions.new.pieces.items ≡ z))
    (builtin_onto c.args.e.now c.in-Builtin.f c.in-Builtin.of c.in-Builtin.args c.deref-in-Builtin.result.now
    c.args.pieces.now.items c.in-Builtin.is c.deref-in-Builtin.ensures.value)
    c.put_expressions.ensures
