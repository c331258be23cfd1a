use Rattle.std.proofs.Common.{◌≡◌, ◌++◌, OnOk, subst}
use Rattle.ctx_plan_text.proofs.Behind.{call_behind, builtin_behind}
use Rattle.ctx_plan_text.proofs.outline.+calls.Goals as goal

pub put_expression-returns-in_ok-put_arguments-in-Call : goal.put_expression-returns-in_ok-put_arguments-in-Call
put_expression-returns-in_ok-put_arguments-in-Call t c =
    subst (λ z. OnOk c.put_call.result (c.put_call.new.entries.items ≡ z))
    (call_behind c.args.e.now c.in-Call.site c.in-Call.function c.in-Call.args c.deref-in-Call.result.now
    c.args.entries.now.items c.put_arguments.new.entries.items c.in-Call.is c.deref-in-Call.ensures.value
    c.in_ok-put_arguments-in-Call.ensures)
    c.put_call.ensures

pub put_expression-returns-in-Builtin : goal.put_expression-returns-in-Builtin
put_expression-returns-in-Builtin t c =
    subst (λ z. OnOk c.put_expressions.result (c.put_expressions.new.entries.items ≡ c.args.entries.now.items ++ z))
    (builtin_behind c.args.e.now c.in-Builtin.f c.in-Builtin.of c.in-Builtin.args c.deref-in-Builtin.result.now
    c.in-Builtin.is c.deref-in-Builtin.ensures.value)
    c.put_expressions.ensures
