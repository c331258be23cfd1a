use Rattle.std.proofs.Common.{◌≡◌, ◌++◌, OnOk, subst}
use Rattle.ctx_plan_text.proofs.Behind.{block_behind, switch_behind}
use Rattle.ctx_plan_text.proofs.outline.+statements.Goals as goal

pub put_statement-returns-in-Block : goal.put_statement-returns-in-Block
put_statement-returns-in-Block t c =
    subst (λ z. OnOk c.put_statements.result (c.put_statements.new.entries.items ≡ c.args.entries.now.items ++ z))
    (block_behind c.args.s.now c.in-Block.list c.deref-in-Block.result.now c.in-Block.is c.deref-in-Block.ensures.value)
    c.put_statements.ensures

pub put_statement-returns-in_ok-put_expression-in-Switch : goal.put_statement-returns-in_ok-put_expression-in-Switch
put_statement-returns-in_ok-put_expression-in-Switch t c =
    subst (λ z. OnOk c.put_arms.result (c.put_arms.new.entries.items ≡ z))
    (switch_behind c.args.s.now c.in-Switch.site c.in-Switch.value c.in-Switch.arms c.deref-in-Switch.result.now
    c.args.entries.now.items c.put_expression-in-Switch.new.entries.items c.in-Switch.is
    c.deref-in-Switch.ensures.value c.in_ok-put_expression-in-Switch.ensures)
    c.put_arms.ensures
