use Rattle.std.proofs.Common.{ap, ◌∙◌, arith}
use Rattle.cl_model.specs.View.{expression_of, function_of}
use Rattle.diverge.specs.Known.{state_of, behind, no_way}
use Rattle.diverge.specs.Rounds.{Gone, seen_in}
use Rattle.diverge.proofs.Blocks.{forward, forward_end, block_ways, block_state, block_gone, switch_gone, seen_by}
use Rattle.diverge.proofs.statements.+statements.Goals as goal

pub statement-returns-in-Block-clause-ways : goal.statement-returns-in-Block-clause-ways
statement-returns-in-Block-clause-ways t c =
    c.statements.ensures.ways
    ∙ ap (λ (g : Gone). g.ways) (block_gone c.args.s.now c.in-Block.list (function_of c.args.own.now) c.args.at
    c.deref-in-Block.result.now (state_of c.args.known.now) c.in-Block.is c.deref-in-Block.ensures.value)

pub statement-returns-in-Block-clause-known : goal.statement-returns-in-Block-clause-known
statement-returns-in-Block-clause-known t c =
    c.statements.ensures.known
    ∙ ap (λ (g : Gone). g.state) (block_gone c.args.s.now c.in-Block.list (function_of c.args.own.now) c.args.at
    c.deref-in-Block.result.now (state_of c.args.known.now) c.in-Block.is c.deref-in-Block.ensures.value)

pub statement-returns-in-Switch-clause-ways : goal.statement-returns-in-Switch-clause-ways
statement-returns-in-Switch-clause-ways t c =
    let v = seen_by (seen_in (function_of c.args.own.now) c.args.at (expression_of c.in-Switch.value)
    (state_of c.args.known.now)) c.expression-varies-in-Switch.result
    (state_of c.expression-varies-in-Switch.new.known) c.expression-varies-in-Switch.ensures.varies
    c.expression-varies-in-Switch.ensures.known in
    c.behind-in-Switch.ensures ∙ ap (behind c.expression-varies-in-Switch.result) c.arms-inside.ensures.ways
    ∙ ap (λ (g : Gone). g.ways) (switch_gone c.args.s.now c.in-Switch.site c.in-Switch.value c.in-Switch.list
    (function_of c.args.own.now) c.args.at c.under.result c.deref-in-Switch.result.now
    (state_of c.args.known.now) _ c.in-Switch.is c.deref-in-Switch.ensures.value v c.under.ensures)

pub statement-returns-in-Switch-clause-known : goal.statement-returns-in-Switch-clause-known
statement-returns-in-Switch-clause-known t c =
    let v = seen_by (seen_in (function_of c.args.own.now) c.args.at (expression_of c.in-Switch.value)
    (state_of c.args.known.now)) c.expression-varies-in-Switch.result
    (state_of c.expression-varies-in-Switch.new.known) c.expression-varies-in-Switch.ensures.varies
    c.expression-varies-in-Switch.ensures.known in
    c.arms-inside.ensures.known
    ∙ ap (λ (g : Gone). g.state) (switch_gone c.args.s.now c.in-Switch.site c.in-Switch.value c.in-Switch.list
    (function_of c.args.own.now) c.args.at c.under.result c.deref-in-Switch.result.now
    (state_of c.args.known.now) _ c.in-Switch.is c.deref-in-Switch.ensures.value v c.under.ensures)

pub statements-returns-clause-ways : goal.statements-returns-clause-ways
statements-returns-clause-ways t c =
    let through = forward_end (function_of c.args.own.now) c.args.at c.loop-number.number c.loop-number.number
    c.loop-number.ways c.loop-number.open c.args.list.now (state_of c.loop-number.known)
    (forward (function_of c.args.own.now) c.args.at 0 no_way 0 c.args.list.now (state_of c.args.known.now))
    (omega (arith, c.loop-number-test.false)) c.loop-number.invariant.steps in
    block_ways (function_of c.args.own.now) c.args.at c.args.list.now (state_of c.args.known.now) c.loop-number.ways
    c.loop-number.open (state_of c.loop-number.known) through

pub statements-returns-clause-known : goal.statements-returns-clause-known
statements-returns-clause-known t c =
    let through = forward_end (function_of c.args.own.now) c.args.at c.loop-number.number c.loop-number.number
    c.loop-number.ways c.loop-number.open c.args.list.now (state_of c.loop-number.known)
    (forward (function_of c.args.own.now) c.args.at 0 no_way 0 c.args.list.now (state_of c.args.known.now))
    (omega (arith, c.loop-number-test.false)) c.loop-number.invariant.steps in
    block_state (function_of c.args.own.now) c.args.at c.args.list.now (state_of c.args.known.now) c.loop-number.ways
    c.loop-number.open (state_of c.loop-number.known) (state_of c.close_all.new.known) through c.close_all.ensures
