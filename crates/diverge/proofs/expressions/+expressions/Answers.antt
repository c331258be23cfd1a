use Rattle.std.proofs.Common.{ap, ◌∙◌}
use Rattle.diverge.specs.declared.known.Entry.{Entry}
use Rattle.diverge.specs.Known.{state_of}
use Rattle.diverge.specs.Rounds.{Seen}
use Rattle.cl_model.specs.View.{function_of}
use Rattle.diverge.proofs.Steps.{call_seen, builtin_seen}
use Rattle.diverge.proofs.expressions.+expressions.Goals as goal

pub expression-returns-in-Call-clause-varies : goal.expression-returns-in-Call-clause-varies
expression-returns-in-Call-clause-varies t c =
    ap (λ (e : Entry). e.varies) c.result_at.ensures
    ∙ ap (λ (r : Seen). r.varies) (call_seen c.args.e.now c.in-Call.site c.in-Call.function c.in-Call.args
    (function_of c.args.own.now) c.args.at c.deref-in-Call.result.now (state_of c.args.known.now)
    (state_of c.arguments.new.known) c.in-Call.is c.deref-in-Call.ensures.value c.arguments.ensures)

pub expression-returns-in-Call-clause-known : goal.expression-returns-in-Call-clause-known
expression-returns-in-Call-clause-known t c =
    ap (λ (r : Seen). r.state) (call_seen c.args.e.now c.in-Call.site c.in-Call.function c.in-Call.args
    (function_of c.args.own.now) c.args.at c.deref-in-Call.result.now (state_of c.args.known.now)
    (state_of c.arguments.new.known) c.in-Call.is c.deref-in-Call.ensures.value c.arguments.ensures)

pub expression-returns-in-Builtin-clause-varies : goal.expression-returns-in-Builtin-clause-varies
expression-returns-in-Builtin-clause-varies t c =
    c.operands.ensures.varies
    ∙ ap (λ (r : Seen). r.varies) (builtin_seen c.args.e.now c.in-Builtin.f c.in-Builtin.of c.in-Builtin.args
    (function_of c.args.own.now) c.args.at c.deref-in-Builtin.result.now (state_of c.args.known.now)
    c.in-Builtin.is c.deref-in-Builtin.ensures.value)

pub expression-returns-in-Builtin-clause-known : goal.expression-returns-in-Builtin-clause-known
expression-returns-in-Builtin-clause-known t c =
    c.operands.ensures.known
    ∙ ap (λ (r : Seen). r.state) (builtin_seen c.args.e.now c.in-Builtin.f c.in-Builtin.of c.in-Builtin.args
    (function_of c.args.own.now) c.args.at c.deref-in-Builtin.result.now (state_of c.args.known.now)
    c.in-Builtin.is c.deref-in-Builtin.ensures.value)
