use Rattle.std.proofs.Common.{List, ℕ, [], codes, ap, ◌∙◌}
use Rattle.std.specs.Prelude.{if◌then◌else◌}
use Rattle.wg_top.proofs.LineLemmas.{said_behind}
use Rattle.wg_top.proofs.lines.say_turns.Goals as goal

pub returns-clause-said : goal.returns-clause-said
returns-clause-said g c =
    said_behind (g.E.Sink.written c.args.sink.now) (g.E.Sink.written c.say.new.sink) (g.E.Sink.faults c.args.sink.now)
    (g.E.Sink.faults c.say.new.sink) c.args.several c.args.launch c.head_of.result.now c.shown_if.result.now
    c.tail_of.result.now (codes "out of turns\n")
    c.head_of.ensures (c.shown_if.ensures ∙
    ap (λ (x : List ℕ). if c.args.several then x else []) c.format.ensures.text) c.tail_of.ensures
    c.say.ensures.said
