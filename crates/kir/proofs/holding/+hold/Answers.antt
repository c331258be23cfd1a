use Rattle.std.proofs.Common.{ap, ◌∙◌, sym}
use Rattle.kir.specs.Listed.{lines_of}
use Rattle.kir.specs.Cuts.{holds_barrier}
use Rattle.kir.proofs.Firsts.{holds_step, holds_found, if_holds, loop_holds, either_first, either_second}
use Rattle.kir.proofs.holding.+hold.Goals as goal

pub line_holds-returns-then-lines_hold : goal.line_holds-returns-then-lines_hold
line_holds-returns-then-lines_hold t c =
    c.if-lines_hold.true
    ∙ either_first (holds_barrier (lines_of c.in-If.yes.items)) (holds_barrier (lines_of c.in-If.no.items)) _
    (if_holds c.args.line.now c.in-If.site c.in-If.test c.in-If.yes c.in-If.no c.in-If.is)
    (sym (c.lines_hold.ensures ∙ ap (λ x. holds_barrier (lines_of x)) c.deref.ensures.value) ∙ c.if-lines_hold.true)

pub line_holds-returns-else-lines_hold : goal.line_holds-returns-else-lines_hold
line_holds-returns-else-lines_hold t c =
    (c.lines_hold-else-lines_hold.ensures ∙ ap (λ x. holds_barrier (lines_of x)) c.deref-else-lines_hold.ensures.value)
    ∙ either_second (holds_barrier (lines_of c.in-If.yes.items)) (holds_barrier (lines_of c.in-If.no.items)) _
    (if_holds c.args.line.now c.in-If.site c.in-If.test c.in-If.yes c.in-If.no c.in-If.is)
    (sym (c.lines_hold.ensures ∙ ap (λ x. holds_barrier (lines_of x)) c.deref.ensures.value) ∙
    c.if-lines_hold.false)

pub line_holds-returns-then-lines_hold-2 : goal.line_holds-returns-then-lines_hold-2
line_holds-returns-then-lines_hold-2 t c =
    c.if-lines_hold-2.true
    ∙ either_first (holds_barrier (lines_of c.in-Loop.test.items)) (holds_barrier (lines_of c.in-Loop.body.items)) _
    (loop_holds c.args.line.now c.in-Loop.site c.in-Loop.test_first c.in-Loop.test c.in-Loop.answer c.in-Loop.body
    c.in-Loop.is) (sym (c.lines_hold-in-Loop.ensures ∙
    ap (λ x. holds_barrier (lines_of x)) c.deref-in-Loop.ensures.value) ∙ c.if-lines_hold-2.true)

pub line_holds-returns-else-lines_hold-2 : goal.line_holds-returns-else-lines_hold-2
line_holds-returns-else-lines_hold-2 t c =
    (c.lines_hold-else-lines_hold-2.ensures ∙
    ap (λ x. holds_barrier (lines_of x)) c.deref-else-lines_hold-2.ensures.value)
    ∙ either_second (holds_barrier (lines_of c.in-Loop.test.items)) (holds_barrier (lines_of c.in-Loop.body.items)) _
    (loop_holds c.args.line.now c.in-Loop.site c.in-Loop.test_first c.in-Loop.test c.in-Loop.answer c.in-Loop.body
    c.in-Loop.is) (sym (c.lines_hold-in-Loop.ensures ∙
    ap (λ x. holds_barrier (lines_of x)) c.deref-in-Loop.ensures.value) ∙ c.if-lines_hold-2.false)

pub lines_hold-returns-then-line_holds : goal.lines_hold-returns-then-line_holds
lines_hold-returns-then-line_holds t c =
    holds_found c.args.lines.now c.loop-line.line-index c.line-item.result c.line_holds.result c.loop-line-test.true
    c.line-item.is c.line_holds.ensures c.if-line_holds.true c.loop-line.invariant

pub lines_hold-loop-line-preserved : goal.lines_hold-loop-line-preserved
lines_hold-loop-line-preserved t c =
    holds_step c.args.lines.now c.loop-line.line-index c.line-item.result c.line_holds.result c.loop-line-test.true
    c.line-item.is c.line_holds.ensures c.if-line_holds.false c.loop-line.invariant
