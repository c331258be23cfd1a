use Rattle.std.proofs.Common.{ap, ◌∙◌, refl}
use Rattle.kir.specs.Listed.{lines_of}
use Rattle.kir_simplify.specs.Passes.{swept}
use Rattle.kir_simplify.specs.Tables.{listed}
use Rattle.kir_simplify.proofs.Walks.{walk_step, walk_end, if_swept, loop_swept}
use Rattle.kir_simplify.proofs.sweeping.+sweep.Goals as goal

pub sweep_onto-returns-in_ok-add_if-in-If : goal.sweep_onto-returns-in_ok-add_if-in-If
sweep_onto-returns-in_ok-add_if-in-If t c = λ rest.
    c.in_ok-add_if-in-If.ensures (swept (listed c.args.unread.now) rest) ∙
    if_swept (listed c.args.unread.now) c.args.line.now c.in-If.site c.in-If.test c.in-If.yes c.in-If.no
    (lines_of c.args.kept.now.items) _ _ c.in-If.is
    (c.in_ok-yes-in-If.ensures ∙ ap (λ x. swept (listed c.args.unread.now) (lines_of x)) c.deref.ensures.value)
    (c.in_ok-no-in-If.ensures ∙ ap (λ x. swept (listed c.args.unread.now) (lines_of x)) c.deref-in-If.ensures.value)
    rest

pub sweep_onto-returns-in_ok-add_loop-in-Loop : goal.sweep_onto-returns-in_ok-add_loop-in-Loop
sweep_onto-returns-in_ok-add_loop-in-Loop t c = λ rest.
    c.in_ok-add_loop-in-Loop.ensures (swept (listed c.args.unread.now) rest) ∙
    loop_swept (listed c.args.unread.now) c.args.line.now c.in-Loop.site c.in-Loop.test_first c.in-Loop.test
    c.in-Loop.answer c.in-Loop.body (lines_of c.args.kept.now.items) _ _ c.in-Loop.is
    (c.in_ok-test-in-Loop.ensures ∙
    ap (λ x. swept (listed c.args.unread.now) (lines_of x)) c.deref-in-Loop.ensures.value)
    (c.in_ok-body-in-Loop.ensures ∙
    ap (λ x. swept (listed c.args.unread.now) (lines_of x)) c.deref-in-Loop-2.ensures.value) rest

pub sweep_lines-loop-line-preserved : goal.sweep_lines-loop-line-preserved
sweep_lines-loop-line-preserved t c =
    walk_step (swept (listed c.args.unread.now)) (lines_of c.loop-line.kept.items)
    (lines_of c.sweep_onto.new.kept.items) _ c.args.lines.now c.loop-line.line-index c.line-item.result
    c.loop-line-test.true c.line-item.is c.in_ok-sweep_onto.ensures c.loop-line.invariant

pub sweep_lines-returns : goal.sweep_lines-returns
sweep_lines-returns t c =
    walk_end (swept (listed c.args.unread.now)) (lines_of c.loop-line.kept.items) _ c.args.lines.now
    c.loop-line.line-index c.loop-line-test.false refl c.loop-line.invariant
