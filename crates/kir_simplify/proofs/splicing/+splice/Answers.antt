use Rattle.std.proofs.Common.{List, Some, true, false, ap, ap₂, ◌∙◌, sym, refl}
use Rattle.kir.specs.declared.line.Line.{Line}
use Rattle.kir.specs.Tree.{joined_to}
use Rattle.kir.specs.Listed.{lines_of}
use Rattle.kir_simplify.specs.Passes.{spliced}
use Rattle.kir_simplify.specs.Tables.{decision}
use Rattle.kir_simplify.proofs.Walks.{walk_step, walk_end, if_chosen, if_spliced, loop_spliced}
use Rattle.kir_simplify.proofs.splicing.+splice.Goals as goal

pub splice_each-loop-line-preserved : goal.splice_each-loop-line-preserved
splice_each-loop-line-preserved t c =
    walk_step spliced (lines_of c.loop-line.kept.items) (lines_of c.splice_onto.new.kept.items) _ c.args.lines.now
    c.loop-line.line-index c.line-item.result c.loop-line-test.true c.line-item.is c.in_ok-splice_onto.ensures
    c.loop-line.invariant

pub splice_each-returns : goal.splice_each-returns
splice_each-returns t c =
    walk_end spliced (lines_of c.loop-line.kept.items) _ c.args.lines.now c.loop-line.line-index
    c.loop-line-test.false refl c.loop-line.invariant

pub splice_onto-returns-in_ok-splice_each-in-Some-true : goal.splice_onto-returns-in_ok-splice_each-in-Some-true
splice_onto-returns-in_ok-splice_each-in-Some-true t c =
    if_chosen c.args.line.now c.in-If.site c.in-If.test c.in-If.yes c.in-If.no (lines_of c.args.kept.now.items)
    (lines_of c.splice_each.new.kept.items) true c.in-If.is
    (ap₂ (λ (x y : List Line). decision c.in-If.test (lines_of x) (lines_of y)) (sym c.deref.ensures.value)
    (sym c.deref-in-If.ensures.value) ∙
    (sym c.decision.ensures ∙ (c.in-Some-true.is ∙ ap Some c.in-Some-true.field-0-test)))
    (c.in_ok-splice_each-in-Some-true.ensures ∙
    ap (λ (x : List Line). joined_to (lines_of c.args.kept.now.items) (spliced (lines_of x)))
    c.deref-in-Some-true.ensures.value)

pub splice_onto-returns-in_ok-splice_each-in-Some-false : goal.splice_onto-returns-in_ok-splice_each-in-Some-false
splice_onto-returns-in_ok-splice_each-in-Some-false t c =
    if_chosen c.args.line.now c.in-If.site c.in-If.test c.in-If.yes c.in-If.no (lines_of c.args.kept.now.items)
    (lines_of c.splice_each-in-Some-false.new.kept.items) false c.in-If.is
    (ap₂ (λ (x y : List Line). decision c.in-If.test (lines_of x) (lines_of y)) (sym c.deref.ensures.value)
    (sym c.deref-in-If.ensures.value) ∙
    (sym c.decision.ensures ∙ (c.in-Some-false.is ∙ ap Some c.in-Some-false.field-0-test)))
    (c.in_ok-splice_each-in-Some-false.ensures ∙
    ap (λ (x : List Line). joined_to (lines_of c.args.kept.now.items) (spliced (lines_of x)))
    c.deref-in-Some-false.ensures.value)

pub splice_onto-returns-in_ok-add_if-in-None : goal.splice_onto-returns-in_ok-add_if-in-None
splice_onto-returns-in_ok-add_if-in-None t c = λ rest.
    c.in_ok-add_if-in-None.ensures (spliced rest) ∙
    if_spliced c.args.line.now c.in-If.site c.in-If.test c.in-If.yes c.in-If.no (lines_of c.args.kept.now.items)
    _ _ c.in-If.is
    (ap₂ (λ (x y : List Line). decision c.in-If.test (lines_of x) (lines_of y)) (sym c.deref.ensures.value)
    (sym c.deref-in-If.ensures.value) ∙ (sym c.decision.ensures ∙ c.in-None.is))
    (c.in_ok-yes-in-None.ensures ∙ ap (λ (x : List Line). spliced (lines_of x)) c.deref-in-None.ensures.value)
    (c.in_ok-no-in-None.ensures ∙ ap (λ (x : List Line). spliced (lines_of x)) c.deref-in-None-2.ensures.value) rest

pub splice_onto-returns-in_ok-add_loop-in-Loop : goal.splice_onto-returns-in_ok-add_loop-in-Loop
splice_onto-returns-in_ok-add_loop-in-Loop t c = λ rest.
    c.in_ok-add_loop-in-Loop.ensures (spliced rest) ∙
    loop_spliced c.args.line.now c.in-Loop.site c.in-Loop.test_first c.in-Loop.test c.in-Loop.answer c.in-Loop.body
    (lines_of c.args.kept.now.items) _ _ c.in-Loop.is
    (c.in_ok-test-in-Loop.ensures ∙ ap (λ (x : List Line). spliced (lines_of x)) c.deref-in-Loop.ensures.value)
    (c.in_ok-body-in-Loop.ensures ∙ ap (λ (x : List Line). spliced (lines_of x)) c.deref-in-Loop-2.ensures.value) rest
