use Rattle.std.proofs.Common.{ap, ◌∙◌, sym}
use Rattle.std.proofs.lemmas.List.{drop_all}
use Rattle.kir.specs.Tree.{joined_to}
use Rattle.kir.specs.Listed.{lines_of}
use Rattle.regions.proofs.Cuts.{joined_none}
use Rattle.kir.proofs.Rows.{if_listed, loop_listed}
use Rattle.regions.proofs.Copies.{if_alike, loop_alike, copied_step}
use Rattle.regions.proofs.copying.+copy.Goals as goal

pub copy_onto-returns-in_ok-add_if-in-If : goal.copy_onto-returns-in_ok-add_if-in-If
copy_onto-returns-in_ok-add_if-in-If t c = λ rest.
    c.in_ok-add_if-in-If.ensures rest ∙
    ap (joined_to (lines_of c.args.copied.now.items))
    (sym (if_listed c.in-If.site c.in-If.test c.in_ok-yes-in-If.yes c.in_ok-no-in-If.no rest)
    ∙ if_alike c.args.line.now c.in-If.site c.in-If.test c.in-If.yes c.in-If.no c.in_ok-yes-in-If.yes
    c.in_ok-no-in-If.no c.in-If.is
    (c.in_ok-yes-in-If.ensures ∙ ap lines_of c.deref.ensures.value) (c.in_ok-no-in-If.ensures ∙
    ap lines_of c.deref-in-If.ensures.value) rest)

pub copy_onto-returns-in_ok-add_loop-in-Loop : goal.copy_onto-returns-in_ok-add_loop-in-Loop
copy_onto-returns-in_ok-add_loop-in-Loop t c = λ rest.
    c.in_ok-add_loop-in-Loop.ensures rest ∙
    ap (joined_to (lines_of c.args.copied.now.items))
    (sym (loop_listed c.in-Loop.site c.in-Loop.test_first c.in_ok-test-in-Loop.test c.in-Loop.answer
    c.in_ok-body-in-Loop.body rest)
    ∙ loop_alike c.args.line.now c.in-Loop.site c.in-Loop.test_first c.in-Loop.test c.in-Loop.answer c.in-Loop.body
    c.in_ok-test-in-Loop.test c.in_ok-body-in-Loop.body c.in-Loop.is
    (c.in_ok-test-in-Loop.ensures ∙ ap lines_of c.deref-in-Loop.ensures.value) (c.in_ok-body-in-Loop.ensures ∙
    ap lines_of c.deref-in-Loop-2.ensures.value) rest)

pub copy_lines-loop-line-preserved : goal.copy_lines-loop-line-preserved
copy_lines-loop-line-preserved t c =
    copied_step (lines_of c.loop-line.copied.items) (lines_of c.copy_onto.new.copied.items) c.args.lines.now
    c.loop-line.line-index c.line-item.result c.loop-line-test.true c.line-item.is c.in_ok-copy_onto.ensures
    c.loop-line.invariant

pub copy_lines-returns : goal.copy_lines-returns
copy_lines-returns t c =
    sym (joined_none (lines_of c.loop-line.copied.items)) ∙
    (sym (ap (λ xs. joined_to (lines_of c.loop-line.copied.items) (lines_of xs))
    (drop_all c.loop-line.line-index c.args.lines.now c.loop-line-test.false)) ∙ c.loop-line.invariant)
