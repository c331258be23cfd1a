use Rattle.std.proofs.Common.{◌+◌, length, ap, ◌∙◌}
use Rattle.std.proofs.lemmas.Result.{on_ok_weaker}
use Rattle.kir.specs.Listed.{lines_of}
use Rattle.kir_simplify.specs.Passes.{size_of}
use Rattle.kir_simplify.proofs.Sizes.{lines_step, if_marked, loop_marked}
use Rattle.kir_simplify.proofs.sizing.+size.Goals as goal

pub mark_line-returns-in_ok-mark_lines-in-If : goal.mark_line-returns-in_ok-mark_lines-in-If
mark_line-returns-in_ok-mark_lines-in-If t c =
    let read = length c.mark_atom-in-If.new.marks.items in
    let first = length c.mark_lines.new.marks.items in
    on_ok_weaker c.mark_lines-in-If.result
    (λ k.
    if_marked c.args.line.now c.in-If.site c.in-If.test c.in-If.yes c.in-If.no (length c.args.marks.now.items)
    (length c.mark.new.marks.items) read first (length c.mark_lines-in-If.new.marks.items) c.in-If.is
    c.in_ok-mark.ensures c.in_ok-mark_atom-in-If.ensures
    (c.in_ok-mark_lines-in-If.ensures ∙ ap (λ xs. read + size_of (lines_of xs)) c.deref.ensures.value)
    (k ∙ ap (λ xs. first + size_of (lines_of xs)) c.deref-in-If.ensures.value))
    c.mark_lines-in-If.ensures

pub mark_line-returns-in_ok-mark_atom-in-Loop : goal.mark_line-returns-in_ok-mark_atom-in-Loop
mark_line-returns-in_ok-mark_atom-in-Loop t c =
    let one = length c.mark.new.marks.items in
    let read = length c.mark_atom-in-Loop.new.marks.items in
    on_ok_weaker c.mark_lines-in-Loop-2.result
    (λ k.
    loop_marked c.args.line.now c.in-Loop.site c.in-Loop.test_first c.in-Loop.test c.in-Loop.answer c.in-Loop.body
    (length c.args.marks.now.items) one (length c.mark_lines-in-Loop.new.marks.items) read
    (length c.mark_lines-in-Loop-2.new.marks.items) c.in-Loop.is c.in_ok-mark.ensures
    (c.in_ok-mark_lines-in-Loop.ensures ∙ ap (λ xs. one + size_of (lines_of xs)) c.deref-in-Loop.ensures.value)
    c.in_ok-mark_atom-in-Loop.ensures
    (k ∙ ap (λ xs. read + size_of (lines_of xs)) c.deref-in-Loop-2.ensures.value))
    c.mark_lines-in-Loop-2.ensures

pub mark_lines-loop-line-preserved : goal.mark_lines-loop-line-preserved
mark_lines-loop-line-preserved t c =
    lines_step (length c.loop-line.marks.items) (length c.mark_line.new.marks.items)
    (length c.args.marks.now.items + size_of (lines_of c.args.lines.now)) c.args.lines.now c.loop-line.line-index
    c.line-item.result c.loop-line-test.true c.line-item.is c.in_ok-mark_line.ensures c.loop-line.invariant
