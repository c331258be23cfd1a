use Rattle.std.proofs.Common.{get_or, ap, ◌∙◌}
use Rattle.std.specs.Prelude.{◌||◌, false}
use Rattle.kir.specs.Listed.{line_before, lines_of}
use Rattle.kir.proofs.Rows.{if_listed, loop_listed}
use Rattle.kir_uniform.specs.Uniform.{sets_in}
use Rattle.mask_lower.proofs.Marks.{marks_both}
use Rattle.mask_lower.proofs.setting.+set.Goals as goal

pub mark_line-returns-in_ok-mark_lines-in-If-2 : goal.mark_line-returns-in_ok-mark_lines-in-If-2
mark_line-returns-in_ok-mark_lines-in-If-2 t c = λ n rest.
    let i = c.in-If in
    ap (λ l. sets_in n l || get_or c.args.set.now.items n false) (ap (λ l. line_before l rest) i.is ∙
    if_listed i.site i.test i.yes i.no rest)
    ∙ marks_both (sets_in n (lines_of i.yes.items)) (sets_in n (lines_of i.no.items)) (sets_in n rest)
    (get_or c.args.set.now.items n false) _ _ (c.in_ok-mark_lines-in-If.ensures n)
    (c.in_ok-mark_lines-in-If-2.ensures n)

pub mark_line-returns-in_ok-mark_lines-in-Loop-2 : goal.mark_line-returns-in_ok-mark_lines-in-Loop-2
mark_line-returns-in_ok-mark_lines-in-Loop-2 t c = λ n rest.
    let i = c.in-Loop in
    ap (λ l. sets_in n l || get_or c.args.set.now.items n false) (ap (λ l. line_before l rest) i.is ∙
    loop_listed i.site i.test_first i.test i.answer i.body rest)
    ∙ marks_both (sets_in n (lines_of i.test.items)) (sets_in n (lines_of i.body.items)) (sets_in n rest)
    (get_or c.args.set.now.items n false) _ _ (c.in_ok-mark_lines-in-Loop.ensures n)
    (c.in_ok-mark_lines-in-Loop-2.ensures n)
