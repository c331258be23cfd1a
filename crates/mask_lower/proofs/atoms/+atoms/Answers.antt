use Rattle.std.proofs.Common.{◌++◌, ap, ◌∙◌}
use Rattle.kir.specs.Listed.{line_before, lines_of}
use Rattle.kir.proofs.Rows.{if_listed, loop_listed}
use Rattle.mask_lower.specs.Atoms.{atoms_in}
use Rattle.mask_lower.proofs.Joining.{one_two, two_one}
use Rattle.mask_lower.proofs.atoms.+atoms.Goals as goal

pub list_line-returns-in_ok-list_lines-in-If-2 : goal.list_line-returns-in_ok-list_lines-in-If-2
list_line-returns-in_ok-list_lines-in-If-2 t c = λ rest.
    let i = c.in-If in
    ap (λ l. c.args.atoms.now.items ++ atoms_in l) (ap (λ l. line_before l rest) i.is ∙
    if_listed i.site i.test i.yes i.no rest)
    ∙ one_two i.test (atoms_in (lines_of i.yes.items)) (atoms_in (lines_of i.no.items)) (atoms_in rest) _ _ _ _
    c.in_ok-push-in-If.ensures c.in_ok-list_lines-in-If.ensures c.in_ok-list_lines-in-If-2.ensures

pub list_line-returns-in_ok-push-in-Loop : goal.list_line-returns-in_ok-push-in-Loop
list_line-returns-in_ok-push-in-Loop t c = λ rest.
    let i = c.in-Loop in
    ap (λ l. c.args.atoms.now.items ++ atoms_in l) (ap (λ l. line_before l rest) i.is ∙
    loop_listed i.site i.test_first i.test i.answer i.body rest)
    ∙ two_one i.answer (atoms_in (lines_of i.body.items)) (atoms_in (lines_of i.test.items)) (atoms_in rest) _ _ _ _
    c.in_ok-list_lines-in-Loop.ensures c.in_ok-list_lines-in-Loop-2.ensures c.in_ok-push-in-Loop.ensures
