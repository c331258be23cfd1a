use Rattle.std.proofs.Common.{[], ◌∷◌, ap, sym, ◌∙◌, subst}
use Rattle.std.specs.Prelude.{◌||◌}
use Rattle.kir.specs.Listed.{line_before, lines_of, work_of}
use Rattle.kir.specs.Tree.{NoLine}
use Rattle.kir.specs.Cuts.{holds_barrier}
use Rattle.kir.specs.Keeps.{Names, named_by_work, cut_before, pieces_of}
use Rattle.ctx_plan.specs.Naming.{Leads}
use Rattle.ctx_plan.proofs.Names.{leads_then, leads_as}
use Rattle.ctx_plan.proofs.Texts.{lines_step, part_led, if_led, loop_led}
use Rattle.ctx_plan.proofs.keeping.+naming.Goals as goal

pub name_line-returns-in-Set : goal.name_line-returns-in-Set
name_line-returns-in-Set t c =
    leads_as c.args.naming.now c.name_cell.new.naming _ _ (sym (ap (λ l. pieces_of (line_before l NoLine)) c.in-Set.is))
    (leads_then c.args.naming.now c.name_work.new.naming c.name_cell.new.naming
    (named_by_work (work_of c.in-Set.work)) (Names c.in-Set.to ∷ []) c.name_work.ensures c.name_cell.ensures)

pub name_lines-loop-line-preserved : goal.name_lines-loop-line-preserved
name_lines-loop-line-preserved t c =
    lines_step c.args.naming.now c.loop-line.naming c.name_line.new.naming c.args.lines.now c.loop-line.line-index
    c.line-item.result c.loop-line-test.true c.line-item.is c.loop-line.invariant c.name_line.ensures

pub name_part-returns : goal.name_part-returns
name_part-returns t c =
    part_led c.args.naming.now c.pass_cut.new.naming c.name_lines.new.naming c.args.cut
    (pieces_of (lines_of c.args.lines.now)) c.pass_cut.ensures c.name_lines.ensures

pub name_line-returns-in-If : goal.name_line-returns-in-If
name_line-returns-in-If t c =
    if_led _ _ _ _ _ _ c.args.line.now c.in-If.site c.in-If.test c.in-If.yes c.in-If.no c.either_holds-cut.result
    c.in-If.is
    (c.either_holds-cut.ensures ∙
    (ap (λ xs. holds_barrier (lines_of xs) || holds_barrier (lines_of c.deref-in-If.result.now))
    c.deref.ensures.value ∙ ap (λ xs. holds_barrier (lines_of c.in-If.yes.items) ||
    holds_barrier (lines_of xs)) c.deref-in-If.ensures.value))
    c.pass_cut.ensures c.name_atom-in-If.ensures
    (subst (λ xs. Leads c.name_atom-in-If.new.naming c.name_part.new.naming
    (cut_before c.either_holds-cut.result (pieces_of (lines_of xs))))
    c.deref-in-If-2.ensures.value c.name_part.ensures)
    (subst (λ xs. Leads c.name_part.new.naming c.name_part-in-If.new.naming
    (cut_before c.either_holds-cut.result (pieces_of (lines_of xs))))
    c.deref-in-If-3.ensures.value c.name_part-in-If.ensures)
    c.pass_cut-in-If.ensures

pub name_line-returns-in-Loop : goal.name_line-returns-in-Loop
name_line-returns-in-Loop t c =
    loop_led _ _ _ _ _ c.args.line.now c.in-Loop.site c.in-Loop.test_first c.in-Loop.test c.in-Loop.answer
    c.in-Loop.body c.either_holds-cut-in-Loop.result c.in-Loop.is
    (c.either_holds-cut-in-Loop.ensures ∙
    (ap (λ xs. holds_barrier (lines_of xs) || holds_barrier (lines_of c.deref-in-Loop-2.result.now))
    c.deref-in-Loop.ensures.value ∙
    ap (λ xs. holds_barrier (lines_of c.in-Loop.test.items) || holds_barrier (lines_of xs))
    c.deref-in-Loop-2.ensures.value))
    (subst (λ xs. Leads c.args.naming.now c.name_part-in-Loop.new.naming
    (cut_before c.either_holds-cut-in-Loop.result (pieces_of (lines_of xs))))
    c.deref-in-Loop-3.ensures.value c.name_part-in-Loop.ensures)
    c.name_atom-in-Loop.ensures
    (subst (λ xs. Leads c.name_atom-in-Loop.new.naming c.name_part-in-Loop-2.new.naming
    (cut_before c.either_holds-cut-in-Loop.result (pieces_of (lines_of xs))))
    c.deref-in-Loop-4.ensures.value c.name_part-in-Loop-2.ensures)
    c.pass_cut-in-Loop.ensures
