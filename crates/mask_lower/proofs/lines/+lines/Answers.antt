use Rattle.std.proofs.Common.{ℕ, ◌++◌, List, length, sym, ap, ◌∙◌}
use Rattle.kir.specs.Listed.{line_before, lines_of}
use Rattle.kir.proofs.Rows.{if_listed, loop_listed}
use Rattle.std.specs.Prelude.{slice_set}
use Rattle.lane_code.specs.declared.step.Step.{Step}
use Rattle.lane_code.specs.declared.step.Step.TheVariants.{Jump}
use Rattle.mask_lower.specs.Atoms.{atoms_in}
use Rattle.mask_lower.specs.Registers.{frame_of, past}
use Rattle.mask_lower.specs.Lowered.{lines_code}
use Rattle.mask_lower.proofs.Past.{past_one_two, past_two_one}
use Rattle.mask_lower.proofs.Patch.{patch_skip}
use Rattle.mask_lower.proofs.Lowering.{other_grown, if_grown, loop_grown}
use Rattle.mask_lower.proofs.lines.+lines.Goals as goal

pub lower_branch-returns-clause-code : goal.lower_branch-returns-clause-code
lower_branch-returns-clause-code t c =
    let f = frame_of c.args.layout.now in
    let at = c.args.at in
    let ls = lines_of c.args.lines.now.items in
    let code : ℕ → List Step = λ k. lines_code f at.mask at.free k at.next ls in
    patch_skip at.mask ls code c.len-skip.result c.args.code.now.items c.put_skip.new.code.items
    c.lower_lines.new.code.items _ (sym c.is_no_line.ensures ∙ c.if-is_no_line.false) (c.len-skip.ensures ∙
    c.args.code.now.ok.0) c.in_ok-put_skip.ensures c.in_ok-next.ensures.code c.in_ok-skip_to_end.ensures

pub lower_other-returns-clause-code : goal.lower_other-returns-clause-code
lower_other-returns-clause-code t c =
    let at = c.args.at in
    other_grown (frame_of c.args.layout.now) c.args.outer at.mask at.free at.next (lines_of c.args.lines.now.items)
    c.args.code.now.items c.put_less.new.code.items _ (sym c.is_no_line.ensures ∙
    c.if-is_no_line.false) c.in_ok-put_less.ensures c.in_ok-next.ensures.code

pub lower_if-returns-clause-code : goal.lower_if-returns-clause-code
lower_if-returns-clause-code t c = λ rest.
    let i = c.in-If in
    let f = frame_of c.args.layout.now in
    let at = c.args.at in
    ap (λ l. c.args.code.now.items ++ lines_code f at.mask at.free (length c.args.code.now.items) at.next l)
    (ap (λ l. line_before l rest) i.is ∙ if_listed i.site i.test i.yes i.no rest)
    ∙ if_grown f at.mask at.free c.in_ok-free.free i.site at.next c.in_ok-next.next c.in_ok-behind.behind
    c.in_ok-after.after i.test (lines_of i.yes.items) (lines_of i.no.items) rest _ _ _ _
    c.in_ok-free.ensures c.in_ok-next.ensures.code c.in_ok-next.ensures.next c.in_ok-behind.ensures.code
    c.in_ok-behind.ensures.next c.in_ok-after.ensures.code c.in_ok-after.ensures.next

pub lower_if-returns-clause-next : goal.lower_if-returns-clause-next
lower_if-returns-clause-next t c = λ rest.
    let i = c.in-If in
    ap (λ l. past c.args.at.next (atoms_in l)) (ap (λ l. line_before l rest) i.is ∙
    if_listed i.site i.test i.yes i.no rest)
    ∙ past_one_two c.args.at.next c.in_ok-next.next c.in_ok-behind.behind c.in_ok-after.after i.test
    (atoms_in (lines_of i.yes.items)) (atoms_in (lines_of i.no.items)) (atoms_in rest)
    c.in_ok-next.ensures.next c.in_ok-behind.ensures.next c.in_ok-after.ensures.next

pub lower_loop-returns-clause-code : goal.lower_loop-returns-clause-code
lower_loop-returns-clause-code t c = λ rest.
    let i = c.in-Loop in
    let f = frame_of c.args.layout.now in
    let at = c.args.at in
    ap (λ l. c.args.code.now.items ++ lines_code f at.mask at.free (length c.args.code.now.items) at.next l)
    (ap (λ l. line_before l rest) i.is ∙ loop_listed i.site i.test_first i.test i.answer i.body rest)
    ∙ loop_grown f at.mask at.free c.in_ok-free.free i.site i.test_first at.next c.in_ok-inner.field-0
    c.in_ok-inner-2.field-0 c.in_ok-turn_at.after (lines_of i.test.items) i.answer (lines_of i.body.items) rest
    c.len-jump.result c.in_ok-start.start c.in_ok-test_at.test_at c.in_ok-turn_at.turn_at _ _ _ _ _ _ _
    c.in_ok-free.ensures c.in_ok-put_and.ensures (c.len-jump.ensures ∙ c.put_and.new.code.ok.0) c.in_ok-push.ensures
    c.in_ok-start.ensures c.in_ok-inner.ensures.code c.in_ok-inner.ensures.next c.in_ok-test_at.ensures
    c.in_ok-inner-2.ensures.code c.in_ok-inner-2.ensures.next
    c.in_ok-turn_at.ensures.code c.in_ok-turn_at.ensures.next.0 c.in_ok-turn_at.ensures.next.1
    (ap (λ k. slice_set c.lower_turn.new.code.items c.len-jump.result (Jump k)) c.entry_of.ensures)

pub lower_loop-returns-clause-next : goal.lower_loop-returns-clause-next
lower_loop-returns-clause-next t c = λ rest.
    let i = c.in-Loop in
    ap (λ l. past c.args.at.next (atoms_in l)) (ap (λ l. line_before l rest) i.is ∙
    loop_listed i.site i.test_first i.test i.answer i.body rest)
    ∙ past_two_one c.args.at.next c.in_ok-inner.field-0 c.in_ok-inner-2.field-0 c.in_ok-turn_at.after i.answer
    (atoms_in (lines_of i.body.items)) (atoms_in (lines_of i.test.items)) (atoms_in rest)
    c.in_ok-inner.ensures.next c.in_ok-inner-2.ensures.next c.in_ok-turn_at.ensures.next.1
