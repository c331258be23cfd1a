use Rattle.std.proofs.Common.{◌++◌, ◌∷◌, true, length, refl, sym, ap, ◌∙◌}
use Rattle.std.specs.Prelude.{[]}
use Rattle.lane_code.specs.declared.step.Step.TheVariants.{VoteGet}
use Rattle.kir.specs.Tree.{NoLine}
use Rattle.kir.specs.Listed.{line_before, lines_of}
use Rattle.kir.proofs.Rows.{loop_listed}
use Rattle.mask_lower.specs.Atoms.{atoms_in}
use Rattle.mask_lower.specs.Registers.{frame_of, past}
use Rattle.mask_lower.specs.Lowered.{begun_code}
use Rattle.mask_lower.proofs.Past.{past_two_one}
use Rattle.mask_lower.proofs.Lowering.{rest_grown}
use Rattle.mask_lower.proofs.lines.lower_rest.Goals as goal

pub returns-clause-code : goal.returns-clause-code
returns-clause-code c =
    let i = c.in-Loop in
    let f = frame_of c.args.layout.now in
    rest_grown f i.site i.test_first c.args.next c.in_ok-inner.field-0 c.in_ok-inner-2.field-0 (lines_of i.test.items)
    i.answer (lines_of i.body.items) c.len-jump.result c.in_ok-start.start c.in_ok-turn_at.turn_at _ _ _ _ _ _ _ _
    (c.in_ok-push.ensures ∙ ap (λ r. c.args.code.now.items ++ VoteGet r ∷ []) c.mask_reg.ensures)
    c.in_ok-put_and.ensures (c.len-jump.ensures ∙ c.put_and.new.code.ok.0) c.in_ok-push-2.ensures
    c.in_ok-start.ensures c.in_ok-inner.ensures.code c.in_ok-inner.ensures.next c.in_ok-inner-2.ensures.code
    c.in_ok-inner-2.ensures.next
    c.in_ok-turn_at.ensures.code c.in_ok-turn_at.ensures.next.0 refl
    ∙ ap (λ l. c.args.code.now.items ++ begun_code f (length c.args.code.now.items) c.args.next true l)
    (sym (ap (λ l. line_before l NoLine) i.is ∙ loop_listed i.site i.test_first i.test i.answer i.body NoLine))

pub returns-clause-next : goal.returns-clause-next
returns-clause-next c =
    let i = c.in-Loop in
    sym
    (ap (λ l. past c.args.next (atoms_in l)) (ap (λ l. line_before l NoLine) i.is ∙
    loop_listed i.site i.test_first i.test i.answer i.body NoLine)
    ∙ past_two_one c.args.next c.in_ok-inner.field-0 c.in_ok-inner-2.field-0 c.in_ok-turn_at.after i.answer
    (atoms_in (lines_of i.body.items)) (atoms_in (lines_of i.test.items)) [] c.in_ok-inner.ensures.next
    c.in_ok-inner-2.ensures.next c.in_ok-turn_at.ensures.next.1)
