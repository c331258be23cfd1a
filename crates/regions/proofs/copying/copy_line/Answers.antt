use Rattle.std.proofs.Common.{ap, ◌∙◌}
use Rattle.kir.specs.Listed.{lines_of}
use Rattle.regions.proofs.Copies.{if_alike, loop_alike}
use Rattle.regions.proofs.copying.copy_line.Goals as goal

pub returns-in_ok-no-in-If : goal.returns-in_ok-no-in-If
returns-in_ok-no-in-If c =
    if_alike c.args.line.now c.in-If.site c.in-If.test c.in-If.yes c.in-If.no c.in_ok-yes-in-If.yes
    c.in_ok-no-in-If.no c.in-If.is
    (c.in_ok-yes-in-If.ensures ∙ ap lines_of c.deref.ensures.value) (c.in_ok-no-in-If.ensures ∙
    ap lines_of c.deref-in-If.ensures.value)

pub returns-in_ok-body-in-Loop : goal.returns-in_ok-body-in-Loop
returns-in_ok-body-in-Loop c =
    loop_alike c.args.line.now c.in-Loop.site c.in-Loop.test_first c.in-Loop.test c.in-Loop.answer c.in-Loop.body
    c.in_ok-test-in-Loop.test c.in_ok-body-in-Loop.body c.in-Loop.is
    (c.in_ok-test-in-Loop.ensures ∙ ap lines_of c.deref-in-Loop.ensures.value) (c.in_ok-body-in-Loop.ensures ∙
    ap lines_of c.deref-in-Loop-2.ensures.value)
