use Rattle.std.proofs.Common.{◌≡◌, sym, subst}
use Rattle.cl_model.specs.View.{buffers_of, launch_of}
use Rattle.lane_code.specs.View.{plain_of}
use Rattle.lane_code.specs.Acts.{act}
use Rattle.lane_code.specs.declared.step.Step.{Step}
use Rattle.lane_machine.specs.Standing.{chunk_from, standing, acted}
use Rattle.lane_machine.proofs.dispatch.take_step.Goals as goal

pub returns-in-SkipNone-clause-act : goal.returns-in-SkipNone-clause-act
returns-in-SkipNone-clause-act g c =
    let a = c.args in
    let chunk = chunk_from (plain_of a.setting.now.program.now) (launch_of a.setting.now.launch.now) a.group.now.number
    a.setting.now.first g.row.W in
    let now = standing a.r.now.plain a.group.now.kept (buffers_of a.buffers.now) in
    subst (λ (x : Step). act chunk x now ≡ acted c.skip_none.result now) (sym c.in-SkipNone.is)
    (c.skip_none.ensures.act chunk a.group.now.kept (buffers_of a.buffers.now))

pub returns-in-SkipZero-clause-act : goal.returns-in-SkipZero-clause-act
returns-in-SkipZero-clause-act g c =
    let a = c.args in
    let chunk = chunk_from (plain_of a.setting.now.program.now) (launch_of a.setting.now.launch.now) a.group.now.number
    a.setting.now.first g.row.W in
    let now = standing a.r.now.plain a.group.now.kept (buffers_of a.buffers.now) in
    subst (λ (x : Step). act chunk x now ≡ acted c.skip_zero.result now) (sym c.in-SkipZero.is)
    (c.skip_zero.ensures.act chunk a.group.now.kept (buffers_of a.buffers.now))

pub returns-in-Turn-clause-act : goal.returns-in-Turn-clause-act
returns-in-Turn-clause-act g c =
    let a = c.args in
    let chunk = chunk_from (plain_of a.setting.now.program.now) (launch_of a.setting.now.launch.now) a.group.now.number
    a.setting.now.first g.row.W in
    let now = standing a.r.now.plain a.group.now.kept (buffers_of a.buffers.now) in
    subst (λ (x : Step). act chunk x now ≡ acted c.turn.result now) (sym c.in-Turn.is)
    (c.turn.ensures.act chunk a.group.now.kept (buffers_of a.buffers.now))

pub returns-in-Mark-clause-act : goal.returns-in-Mark-clause-act
returns-in-Mark-clause-act g c =
    let a = c.args in
    let chunk = chunk_from (plain_of a.setting.now.program.now) (launch_of a.setting.now.launch.now) a.group.now.number
    a.setting.now.first g.row.W in
    let now = standing a.r.now.plain a.group.now.kept (buffers_of a.buffers.now) in
    subst (λ (x : Step). act chunk x now ≡ acted c.mark.result now) (sym c.in-Mark.is)
    (c.mark.ensures.act chunk a.group.now.kept (buffers_of a.buffers.now))
