use Rattle.std.proofs.Common.{◌≡◌, subst}
use Rattle.cl_model.specs.View.{buffers_of, launch_of}
use Rattle.lane_code.specs.Groups.{Reached}
use Rattle.lane_code.specs.View.{plain_of}
use Rattle.lane_code.specs.Acts.{store_at}
use Rattle.lane_machine.specs.Standing.{chunk_from, standing, accessed}
use Rattle.lane_machine.proofs.access.store.Goals as goal

pub returns-clause-act : goal.returns-clause-act
returns-clause-act g c = λ number site.
    let a = c.args in
    let p = plain_of a.setting.program.now in
    subst (λ (o : Reached). store_at (chunk_from p (launch_of a.setting.launch.now) number a.setting.first g.row.W)
    (standing a.r.now.plain a.group.now.kept (buffers_of a.buffers.now)) site a.access.of a.access.index
    a.access.value a.access.mask o ≡
    accessed site c.store_step.result (standing a.r.now.plain c.store_step.new.group.kept
    (buffers_of c.store_step.new.buffers)))
    c.object_of-object.ensures (c.store_step.ensures.act p (launch_of a.setting.launch.now) number site)
