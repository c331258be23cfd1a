use Rattle.std.proofs.Common.{◌≡◌, ◌∙◌, sym, subst, map, ℕ, Vec, Global}
use Rattle.cl_model.specs.View.{buffers_of}
use Rattle.lane_code.specs.View.{plain_of}
use Rattle.lane_code.specs.Acts.{load_at}
use Rattle.lane_machine.specs.declared.objects.Object.{Object}
use Rattle.lane_machine.specs.Standing.{chunk_from, standing, accessed, reached_of}
use Rattle.lane_machine.proofs.AccessLaws.{load_shared_is, load_own_is, shared_load}
use Rattle.lane_machine.proofs.access.load_step.Goals as goal

pub returns-in-Private-clause-act : goal.returns-in-Private-clause-act
returns-in-Private-clause-act g c = λ launch number site.
    let a = c.args in
    let now = standing a.r.now.plain a.group.now.kept (buffers_of a.buffers.now) in
    let chunk = chunk_from (plain_of a.setting.program.now) launch number a.setting.first g.row.W in
    subst (λ (o : Object). load_at chunk now site a.access.of a.access.index a.access.value a.access.mask
    (reached_of o) ≡ accessed site c.load_own.result (standing c.load_own.new.r.plain a.group.now.kept
    (buffers_of a.buffers.now))) (sym c.in-Private.is)
    (load_own_is c.load_own.result a.r.now.plain c.load_own.new.r.plain a.group.now.kept (buffers_of a.buffers.now)
    site a.setting.first g.row.W a.access.of a.access.index a.access.value a.access.mask
    (map (λ (v : Vec ℕ Global). v.items) c.objects_of-objects.result.now) _ c.objects_of-objects.ensures
    c.load_own.ensures.written)

pub returns-in-Buffer-clause-act : goal.returns-in-Buffer-clause-act
returns-in-Buffer-clause-act g c = λ launch number site.
    let a = c.args in
    let now = standing a.r.now.plain a.group.now.kept (buffers_of a.buffers.now) in
    let chunk = chunk_from (plain_of a.setting.program.now) launch number a.setting.first g.row.W in
    shared_load chunk now site a.access.of a.access.index a.access.value a.access.mask a.object c.in-Buffer.is ∙
    load_shared_is c.load_shared.result a.r.now.plain c.load_shared.new.r.plain a.group.now.kept
    (buffers_of a.buffers.now) site a.access.of a.access.index a.access.value a.access.mask
    c.bytes_of-bytes.result.now _
    (c.bytes_of-bytes.ensures a.r.now.plain launch number a.setting.first g.row.W) c.load_shared.ensures.written
