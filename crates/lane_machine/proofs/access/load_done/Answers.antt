use Rattle.std.proofs.Common.{◌≡◌, ◌≢◌, ◌∙◌, ℕ, Bool, true, false, Option, None, Some, MatchOption, refl, ap, subst}
use Rattle.std.specs.Bool.{OnTrue, OnFalse}
use Rattle.cl_model.specs.View.{buffers_of, launch_of}
use Rattle.lane_code.specs.Groups.{Reached}
use Rattle.lane_code.specs.View.{plain_of}
use Rattle.lane_code.specs.Acts.{On, load_at}
use Rattle.lane_machine.specs.Standing.{chunk_from, standing, accessed}
use Rattle.lane_machine.proofs.AccessLaws.{load_shared_is, shared_load}
use Rattle.lane_machine.proofs.access.load_done.Goals as goal

on_true : (b : Bool) (P Q : Type 0) → OnTrue b P → (P → Q) → OnTrue b Q
on_true true P Q h f = f h
on_true false P Q h f = tt

on_false : (b : Bool) (P Q : Type 0) → OnFalse b P → (P → Q) → OnFalse b Q
on_false true P Q h f = tt
on_false false P Q h f = f h

some_kept : (o : Option ℕ) (A : Type 0) (B : ℕ → Type 0) (C : Type 0) → MatchOption o A (λ k. B k × C) → o ≢ None → C
some_kept None A B C h n = absurd (n refl)
some_kept (Some k) A B C h n = h.1

pub returns-in-Buffer-clause-done : goal.returns-in-Buffer-clause-done
returns-in-Buffer-clause-done g c =
    let a = c.args in
    let now = standing a.r.now.plain a.group.now.kept (buffers_of a.buffers.now) in
    let after = standing c.load_shared-fault.new.r.plain a.group.now.kept (buffers_of a.buffers.now) in
    let launch = launch_of a.setting.launch.now in
    on_true c.is_none.result _ _ c.is_none.ensures.none (λ e. λ number site.
    let chunk = chunk_from (plain_of a.setting.program.now) launch number a.setting.first g.row.W in
    subst (λ (o : Reached). load_at chunk now site a.access.of a.access.index a.access.value a.access.mask o ≡ On after)
    c.object_of-object.ensures
    (shared_load chunk now site a.access.of a.access.index a.access.value a.access.mask c.object_of-object.result
    c.in-Buffer.is ∙
    load_shared_is c.load_shared-fault.result a.r.now.plain c.load_shared-fault.new.r.plain a.group.now.kept
    (buffers_of a.buffers.now) site a.access.of a.access.index a.access.value a.access.mask
    c.bytes_of-bytes.result.now _
    (c.bytes_of-bytes.ensures a.r.now.plain launch number a.setting.first g.row.W) c.load_shared-fault.ensures.written
    ∙ ap (λ (o : Option ℕ). accessed site o after) e))

pub returns-in-Buffer-clause-kept : goal.returns-in-Buffer-clause-kept
returns-in-Buffer-clause-kept g c =
    on_false c.is_none.result _ _ c.is_none.ensures.some
    (some_kept c.load_shared-fault.result _ _ _ c.load_shared-fault.ensures.written)
