use Rattle.std.proofs.Common.{◌≡◌, ◌<◌, ◌≤◌, ◌∙◌, ◌+◌, ◌*◌, ◌^◌, sym, ap, subst, length, true, arith}
use Rattle.std.specs.Prelude.{nat_lt, List}
use Rattle.std.specs.Prelude.{Bool as Test}
use Rattle.lane_code.specs.declared.step.Step.{Step}
use Rattle.cl_model.specs.Sizes.{group_size, group_count, size_at}
use Rattle.cl_model.specs.View.{buffers_of, launch_of}
use Rattle.lane_code.specs.View.{plain_of}
use Rattle.lane_code.specs.Program.{names_of}
use Rattle.lane_code.specs.Fits.{all_steps, step_fits}
use Rattle.lane_code.specs.Meaning.{Ended}
use Rattle.lane_flat.specs.declared.flat_step.FlatStep.{FlatStep}
use Rattle.lane_flat.specs.Stands.{IsFlat}
use Rattle.lane_machine.specs.Standing.{HasCounts}
use Rattle.lane_machine.proofs.ReadyLaws.{right}
use Rattle.lane_machine.proofs.RegionLaws.{started_alike, region_alike}
use Rattle.lane_machine.proofs.SizeLaws.{all_items, item_small}
use Rattle.lane_machine.proofs.region.region_at.Goals as goal

pub returns-clause-end : goal.returns-clause-end
returns-clause-end g c =
    let a = c.args in
    (region_alike a.task.code.now.counts a.task.flat.now.cleared.narrow.items a.task.flat.now.cleared.wide.items
    c.restart_for.new.self.plain g.row.W c.whole-size.result c.first_in-first.result c.restart_for.ensures.full
    c.restart_for.ensures.part (plain_of a.task.program.now) (launch_of a.task.launch.now)
    (names_of (plain_of a.task.program.now)) a.group.now.number a.task.chunk a.turns.now a.task.code.now.steps.items
    c.deref.result.now a.group.now.kept (buffers_of a.buffers.now) _ c.whole-size.ensures.value c.requires.flat.cleared
    c.requires.code c.requires.width c.first_in-first.ensures.value c.deref.ensures.value c.run.ensures.end).end

pub returns-clause-turns : goal.returns-clause-turns
returns-clause-turns g c =
    let a = c.args in
    (region_alike a.task.code.now.counts a.task.flat.now.cleared.narrow.items a.task.flat.now.cleared.wide.items
    c.restart_for.new.self.plain g.row.W c.whole-size.result c.first_in-first.result c.restart_for.ensures.full
    c.restart_for.ensures.part (plain_of a.task.program.now) (launch_of a.task.launch.now)
    (names_of (plain_of a.task.program.now)) a.group.now.number a.task.chunk a.turns.now a.task.code.now.steps.items
    c.deref.result.now a.group.now.kept (buffers_of a.buffers.now) _ c.whole-size.ensures.value c.requires.flat.cleared
    c.requires.code c.requires.width c.first_in-first.ensures.value c.deref.ensures.value c.run.ensures.end).turns

pub returns-clause-group : goal.returns-clause-group
returns-clause-group g c =
    let a = c.args in
    (region_alike a.task.code.now.counts a.task.flat.now.cleared.narrow.items a.task.flat.now.cleared.wide.items
    c.restart_for.new.self.plain g.row.W c.whole-size.result c.first_in-first.result c.restart_for.ensures.full
    c.restart_for.ensures.part (plain_of a.task.program.now) (launch_of a.task.launch.now)
    (names_of (plain_of a.task.program.now)) a.group.now.number a.task.chunk a.turns.now a.task.code.now.steps.items
    c.deref.result.now a.group.now.kept (buffers_of a.buffers.now) _ c.whole-size.ensures.value c.requires.flat.cleared
    c.requires.code c.requires.width c.first_in-first.ensures.value c.deref.ensures.value c.run.ensures.end).group

pub returns-clause-buffers : goal.returns-clause-buffers
returns-clause-buffers g c =
    let a = c.args in
    (region_alike a.task.code.now.counts a.task.flat.now.cleared.narrow.items a.task.flat.now.cleared.wide.items
    c.restart_for.new.self.plain g.row.W c.whole-size.result c.first_in-first.result c.restart_for.ensures.full
    c.restart_for.ensures.part (plain_of a.task.program.now) (launch_of a.task.launch.now)
    (names_of (plain_of a.task.program.now)) a.group.now.number a.task.chunk a.turns.now a.task.code.now.steps.items
    c.deref.result.now a.group.now.kept (buffers_of a.buffers.now) _ c.whole-size.ensures.value c.requires.flat.cleared
    c.requires.code c.requires.width c.first_in-first.ensures.value c.deref.ensures.value c.run.ensures.end).buffers

pub run-requires : goal.run-requires
run-requires g c =
    let a = c.args in
    let l = launch_of a.task.launch.now in
    let names = names_of (plain_of a.task.program.now) in
    let counts = a.task.code.now.counts in
    let e : c.whole-size.result ≡ group_size l = c.whole-size.ensures.value in
    let first : c.first_in-first.result < 2 ^ 32 =
    omega (arith, c.first_in-first.ensures.below, e, c.requires.sizes.local.few) in
    let all = all_items (size_at l.global 0) (size_at l.global 1) (size_at l.global 2) (size_at l.local 0)
    (size_at l.local 1) (size_at l.local 2) in
    let most : group_count l * group_size l ≤ 2 ^ 24 = omega (arith, all, c.requires.sizes.global.few) in
    let b = item_small (group_count l) (group_size l) a.group.now.number c.first_in-first.result most
    c.requires.number (subst (λ n. c.first_in-first.result < n) e c.first_in-first.ensures.below) in
    let few : a.group.now.number * group_size l + c.first_in-first.result < 2 ^ 32 = omega (arith, b) in
    let tests : (steps : List Step) → Test
    = λ steps. all_steps (step_fits names counts (length steps)) 0 steps in
    let fits : tests a.task.code.now.steps.items ≡ true =
    right (nat_lt 0 counts.masks) (tests a.task.code.now.steps.items) c.requires.code in
    let code : all_steps (step_fits names counts (length c.deref.result.now)) 0 c.deref.result.now ≡ true =
    subst (λ s. tests s ≡ true) (sym c.deref.ensures.value) fits in
    let same : IsFlat c.deref.result.now a.task.flat.now.steps.items =
    subst (λ (s : List Step). IsFlat s a.task.flat.now.steps.items) (sym c.deref.ensures.value) c.requires.flat.steps in
    let flat : IsFlat c.deref.result.now c.deref-2.result.now =
    subst (λ (f : List FlatStep). IsFlat c.deref.result.now f) (sym c.deref-2.ensures.value) same in
    let registers : HasCounts counts c.restart_for.new.self.plain =
    started_alike counts a.task.flat.now.cleared.narrow.items a.task.flat.now.cleared.wide.items c.restart_for.new.self.plain
    g.row.W c.whole-size.result c.first_in-first.result c.restart_for.ensures.full c.restart_for.ensures.part in (
      omega arith,
      (
        c.requires.lanes,
        (
          first,
          (
            few,
            (
              subst (λ n. c.first_in-first.result < n) e c.first_in-first.ensures.below,
              (
                c.requires.sizes,
                (code, (flat, (registers, c.requires.names))),
              ),
            ),
          ),
        ),
      ),
    )
