use Rattle.std.proofs.Common.{◌≡◌, List, length, map, ◌∙◌, ap, subst, arith}
use Rattle.std.proofs.lemmas.List.{length-map}
use Rattle.std.proofs.lemmas.Result.{IfOk-weaker, IfErr-weaker}
use Rattle.launch_file.specs.declared.text.LaunchPart.{LaunchPart}
use Rattle.launch_file.specs.Texts.{text_of, part_of}
use Rattle.wg_object.specs.View.{object_of}
use Rattle.wg_top.specs.declared.runnable.Runnable.{Runnable}
use Rattle.wg_top.specs.Causes.{Standing, standing}
use Rattle.wg_top.specs.Programs.{Runs, runs_of, AreRun, RunsCause, RunsLeave}
use Rattle.wg_top.specs.CompiledObjects.{runs_each}
use Rattle.wg_top.proofs.ObjectLemmas.{all_runs, all_kinds}
use Rattle.wg_top.proofs.objects.run_taken.Goals as goal

pub run_runnables-requires-clause-as_many : goal.run_runnables-requires-clause-as_many
run_runnables-requires-clause-as_many g c =
    let made = (ap (map (λ (r : Runnable). r.program.now)) c.deref-in-Ok-one_each.ensures.value ∙
    (c.in-Ok-one_each.ensures.programs ∙
    ap (map (λ (p : LaunchPart). c.in-Ok.program)) c.deref.ensures.value)) in
    omega (
      arith,
      ap length made,
      length-map c.deref-in-Ok-one_each.result.now (λ (r : Runnable). r.program.now),
      length-map c.args.taken.text.list.items (λ (p : LaunchPart). c.in-Ok.program),
    )

pub run_runnables-requires-clause-kinds : goal.run_runnables-requires-clause-kinds
run_runnables-requires-clause-kinds g c =
    all_kinds c.args.taken.object c.in-Ok.program c.in-Ok.ensures c.args.taken.text.list.items
    c.deref-in-Ok-one_each.result.now
    (ap (map (λ (r : Runnable). r.program.now)) c.deref-in-Ok-one_each.ensures.value ∙
    (c.in-Ok-one_each.ensures.programs ∙
    ap (map (λ (p : LaunchPart). c.in-Ok.program)) c.deref.ensures.value))
    (ap (map (λ (r : Runnable). r.group.now)) c.deref-in-Ok-one_each.ensures.value ∙ (c.in-Ok-one_each.ensures.groups ∙
    ap (map (λ (p : LaunchPart). c.args.taken.object.group)) c.deref.ensures.value))

pub returns-in-Ok-one_each-clause-ok : goal.returns-in-Ok-one_each-clause-ok
returns-in-Ok-one_each-clause-ok g c =
    let old : Standing = standing g.S.Store.files g.S.Store.faults g.S.Store.misses c.args.store.now in
    let new : Standing = standing g.S.Store.files g.S.Store.faults g.S.Store.misses c.run_runnables.new.store in
    let are : map runs_of c.deref-in-Ok-one_each.result.now ≡
    runs_each (object_of c.args.taken.object) (map part_of c.args.taken.text.list.items) =
    all_runs c.args.taken.object c.in-Ok.program c.in-Ok.ensures c.args.taken.text.list.items
    c.deref-in-Ok-one_each.result.now
    (ap (map (λ (r : Runnable). r.program.now)) c.deref-in-Ok-one_each.ensures.value ∙
    (c.in-Ok-one_each.ensures.programs ∙
    ap (map (λ (p : LaunchPart). c.in-Ok.program)) c.deref.ensures.value))
    (ap (map (λ (r : Runnable). r.group.now)) c.deref-in-Ok-one_each.ensures.value ∙ (c.in-Ok-one_each.ensures.groups ∙
    ap (map (λ (p : LaunchPart). c.args.taken.object.group)) c.deref.ensures.value)) in
    IfOk-weaker _ _ _ (λ x h. subst (λ (rs : List Runs). AreRun old.files new.files (text_of c.args.taken.text) rs x)
    are h)
    c.run_runnables.ensures.ok

pub returns-in-Ok-one_each-clause-err : goal.returns-in-Ok-one_each-clause-err
returns-in-Ok-one_each-clause-err g c =
    let old : Standing = standing g.S.Store.files g.S.Store.faults g.S.Store.misses c.args.store.now in
    let new : Standing = standing g.S.Store.files g.S.Store.faults g.S.Store.misses c.run_runnables.new.store in
    let are : map runs_of c.deref-in-Ok-one_each.result.now ≡
    runs_each (object_of c.args.taken.object) (map part_of c.args.taken.text.list.items) =
    all_runs c.args.taken.object c.in-Ok.program c.in-Ok.ensures c.args.taken.text.list.items
    c.deref-in-Ok-one_each.result.now
    (ap (map (λ (r : Runnable). r.program.now)) c.deref-in-Ok-one_each.ensures.value ∙
    (c.in-Ok-one_each.ensures.programs ∙
    ap (map (λ (p : LaunchPart). c.in-Ok.program)) c.deref.ensures.value))
    (ap (map (λ (r : Runnable). r.group.now)) c.deref-in-Ok-one_each.ensures.value ∙ (c.in-Ok-one_each.ensures.groups ∙
    ap (map (λ (p : LaunchPart). c.args.taken.object.group)) c.deref.ensures.value)) in
    IfErr-weaker _ _ _ (λ x h. subst (λ (rs : List Runs). RunsCause old new (text_of c.args.taken.text) rs x) are h)
    c.run_runnables.ensures.err

pub returns-in-Ok-one_each-clause-left : goal.returns-in-Ok-one_each-clause-left
returns-in-Ok-one_each-clause-left g c =
    let old : Standing = standing g.S.Store.files g.S.Store.faults g.S.Store.misses c.args.store.now in
    let new : Standing = standing g.S.Store.files g.S.Store.faults g.S.Store.misses c.run_runnables.new.store in
    let are : map runs_of c.deref-in-Ok-one_each.result.now ≡
    runs_each (object_of c.args.taken.object) (map part_of c.args.taken.text.list.items) =
    all_runs c.args.taken.object c.in-Ok.program c.in-Ok.ensures c.args.taken.text.list.items
    c.deref-in-Ok-one_each.result.now
    (ap (map (λ (r : Runnable). r.program.now)) c.deref-in-Ok-one_each.ensures.value ∙
    (c.in-Ok-one_each.ensures.programs ∙
    ap (map (λ (p : LaunchPart). c.in-Ok.program)) c.deref.ensures.value))
    (ap (map (λ (r : Runnable). r.group.now)) c.deref-in-Ok-one_each.ensures.value ∙ (c.in-Ok-one_each.ensures.groups ∙
    ap (map (λ (p : LaunchPart). c.args.taken.object.group)) c.deref.ensures.value)) in
    IfErr-weaker _ _ _ (λ x h. subst (λ (rs : List Runs). RunsLeave old new (text_of c.args.taken.text) rs x) are h)
    c.run_runnables.ensures.left
