use Rattle.std.proofs.Common.{◌≡◌, ◌∙◌, List, length, map, ap}
use Rattle.std.proofs.Common.{subst, arith}
use Rattle.std.proofs.lemmas.List.{length-map}
use Rattle.std.proofs.lemmas.Result.{IfOk-weaker, IfErr-weaker}
use Rattle.cl_meaning.specs.View.{unit_of}
use Rattle.wg_compile.specs.declared.Compiled.{Compiled}
use Rattle.launch_file.specs.Texts.{Part, part_of, text_of}
use Rattle.wg_top.specs.Causes.{Standing, standing}
use Rattle.wg_top.specs.declared.runnable.Runnable.{Runnable}
use Rattle.wg_top.specs.Programs.{Runs, runs_of, AreRun, RunsCause, RunsLeave}
use Rattle.wg_top.proofs.OutcomeLemmas.{kernel_runs, compiled_runs}
use Rattle.wg_top.proofs.ProgramsLemmas.{back_for, left_for, run_for, runs_are, kinds_are}
use Rattle.wg_top.proofs.run.run_given.Goals as goal

pub run_runnables-requires-clause-as_many : goal.run_runnables-requires-clause-as_many
run_runnables-requires-clause-as_many g c =
    let made = ap (map (λ (r : Runnable). r.program.now)) c.deref-in-Ok.ensures.value ∙ (c.in-Ok.ensures.programs ∙
    ap (map (λ (k : Compiled). k.program)) c.deref.ensures.value) in
    let names = ap length c.requires.names in
    omega (
      arith,
      ap length made,
      names,
      length-map c.deref-in-Ok.result.now (λ (r : Runnable). r.program.now),
      length-map c.args.given.kernels.items (λ (k : Compiled). k.program),
      length-map c.args.given.kernels.items (λ (k : Compiled). k.group.kernel),
      length-map (text_of c.args.given.text).list (λ (p : Part). p.kernel),
      length-map c.args.given.text.list.items part_of,
    )

pub run_runnables-requires-clause-kinds : goal.run_runnables-requires-clause-kinds
run_runnables-requires-clause-kinds g c =
    kinds_are (text_of c.args.given.text).lanes c.args.given.kernels.items c.deref-in-Ok.result.now
    (ap (map (λ (r : Runnable). r.program.now)) c.deref-in-Ok.ensures.value ∙ (c.in-Ok.ensures.programs ∙
    ap (map (λ (k : Compiled). k.program)) c.deref.ensures.value))
    (ap (map (λ (r : Runnable). r.group.now)) c.deref-in-Ok.ensures.value ∙ (c.in-Ok.ensures.groups ∙
    ap (map (λ (k : Compiled). k.group)) c.deref.ensures.value)) c.requires.passes

pub returns-in-Ok-clause-ok : goal.returns-in-Ok-clause-ok
returns-in-Ok-clause-ok g c =
    let old : Standing = standing g.S.Store.files g.S.Store.faults g.S.Store.misses c.args.store.now in
    let new : Standing = standing g.S.Store.files g.S.Store.faults g.S.Store.misses c.run_runnables.new.store in
    let text = text_of c.args.given.text in
    let are : map runs_of c.deref-in-Ok.result.now ≡ map kernel_runs c.args.given.kernels.items =
    runs_are c.args.given.kernels.items c.deref-in-Ok.result.now
    (ap (map (λ (r : Runnable). r.program.now)) c.deref-in-Ok.ensures.value ∙ (c.in-Ok.ensures.programs ∙
    ap (map (λ (k : Compiled). k.program)) c.deref.ensures.value))
    (ap (map (λ (r : Runnable). r.group.now)) c.deref-in-Ok.ensures.value ∙ (c.in-Ok.ensures.groups ∙
    ap (map (λ (k : Compiled). k.group)) c.deref.ensures.value)) in
    IfOk-weaker _ _ _ (λ summary run.
    run_for old new text (map (λ (k : Compiled). unit_of k.program) c.args.given.kernels.items)
    (map kernel_runs c.args.given.kernels.items) (compiled_runs text.lanes c.args.given.kernels.items text.list
    c.requires.passes c.requires.valid c.requires.names) summary
    (subst (λ (rs : List Runs). AreRun old.files new.files text rs summary) are run)) c.run_runnables.ensures.ok

pub returns-in-Ok-clause-err : goal.returns-in-Ok-clause-err
returns-in-Ok-clause-err g c =
    let old : Standing = standing g.S.Store.files g.S.Store.faults g.S.Store.misses c.args.store.now in
    let new : Standing = standing g.S.Store.files g.S.Store.faults g.S.Store.misses c.run_runnables.new.store in
    let text = text_of c.args.given.text in
    let are : map runs_of c.deref-in-Ok.result.now ≡ map kernel_runs c.args.given.kernels.items =
    runs_are c.args.given.kernels.items c.deref-in-Ok.result.now
    (ap (map (λ (r : Runnable). r.program.now)) c.deref-in-Ok.ensures.value ∙ (c.in-Ok.ensures.programs ∙
    ap (map (λ (k : Compiled). k.program)) c.deref.ensures.value))
    (ap (map (λ (r : Runnable). r.group.now)) c.deref-in-Ok.ensures.value ∙ (c.in-Ok.ensures.groups ∙
    ap (map (λ (k : Compiled). k.group)) c.deref.ensures.value)) in
    IfErr-weaker _ _ _ (λ error cause.
    back_for old new text (map (λ (k : Compiled). unit_of k.program) c.args.given.kernels.items)
    (map kernel_runs c.args.given.kernels.items) (compiled_runs text.lanes c.args.given.kernels.items text.list
    c.requires.passes c.requires.valid c.requires.names) error
    (subst (λ (rs : List Runs). RunsCause old new text rs error) are cause)) c.run_runnables.ensures.err

pub returns-in-Ok-clause-left : goal.returns-in-Ok-clause-left
returns-in-Ok-clause-left g c =
    let old : Standing = standing g.S.Store.files g.S.Store.faults g.S.Store.misses c.args.store.now in
    let new : Standing = standing g.S.Store.files g.S.Store.faults g.S.Store.misses c.run_runnables.new.store in
    let text = text_of c.args.given.text in
    let are : map runs_of c.deref-in-Ok.result.now ≡ map kernel_runs c.args.given.kernels.items =
    runs_are c.args.given.kernels.items c.deref-in-Ok.result.now
    (ap (map (λ (r : Runnable). r.program.now)) c.deref-in-Ok.ensures.value ∙ (c.in-Ok.ensures.programs ∙
    ap (map (λ (k : Compiled). k.program)) c.deref.ensures.value))
    (ap (map (λ (r : Runnable). r.group.now)) c.deref-in-Ok.ensures.value ∙ (c.in-Ok.ensures.groups ∙
    ap (map (λ (k : Compiled). k.group)) c.deref.ensures.value)) in
    IfErr-weaker _ _ _ (λ error cause.
    left_for old new text (map (λ (k : Compiled). unit_of k.program) c.args.given.kernels.items)
    (map kernel_runs c.args.given.kernels.items) (compiled_runs text.lanes c.args.given.kernels.items text.list
    c.requires.passes c.requires.valid c.requires.names) error
    (subst (λ (rs : List Runs). RunsLeave old new text rs error) are cause)) c.run_runnables.ensures.left
