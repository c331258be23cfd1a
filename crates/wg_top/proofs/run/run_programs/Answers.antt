use Rattle.std.proofs.Common.{◌≡◌, ◌≤◌, ◌∙◌, Option, List, ℕ, Vec, Global, map, length, get_or, inr, sym, ap, subst}
use Rattle.std.proofs.Common.{arith}
use Rattle.std.specs.Prelude.{All, IfSome, IsUtf8}
use Rattle.buffer_io.specs.Saves.{AreApart}
use Rattle.cl_model.specs.declared.launch.Launch.{Launch as Bindings}
use Rattle.cl_model.specs.Sizes.{Launch}
use Rattle.cl_model.specs.View.{launch_of, buffers_of}
use Rattle.group_run.specs.declared.launcher.Launcher.{Launcher}
use Rattle.lane_code.specs.Program.{Plain}
use Rattle.lane_code.specs.View.{plain_of}
use Rattle.launch_file.specs.Binding.{lengths_of}
use Rattle.launch_file.specs.Texts.{text_of}
use Rattle.wg_top.specs.Causes.{standing, BuffersLoaded}
use Rattle.wg_top.specs.CompiledLaunches.{AllFit}
use Rattle.wg_top.specs.Launches.{IsReady, launches_in}
use Rattle.wg_top.specs.declared.runnable.Runnable.{Runnable}
use Rattle.wg_top.specs.Programs.{HaveRoom, HaveRun, Runs, programs_of, runs_of}
use Rattle.wg_top.proofs.LaunchLemmas.{lengths_twice}
use Rattle.wg_top.proofs.RunLemmas.{ready_first, load_texts, save_texts, started_lengths, as_many, loaded_of, apart}
use Rattle.wg_top.proofs.RunLemmas.{map_twice, ready_launcher, buffers_fit}
use Rattle.wg_top.proofs.ProgramsLemmas.{prepared, have_run, are_run, runs_stopped, runs_leave, saves_stopped}
use Rattle.wg_top.proofs.run.run_programs.Goals as goal

pub load_all-requires-clause-texts : goal.load_all-requires-clause-texts
load_all-requires-clause-texts g c =
    let text = text_of c.args.text.now in
    let buffers = c.args.text.now.buffers.items in
    let some : 1 ≤ length c.args.launches.items = omega (arith, c.requires.as_many, c.requires.text.some) in
    let ready : IsReady buffers c.index.result.now =
    ready_first buffers c.args.launches.items c.index.result.now c.requires.ready some c.index.ensures in
    subst (λ (ls : List (Option (List ℕ))). All (λ load. IfSome load IsUtf8) ls) (sym ready.loads)
    (load_texts buffers c.requires.text.texts)

pub prepare_each-requires : goal.prepare_each-requires
prepare_each-requires g c =
    subst (λ (ps : List Plain). AllFit ps c.args.launches.items)
    (sym (map_twice (λ (r : Runs). r.program) runs_of c.args.runnables.now)) c.requires.fit

pub run_each-requires-clause-fit : goal.run_each-requires-clause-fit
run_each-requires-clause-fit g c =
    let text = text_of c.args.text.now in
    let buffers = c.args.text.now.buffers.items in
    let some : 1 ≤ length c.args.launches.items = omega (arith, c.requires.as_many, c.requires.text.some) in
    let ready : IsReady buffers c.index.result.now =
    ready_first buffers c.args.launches.items c.index.result.now c.requires.ready some c.index.ensures in
    let items : Vec ℕ Global → List ℕ = λ v. v.items in
    let sizes : map (λ (b : List ℕ). length b) (buffers_of c.in-Ok.buffers) ≡ lengths_of buffers =
    lengths_twice items c.in-Ok.buffers.list.items ∙
    (started_lengths items (g.S.Store.files c.args.store.now) c.index.result.now.lengths.items
    c.index.result.now.loads.items c.in-Ok.buffers.list.items c.in-Ok.ensures.content ∙ ready.lengths) in
    buffers_fit buffers c.in-Ok-prepare_each.launchers.items c.args.launches.items (buffers_of c.in-Ok.buffers)
    c.in-Ok-prepare_each.ensures.launches c.requires.ready sizes

pub returns-in-Err-run_each-clause-err : goal.returns-in-Err-run_each-clause-err
returns-in-Err-run_each-clause-err g c =
    let text = text_of c.args.text.now in
    let buffers = c.args.text.now.buffers.items in
    let some : 1 ≤ length c.args.launches.items = omega (arith, c.requires.as_many, c.requires.text.some) in
    let ready : IsReady buffers c.index.result.now =
    ready_first buffers c.args.launches.items c.index.result.now c.requires.ready some c.index.ensures in
    let rs : List Runs = map runs_of c.args.runnables.now in
    let all : List Launcher = c.in-Ok-prepare_each.launchers.items in
    let programs : List Plain = map (λ (q : Launcher). plain_of q.program) all in
    let launches : List Launch = map (λ (q : Launcher). launch_of q.launch) all in
    let are : launches ≡ launches_in text = map_twice launch_of (λ (q : Launcher). q.launch) all ∙
    (ap (map launch_of) c.in-Ok-prepare_each.ensures.launches ∙ c.requires.launches) in
    let before : List (List ℕ) = buffers_of c.in-Ok.buffers in
    let loaded : BuffersLoaded (g.S.Store.files c.args.store.now) text before =
    loaded_of (g.S.Store.files c.args.store.now) text c.index.result.now before ready c.in-Ok.ensures.content in
    let groups : map (λ (r : Runnable). plain_of r.group.now) c.args.runnables.now ≡ programs_of rs =
    map_twice (λ (r : Runs). r.program) runs_of c.args.runnables.now in
    let room : HaveRoom (programs_of rs) (launches_in text) =
    subst (λ (ls : List Launch). HaveRoom (programs_of rs) ls) are (subst (λ (ps : List Plain). HaveRoom ps launches)
    (c.in-Ok-prepare_each.ensures.programs ∙ groups) (prepared all c.in-Ok-prepare_each.ensures.fit)) in
    runs_stopped (standing g.S.Store.files g.S.Store.faults g.S.Store.misses c.args.store.now)
    (standing g.S.Store.files g.S.Store.faults g.S.Store.misses c.load_all.new.store) text rs before programs
    launches c.in-Err-run_each.error c.requires.accepted room loaded (c.in-Ok-prepare_each.ensures.programs ∙ groups)
    are
    c.in-Err-run_each.ensures.stops

pub returns-in-Err-run_each-clause-left : goal.returns-in-Err-run_each-clause-left
returns-in-Err-run_each-clause-left g c =
    let text = text_of c.args.text.now in
    let buffers = c.args.text.now.buffers.items in
    let some : 1 ≤ length c.args.launches.items = omega (arith, c.requires.as_many, c.requires.text.some) in
    let ready : IsReady buffers c.index.result.now =
    ready_first buffers c.args.launches.items c.index.result.now c.requires.ready some c.index.ensures in
    let rs : List Runs = map runs_of c.args.runnables.now in
    let all : List Launcher = c.in-Ok-prepare_each.launchers.items in
    let programs : List Plain = map (λ (q : Launcher). plain_of q.program) all in
    let launches : List Launch = map (λ (q : Launcher). launch_of q.launch) all in
    let are : launches ≡ launches_in text = map_twice launch_of (λ (q : Launcher). q.launch) all ∙
    (ap (map launch_of) c.in-Ok-prepare_each.ensures.launches ∙ c.requires.launches) in
    let before : List (List ℕ) = buffers_of c.in-Ok.buffers in
    let loaded : BuffersLoaded (g.S.Store.files c.args.store.now) text before =
    loaded_of (g.S.Store.files c.args.store.now) text c.index.result.now before ready c.in-Ok.ensures.content in
    runs_leave (standing g.S.Store.files g.S.Store.faults g.S.Store.misses c.args.store.now)
    (standing g.S.Store.files g.S.Store.faults g.S.Store.misses c.load_all.new.store) text rs text.several before
    programs launches c.in-Err-run_each.error c.load_all.ensures.files_stay c.in-Err-run_each.ensures.stops

pub save_all-requires-clause-same : goal.save_all-requires-clause-same
save_all-requires-clause-same g c =
    let text = text_of c.args.text.now in
    let buffers = c.args.text.now.buffers.items in
    let some : 1 ≤ length c.args.launches.items = omega (arith, c.requires.as_many, c.requires.text.some) in
    let ready : IsReady buffers c.index.result.now =
    ready_first buffers c.args.launches.items c.index.result.now c.requires.ready some c.index.ensures in
    let all : List Launcher = c.in-Ok-prepare_each.launchers.items in
    let is : c.index-2.result.now ≡ get_or all 0 c.index-2.result.now =
    subst (λ (qs : List Launcher). c.index-2.result.now ≡ get_or qs 0 c.index-2.result.now)
    c.run_each.ensures.launchers c.index-2.ensures in
    let there : IsReady buffers c.launch.result.now =
    subst (λ (l : Bindings). IsReady buffers l) (sym c.launch.ensures)
    (ready_launcher buffers all c.args.launches.items c.index-2.result.now c.in-Ok-prepare_each.ensures.launches
    c.requires.ready some is) in
    let items : Vec ℕ Global → List ℕ = λ v. v.items in
    let sizes = started_lengths items (g.S.Store.files c.args.store.now) c.index.result.now.lengths.items
    c.index.result.now.loads.items c.in-Ok.buffers.list.items c.in-Ok.ensures.content ∙
    (ready.lengths ∙ sym there.lengths) in
    let many : length c.run_each.new.buffers.list.items ≡ length c.launch.result.now.saves.items =
    as_many items c.run_each.new.buffers.list.items c.in-Ok.buffers.list.items buffers c.launch.result.now there
    c.run_each.ensures.lengths sizes in
    omega (arith, many, c.run_each.new.buffers.list.ok.0, c.launch.result.now.saves.ok.0)

pub save_all-requires-clause-texts : goal.save_all-requires-clause-texts
save_all-requires-clause-texts g c =
    let text = text_of c.args.text.now in
    let buffers = c.args.text.now.buffers.items in
    let some : 1 ≤ length c.args.launches.items = omega (arith, c.requires.as_many, c.requires.text.some) in
    let ready : IsReady buffers c.index.result.now =
    ready_first buffers c.args.launches.items c.index.result.now c.requires.ready some c.index.ensures in
    let all : List Launcher = c.in-Ok-prepare_each.launchers.items in
    let is : c.index-2.result.now ≡ get_or all 0 c.index-2.result.now =
    subst (λ (qs : List Launcher). c.index-2.result.now ≡ get_or qs 0 c.index-2.result.now)
    c.run_each.ensures.launchers c.index-2.ensures in
    let there : IsReady buffers c.launch.result.now =
    subst (λ (l : Bindings). IsReady buffers l) (sym c.launch.ensures)
    (ready_launcher buffers all c.args.launches.items c.index-2.result.now c.in-Ok-prepare_each.ensures.launches
    c.requires.ready some is) in
    subst (λ (ls : List (Option (List ℕ))). All (λ save. IfSome save IsUtf8) ls) (sym there.saves)
    (save_texts buffers c.requires.text.texts)

pub save_all-requires-clause-apart : goal.save_all-requires-clause-apart
save_all-requires-clause-apart g c =
    let text = text_of c.args.text.now in
    let buffers = c.args.text.now.buffers.items in
    let some : 1 ≤ length c.args.launches.items = omega (arith, c.requires.as_many, c.requires.text.some) in
    let ready : IsReady buffers c.index.result.now =
    ready_first buffers c.args.launches.items c.index.result.now c.requires.ready some c.index.ensures in
    let all : List Launcher = c.in-Ok-prepare_each.launchers.items in
    let is : c.index-2.result.now ≡ get_or all 0 c.index-2.result.now =
    subst (λ (qs : List Launcher). c.index-2.result.now ≡ get_or qs 0 c.index-2.result.now)
    c.run_each.ensures.launchers c.index-2.ensures in
    let there : IsReady buffers c.launch.result.now =
    subst (λ (l : Bindings). IsReady buffers l) (sym c.launch.ensures)
    (ready_launcher buffers all c.args.launches.items c.index-2.result.now c.in-Ok-prepare_each.ensures.launches
    c.requires.ready some is) in
    subst (λ (ls : List (Option (List ℕ))). AreApart ls) (sym there.saves) (apart buffers c.requires.text.apart)

pub returns-in-Ok-save_all-clause-ok : goal.returns-in-Ok-save_all-clause-ok
returns-in-Ok-save_all-clause-ok g c =
    let text = text_of c.args.text.now in
    let buffers = c.args.text.now.buffers.items in
    let some : 1 ≤ length c.args.launches.items = omega (arith, c.requires.as_many, c.requires.text.some) in
    let ready : IsReady buffers c.index.result.now =
    ready_first buffers c.args.launches.items c.index.result.now c.requires.ready some c.index.ensures in
    let rs : List Runs = map runs_of c.args.runnables.now in
    let all : List Launcher = c.in-Ok-prepare_each.launchers.items in
    let programs : List Plain = map (λ (q : Launcher). plain_of q.program) all in
    let launches : List Launch = map (λ (q : Launcher). launch_of q.launch) all in
    let are : launches ≡ launches_in text = map_twice launch_of (λ (q : Launcher). q.launch) all ∙
    (ap (map launch_of) c.in-Ok-prepare_each.ensures.launches ∙ c.requires.launches) in
    let before : List (List ℕ) = buffers_of c.in-Ok.buffers in
    let loaded : BuffersLoaded (g.S.Store.files c.args.store.now) text before =
    loaded_of (g.S.Store.files c.args.store.now) text c.index.result.now before ready c.in-Ok.ensures.content in
    let groups : map (λ (r : Runnable). plain_of r.group.now) c.args.runnables.now ≡ programs_of rs =
    map_twice (λ (r : Runs). r.program) runs_of c.args.runnables.now in
    let room : HaveRoom (programs_of rs) (launches_in text) =
    subst (λ (ls : List Launch). HaveRoom (programs_of rs) ls) are (subst (λ (ps : List Plain). HaveRoom ps launches)
    (c.in-Ok-prepare_each.ensures.programs ∙ groups) (prepared all c.in-Ok-prepare_each.ensures.fit)) in
    let is : c.index-2.result.now ≡ get_or all 0 c.index-2.result.now =
    subst (λ (qs : List Launcher). c.index-2.result.now ≡ get_or qs 0 c.index-2.result.now)
    c.run_each.ensures.launchers c.index-2.ensures in
    let there : IsReady buffers c.launch.result.now =
    subst (λ (l : Bindings). IsReady buffers l) (sym c.launch.ensures)
    (ready_launcher buffers all c.args.launches.items c.index-2.result.now c.in-Ok-prepare_each.ensures.launches
    c.requires.ready some is) in
    let after : List (List ℕ) = buffers_of c.run_each.new.buffers in
    let run : HaveRun (g.S.Store.files c.args.store.now) text rs before after =
    have_run (g.S.Store.files c.args.store.now) text rs before after programs launches c.requires.accepted room loaded
    (c.in-Ok-prepare_each.ensures.programs ∙ groups) are c.in-Ok-run_each.ensures.ran in
    are_run (g.S.Store.files c.args.store.now) (g.S.Store.files c.load_all.new.store) _ text rs
    c.launch.result.now.saves.items before after c.count_all-summary.result (map launch_of c.deref.result.now)
    c.load_all.ensures.files_stay there.saves run c.in-Ok-save_all.ensures.saved c.in-Ok-save_all.ensures.others
    (ap (map launch_of) c.deref.ensures.value ∙ c.requires.launches) c.count_all-summary.ensures.groups
    c.count_all-summary.ensures.items

pub returns-clause-left : goal.returns-clause-left
returns-clause-left g c =
    let text = text_of c.args.text.now in
    let buffers = c.args.text.now.buffers.items in
    let some : 1 ≤ length c.args.launches.items = omega (arith, c.requires.as_many, c.requires.text.some) in
    let ready : IsReady buffers c.index.result.now =
    ready_first buffers c.args.launches.items c.index.result.now c.requires.ready some c.index.ensures in
    let rs : List Runs = map runs_of c.args.runnables.now in
    let all : List Launcher = c.in-Ok-prepare_each.launchers.items in
    let programs : List Plain = map (λ (q : Launcher). plain_of q.program) all in
    let launches : List Launch = map (λ (q : Launcher). launch_of q.launch) all in
    let are : launches ≡ launches_in text = map_twice launch_of (λ (q : Launcher). q.launch) all ∙
    (ap (map launch_of) c.in-Ok-prepare_each.ensures.launches ∙ c.requires.launches) in
    let before : List (List ℕ) = buffers_of c.in-Ok.buffers in
    let loaded : BuffersLoaded (g.S.Store.files c.args.store.now) text before =
    loaded_of (g.S.Store.files c.args.store.now) text c.index.result.now before ready c.in-Ok.ensures.content in
    let groups : map (λ (r : Runnable). plain_of r.group.now) c.args.runnables.now ≡ programs_of rs =
    map_twice (λ (r : Runs). r.program) runs_of c.args.runnables.now in
    let room : HaveRoom (programs_of rs) (launches_in text) =
    subst (λ (ls : List Launch). HaveRoom (programs_of rs) ls) are (subst (λ (ps : List Plain). HaveRoom ps launches)
    (c.in-Ok-prepare_each.ensures.programs ∙ groups) (prepared all c.in-Ok-prepare_each.ensures.fit)) in
    let is : c.index-2.result.now ≡ get_or all 0 c.index-2.result.now =
    subst (λ (qs : List Launcher). c.index-2.result.now ≡ get_or qs 0 c.index-2.result.now)
    c.run_each.ensures.launchers c.index-2.ensures in
    let there : IsReady buffers c.launch.result.now =
    subst (λ (l : Bindings). IsReady buffers l) (sym c.launch.ensures)
    (ready_launcher buffers all c.args.launches.items c.index-2.result.now c.in-Ok-prepare_each.ensures.launches
    c.requires.ready some is) in
    let after : List (List ℕ) = buffers_of c.run_each.new.buffers in
    let run : HaveRun (g.S.Store.files c.args.store.now) text rs before after =
    have_run (g.S.Store.files c.args.store.now) text rs before after programs launches c.requires.accepted room loaded
    (c.in-Ok-prepare_each.ensures.programs ∙ groups) are c.in-Ok-run_each.ensures.ran in
    inr (saves_stopped (g.S.Store.files c.args.store.now) (g.S.Store.files c.load_all.new.store) _ text rs
    c.launch.result.now.saves.items before after c.load_all.ensures.files_stay there.saves run
    c.in-Err-save_all.ensures.stops c.in-Err-save_all.ensures.others)
