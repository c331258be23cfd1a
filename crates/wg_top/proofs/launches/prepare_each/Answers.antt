use Rattle.std.proofs.Common.{◌≡◌, ◌+◌, ◌<◌, suc, ◌++◌, [], ◌∷◌, ◌∙◌, ℕ, List, length, map, drop, sym, ap, subst, arith}
use Rattle.std.proofs.Common.{rules}
use Rattle.std.specs.Prelude.{All, sum}
use Rattle.std.specs.Vec.Iter.{into_iter_items}
use Rattle.std.proofs.Math.Seq.{drop-cons}
use Rattle.std.proofs.lemmas.List.Elements.{All-push}
use Rattle.cl_model.specs.View.{launch_of}
use Rattle.cl_model.specs.declared.launch.Launch.{Launch as Bindings}
use Rattle.group_run.specs.declared.launcher.Launcher.{Launcher}
use Rattle.lane_code.specs.Fits.{LaunchFits}
use Rattle.lane_code.specs.Program.{Plain}
use Rattle.lane_code.specs.View.{plain_of}
use Rattle.wg_top.specs.CompiledLaunches.{AllFit}
use Rattle.wg_top.specs.declared.runnable.Runnable.{Runnable}
use Rattle.wg_top.proofs.LaunchLemmas.{made_next, taken_next}
use Rattle.wg_top.proofs.launches.prepare_each.Goals as goal

pub loop-runnable-preserved : goal.loop-runnable-preserved
loop-runnable-preserved c =
    let all : List Runnable = c.args.runnables.now in
    let k : ℕ = c.loop-runnable.runnable-index in
    let x : Runnable = c.runnable-item.result in
    let there : k < length all = omega (arith, c.loop-runnable-test.true) in
    let next : k + 1 ≡ suc k = omega arith in
    let rest : drop k all ≡ x ∷ drop (k + 1) all = drop-cons all k x there ∙
    (ap (λ (y : Runnable). y ∷ drop (suc k) all) (sym c.runnable-item.is) ∙
    ap (λ (n : ℕ). x ∷ drop n all) (sym next)) in
    let pushed : c.push.new.self.items ≡ c.loop-runnable.launchers.items ++ c.in_ok-launcher.launcher ∷ [] =
    search rules in
    let launches : into_iter_items c.loop-runnable.rest ≡ c.in-Some.launch ∷ into_iter_items c.next.new.self =
    search rules in
    let fits : Launcher → Type 0 =
    λ q. LaunchFits (plain_of q.program).params (sum (plain_of q.program).locals) (launch_of q.launch) in
    let program : Launcher → Plain = λ q. plain_of q.program in
    let group : Runnable → Plain = λ r. plain_of r.group.now in
    let launch : Launcher → Bindings = λ q. q.launch in
    let fit : AllFit (map group (x ∷ drop (k + 1) all)) (c.in-Some.launch ∷ into_iter_items c.next.new.self) =
    subst (λ (ls : List Bindings). AllFit (map group (x ∷ drop (k + 1) all)) ls) launches
    (subst (λ (rs : List Runnable). AllFit (map group rs) (into_iter_items c.loop-runnable.rest)) rest
    c.loop-runnable.invariant.fit) in
    record {
      fit = fit.1;
      programs = made_next program group c.loop-runnable.launchers.items c.push.new.self.items (drop k all)
          (drop (k + 1) all) c.in_ok-launcher.launcher x _ pushed rest (ap plain_of c.in_ok-launcher.ensures.program)
          c.loop-runnable.invariant.programs;
      prepared = subst (λ (qs : List Launcher). All fits qs) (sym pushed)
          (All-push fits c.loop-runnable.launchers.items c.in_ok-launcher.launcher c.loop-runnable.invariant.prepared
          c.in_ok-launcher.ensures.fit);
      launches = taken_next launch c.loop-runnable.launchers.items c.push.new.self.items
          (into_iter_items c.loop-runnable.rest) (into_iter_items c.next.new.self) c.in_ok-launcher.launcher
          c.in-Some.launch _ pushed launches c.in_ok-launcher.ensures.launch c.loop-runnable.invariant.launches;
    }
