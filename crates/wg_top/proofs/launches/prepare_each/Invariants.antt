use Rattle.std.proofs.Common.{◌≡◌, ◌++◌, map, drop}
use Rattle.std.specs.Prelude.{All, sum}
use Rattle.std.specs.Vec.Iter.{into_iter_items}
use Rattle.cl_model.specs.View.{launch_of}
use Rattle.lane_code.specs.Fits.{LaunchFits}
use Rattle.lane_code.specs.View.{plain_of}
use Rattle.wg_top.specs.CompiledLaunches.{AllFit}
use Rattle.wg_top.proofs.launches.prepare_each.Given as goal

abbrev pub invariant-loop-runnable : goal.invariant-loop-runnable
invariant-loop-runnable l = record {
  fit : AllFit (map (λ r. plain_of r.group.now) (drop l.runnable-index l.runnables)) (into_iter_items l.rest);
  programs : map (λ q. plain_of q.program) l.launchers.items ++
      map (λ r. plain_of r.group.now) (drop l.runnable-index l.runnables) ≡ map (λ r. plain_of r.group.now) l.runnables;
  prepared : All (λ q. LaunchFits (plain_of q.program).params (sum (plain_of q.program).locals) (launch_of q.launch))
      l.launchers.items;
  launches : map (λ q. q.launch) l.launchers.items ++ into_iter_items l.rest ≡ l.fn.launches.items;
}
