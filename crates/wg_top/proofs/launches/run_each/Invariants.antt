use Rattle.std.proofs.Common.{◌≡◌, map, take, length}
use Rattle.cl_model.specs.View.{launch_of, buffers_of}
use Rattle.lane_code.specs.View.{plain_of}
use Rattle.wg_top.specs.CompiledLaunches.{LaunchesRan}
use Rattle.wg_top.proofs.launches.run_each.Given as goal

abbrev pub invariant-loop-k : goal.invariant-loop-k
invariant-loop-k l = record {
  launchers : l.launchers.items ≡ l.initial.launchers.items;
  lengths : map (λ b. length b.items) l.buffers.list.items ≡ map (λ b. length b.items) l.initial.buffers.list.items;
  ran : LaunchesRan (map (λ q. plain_of q.program) (take l.k l.initial.launchers.items))
      (map (λ q. launch_of q.launch) (take l.k l.initial.launchers.items)) (buffers_of l.initial.buffers)
      (buffers_of l.buffers);
}
