use Rattle.std.proofs.Common.{◌≡◌, ◌++◌, map, drop}
use Rattle.wg_top.proofs.runnable.runnables.Given as goal

abbrev pub invariant-loop-kernel : goal.invariant-loop-kernel
invariant-loop-kernel l = record {
  programs : map (λ r. r.program.now) l.list.items ++ map (λ c. c.program) (drop l.kernel-index l.kernels) ≡
      map (λ c. c.program) l.kernels;
  groups : map (λ r. r.group.now) l.list.items ++ map (λ c. c.group) (drop l.kernel-index l.kernels) ≡
      map (λ c. c.group) l.kernels;
}
