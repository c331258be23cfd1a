use Rattle.std.proofs.Common.{◌≡◌, ◌+◌, ◌-◌, ◌^◌, ◌≤◌, drop, min}
use Rattle.launch_file.specs.Binding as spec
use Rattle.launch_file.proofs.arguments.local_total.Given as goal

abbrev pub invariant-loop-arg : goal.invariant-loop-arg
invariant-loop-arg l = record {
  same : min (l.declared + spec.total (λ a. spec.count_of (spec.local_bytes_of a)) l.args) (2 ^ 64 - 1) ≡
      min (l.total + spec.total (λ a. spec.count_of (spec.local_bytes_of a)) (drop l.arg-index l.args)) (2 ^ 64 - 1);
  small : l.total ≤ 2 ^ 64 - 1;
}
