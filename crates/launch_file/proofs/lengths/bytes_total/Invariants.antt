use Rattle.std.proofs.Common.{◌≡◌, ◌+◌, ◌-◌, ◌^◌, ◌≤◌, drop, min}
use Rattle.launch_file.specs.Binding as spec
use Rattle.launch_file.proofs.lengths.bytes_total.Given as goal

abbrev pub invariant-loop-buffer : goal.invariant-loop-buffer
invariant-loop-buffer l = record {
  same : min (spec.total (λ b. spec.count_of b.bytes) l.buffers) (2 ^ 64 - 1) ≡
      min (l.total + spec.total (λ b. spec.count_of b.bytes) (drop l.buffer-index l.buffers)) (2 ^ 64 - 1);
  small : l.total ≤ 2 ^ 64 - 1;
}
