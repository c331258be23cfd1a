use Rattle.std.proofs.Common.{◌≡◌, ◌++◌, drop, map}
use Rattle.launch_file.specs.Binding as spec
use Rattle.launch_file.proofs.lengths.lengths_of.Given as goal

abbrev pub invariant-loop-buffer : goal.invariant-loop-buffer
invariant-loop-buffer l = map (λ b. spec.count_of b.bytes) l.buffers ≡ l.list.items ++
    map (λ b. spec.count_of b.bytes) (drop l.buffer-index l.buffers)
