use Rattle.std.proofs.Common.{◌≡◌, ◌++◌, drop, map}
use Rattle.launch_file.proofs.lengths.loads_of.Given as goal

abbrev pub invariant-loop-buffer : goal.invariant-loop-buffer
invariant-loop-buffer l =
    map (λ b. b.load) l.buffers ≡ l.list.items ++ map (λ b. b.load) (drop l.buffer-index l.buffers)
