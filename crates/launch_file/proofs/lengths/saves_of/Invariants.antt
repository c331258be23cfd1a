use Rattle.std.proofs.Common.{◌≡◌, ◌++◌, drop, map}
use Rattle.launch_file.proofs.lengths.saves_of.Given as goal

abbrev pub invariant-loop-buffer : goal.invariant-loop-buffer
invariant-loop-buffer l =
    map (λ b. b.save) l.buffers ≡ l.list.items ++ map (λ b. b.save) (drop l.buffer-index l.buffers)
