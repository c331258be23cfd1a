use Rattle.std.proofs.Common.{◌≡◌, drop}
use Rattle.launch_file.specs.Refusals.{named_twice}
use Rattle.launch_file.proofs.settle.named_twice.Given as goal

abbrev pub invariant-loop-i : goal.invariant-loop-i
invariant-loop-i l = named_twice l.buffers ≡ named_twice (drop l.i l.buffers)
