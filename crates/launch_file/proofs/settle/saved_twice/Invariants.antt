use Rattle.std.proofs.Common.{◌≡◌, drop}
use Rattle.launch_file.specs.Refusals.{saved_twice}
use Rattle.launch_file.proofs.settle.saved_twice.Given as goal

abbrev pub invariant-loop-i : goal.invariant-loop-i
invariant-loop-i l = saved_twice l.buffers ≡ saved_twice (drop l.i l.buffers)
