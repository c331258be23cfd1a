use Rattle.std.proofs.Common.{◌≡◌, ◌+◌, drop}
use Rattle.launch_file.specs.Binding as spec
use Rattle.launch_file.proofs.lengths.number_of.Given as goal

abbrev pub invariant-loop-i : goal.invariant-loop-i
invariant-loop-i l = spec.number_of l.name l.buffers ≡ l.i + spec.number_of l.name (drop l.i l.buffers)
