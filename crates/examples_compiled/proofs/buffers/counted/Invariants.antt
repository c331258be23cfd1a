use Rattle.std.proofs.Common.{◌≡◌, length}
use Rattle.examples_compiled.proofs.buffers.counted.Given as goal

abbrev pub invariant-loop-at : goal.invariant-loop-at
invariant-loop-at l = length l.bytes.items ≡ l.at
