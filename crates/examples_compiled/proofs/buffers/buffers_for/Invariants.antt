use Rattle.std.proofs.Common.{◌≡◌, take}
use Rattle.examples_compiled.proofs.Lengths.{lengths}
use Rattle.examples_compiled.proofs.buffers.buffers_for.Given as goal

abbrev pub invariant-loop-count : goal.invariant-loop-count
invariant-loop-count l = lengths l.list.items ≡ take l.count-index l.count-items
