use Rattle.std.proofs.Common.{◌≡◌}
use Rattle.examples_machine.specs.Examples.{IsReady}
use Rattle.examples_machine.proofs.example.Example.chunks.Given as goal

abbrev pub invariant-loop-chunk : goal.invariant-loop-chunk
invariant-loop-chunk l = record {
  ready : IsReady l.self.program l.self.flat l.self.launch l.self.machine l.self.group;
  width : l.self.program.width ≡ l.fn.self.program.width;
}
