use Rattle.std.proofs.Common.{ap}
use Rattle.lane_machine.specs.Held.{Held}
use Rattle.examples_machine.proofs.ReadyLaws.{ready_again}
use Rattle.examples_machine.proofs.example.Example.clear.Goals as goal

pub returns-clause-ready : goal.returns-clause-ready
returns-clause-ready c = ready_again c.args.self.now.program c.args.self.now.flat c.args.self.now.launch
    c.args.self.now.machine c.args.self.now.group c.clear.new.self c.requires.ready c.clear.ensures.zeroed
    (ap (λ (h : Held). h.number) c.clear.ensures.cleared)
