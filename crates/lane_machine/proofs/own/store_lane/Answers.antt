use Rattle.std.proofs.Common.{ap, sym, not}
use Rattle.lane_machine.proofs.own.store_lane.Goals as goal

pub returns-in-Ok-clause-done : goal.returns-in-Ok-clause-done
returns-in-Ok-clause-done c = sym (ap not (c.in-Ok.ensures.cases 0))
