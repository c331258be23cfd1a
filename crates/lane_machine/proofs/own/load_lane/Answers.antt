use Rattle.std.proofs.Common.{ap, get_or}
use Rattle.lane_machine.proofs.own.load_lane.Goals as goal

pub returns-in-Ok : goal.returns-in-Ok
returns-in-Ok c = (c.in-Ok.ensures.cases.0 0, ap (λ l. get_or l 0 0) c.in-Ok.ensures.cases.1)
