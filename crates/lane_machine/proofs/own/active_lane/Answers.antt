use Rattle.std.proofs.Common.{ap, get_or, length}
use Rattle.wg_num.specs.Bytes.{size_of}
use Rattle.lane_machine.proofs.OwnLaws.{one_fault, one_within}
use Rattle.lane_machine.proofs.own.active_lane.Goals as goal

pub returns-in-Some : goal.returns-in-Some
returns-in-Some c = (
  one_within (size_of c.args.t) (length c.args.bytes.now) c.args.at c.in-Some.ensures.cases.0,
  ap (λ l. get_or l 0 0) c.in-Some.ensures.cases.1.1,
)

pub returns-in-None : goal.returns-in-None
returns-in-None c = one_fault (size_of c.args.t) (length c.args.bytes.now) c.args.at c.in-None.ensures.cases
