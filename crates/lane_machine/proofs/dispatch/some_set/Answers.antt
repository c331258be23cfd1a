use Rattle.lane_machine.proofs.MaskLaws.{some_lowest, none_lowest}
use Rattle.lane_machine.proofs.dispatch.some_set.Goals as goal

pub returns-in-Some : goal.returns-in-Some
returns-in-Some g c = some_lowest c.args.mask c.in-Some.field-0 c.in-Some.ensures.same

pub returns-in-None : goal.returns-in-None
returns-in-None g c = none_lowest c.args.mask c.in-None.ensures.same
