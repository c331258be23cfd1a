use Rattle.std.proofs.Common.{◌∙◌, false}
use Rattle.lane_machine.proofs.ZeroLaws.{filled}
use Rattle.lane_machine.proofs.clearing.refuse.Goals as goal

pub returns : goal.returns
returns c = c.fill.ensures.after (λ y e. e) ∙ filled false c.args.votes.now
