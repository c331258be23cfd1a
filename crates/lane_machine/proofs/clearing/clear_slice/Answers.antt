use Rattle.std.proofs.Common.{◌∙◌}
use Rattle.lane_machine.proofs.ZeroLaws.{filled}
use Rattle.lane_machine.proofs.clearing.clear_slice.Goals as goal

pub returns : goal.returns
returns c = c.fill.ensures.after (λ y e. e) ∙ filled 0 c.args.numbers.now
