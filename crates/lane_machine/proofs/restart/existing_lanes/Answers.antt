use Rattle.std.proofs.Common.{◌∙◌, ap}
use Rattle.lane_code.specs.Registers.{existing}
use Rattle.lane_machine.proofs.MaskLaws.{all_existing, existing_from}
use Rattle.lane_machine.proofs.restart.existing_lanes.Goals as goal

pub returns-then-first-size : goal.returns-then-first-size
returns-then-first-size g c = all_existing c.args.size g.row.W c.args.first c.if-first-size.true

pub returns : goal.returns
returns g c = c.lanes_below.ensures ∙ ap (λ n. existing n g.row.W 0) c.saturating_sub.ensures ∙
    existing_from c.args.size g.row.W c.args.first
