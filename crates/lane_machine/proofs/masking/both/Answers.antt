use Rattle.std.proofs.Common.{◌∙◌, ◌&&◌, bit_and}
use Rattle.lane_machine.proofs.ByteLaws.{joined_read, and_read}
use Rattle.lane_machine.proofs.masking.both.Goals as goal

pub returns : goal.returns
returns g c =
    c.truths_of.ensures ∙ joined_read bit_and (λ x y. x && y) and_read c.args.a c.args.b c.bytes_of.result
    c.bytes_of-2.result c.bytes_of.ensures c.bytes_of-2.ensures
