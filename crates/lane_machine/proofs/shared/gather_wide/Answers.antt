use Rattle.std.proofs.Common.{◌≡◌, length}
use Rattle.wg_num.specs.Bytes.{size_of}
use Rattle.lane_values.specs.Access.{faults, gathered}
use Rattle.lane_machine.proofs.MaskLaws.{gather_is}
use Rattle.lane_machine.proofs.shared.gather_wide.Goals as goal

pub returns : goal.returns
returns g c =
    gather_is (faults (size_of c.args.t) (length c.args.bytes.now) c.args.mask c.args.index)
    (λ v. v ≡ gathered 64 c.args.t c.args.bytes.now c.args.mask c.args.index) c.gather64.result
    c.gather64.ensures.cases
