use Rattle.std.proofs.Common.{◌≡◌, length, true, false}
use Rattle.wg_num.specs.Bytes.{size_of}
use Rattle.lane_values.specs.Access.{faults, gathered}
use Rattle.lane_kernels.specs.Vectors.{are_within}
use Rattle.lane_machine.proofs.MaskLaws.{whole_is}
use Rattle.lane_machine.proofs.shared.whole_narrow.Goals as goal

pub returns : goal.returns
returns g c =
    whole_is (faults (size_of c.args.t) (length c.args.bytes.now) c.args.mask c.args.index)
    (λ v. v ≡ gathered 32 c.args.t c.args.bytes.now c.args.mask c.args.index)
    (are_within (size_of c.args.t) (length c.args.bytes.now) c.args.mask c.args.index ≡ false)
    (are_within (size_of c.args.t) (length c.args.bytes.now) c.args.mask c.args.index ≡ true) c.whole32.result
    c.whole32.ensures.cases
