use Rattle.std.proofs.Common.{◌^◌, arith}
use Rattle.std.proofs.lemmas.Int.{ints}
use Rattle.wg_num.proofs.WrapLaws.{rest_is}
use Rattle.lane_values.specs.Lanes.{lane}
use Rattle.lane_kernels.proofs.functions64.lane_of64.Goals as goal

pub returns : goal.returns
unfolding lane
returns c =
    let e = rest_is c.args.z c.rem_euclid.result (2 ^ 64) c.ranges.z (omega arith) c.rem_euclid.ensures.value in
    omega (arith, ints, e)
