use Rattle.std.proofs.Common.{refl}
use Rattle.lane_kernels.proofs.NumberLaws as N
use Rattle.lane_kernels.proofs.sums64.most.Goals as goal

pub returns : goal.returns
returns g c = N.most_lanes 64 63 18446744073709551615 refl refl c.args.a c.args.b
