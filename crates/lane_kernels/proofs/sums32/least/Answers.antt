use Rattle.std.proofs.Common.{refl}
use Rattle.lane_kernels.proofs.NumberLaws as N
use Rattle.lane_kernels.proofs.sums32.least.Goals as goal

pub returns : goal.returns
returns g c = N.least_lanes 32 31 4294967295 refl refl c.args.a c.args.b
