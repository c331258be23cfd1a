use Rattle.std.proofs.Common.{refl, w32}
use Rattle.std.proofs.lemmas.Simd.{below_from_Fits}
use Rattle.lane_kernels.proofs.NumberLaws as N
use Rattle.lane_kernels.proofs.sums32.less.Goals as goal

pub returns : goal.returns
returns g c = N.less_lanes 32 31 4294967295 refl refl c.args.a c.args.b (below_from_Fits w32 c.args.a c.fits-a.1)
    (below_from_Fits w32 c.args.b c.fits-b.1)
