use Rattle.std.proofs.Common.{refl, w64}
use Rattle.std.proofs.lemmas.Simd.{below_from_Fits}
use Rattle.lane_kernels.proofs.NumberLaws as N
use Rattle.lane_kernels.proofs.sums64.more.Goals as goal

pub returns : goal.returns
returns g c = N.more_lanes 64 63 18446744073709551615 refl refl c.args.a c.args.b (below_from_Fits w64 c.args.a
    c.fits-a.1)
    (below_from_Fits w64 c.args.b c.fits-b.1)
