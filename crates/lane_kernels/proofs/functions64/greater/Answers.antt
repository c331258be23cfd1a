use Rattle.std.proofs.Common.{refl}
use Rattle.lane_kernels.proofs.ListLaws as L
use Rattle.lane_kernels.proofs.functions64.greater.Goals as goal

pub returns : goal.returns
returns g c =
    L.greater_lanes 64 63 18446744073709551615 refl refl c.args.bias g.row.W c.args.a c.args.b c.fits-a.0 c.fits-b.0
