use Rattle.std.proofs.Common.{refl}
use Rattle.lane_kernels.proofs.ListLaws as L
use Rattle.lane_kernels.proofs.lanes64.signed_as.Goals as goal

pub returns : goal.returns
returns g c = L.signed_lanes 64 63 18446744073709551615 refl refl c.args.bias g.row.W c.args.sign c.args.a
    c.fits-sign.0 c.fits-a.0
