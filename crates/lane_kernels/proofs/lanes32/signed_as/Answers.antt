use Rattle.std.proofs.Common.{refl}
use Rattle.lane_kernels.proofs.ListLaws as L
use Rattle.lane_kernels.proofs.lanes32.signed_as.Goals as goal

pub returns : goal.returns
returns g c =
    L.signed_lanes 32 31 4294967295 refl refl c.args.bias g.row.W c.args.sign c.args.a c.fits-sign.0 c.fits-a.0
