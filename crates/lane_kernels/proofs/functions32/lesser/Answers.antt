use Rattle.std.proofs.Common.{refl}
use Rattle.lane_kernels.proofs.ListLaws as L
use Rattle.lane_kernels.proofs.functions32.lesser.Goals as goal

pub returns : goal.returns
returns g c = L.lesser_lanes 32 31 4294967295 refl refl c.args.bias g.row.W c.args.a c.args.b c.fits-a.0 c.fits-b.0
