use Rattle.lane_kernels.proofs.HighLaws.{negative_lanes}
use Rattle.lane_kernels.proofs.products64.where_negative.Goals as goal

pub returns : goal.returns
returns g c = negative_lanes c.args.bias g.row.W c.args.a c.args.b c.fits-a.0 c.fits-b.0
