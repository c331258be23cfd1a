use Rattle.std.proofs.Common.{◌-◌, ◌∙◌, ap, ap₂}
use Rattle.std.specs.Simd.Lanes.{zip2}
use Rattle.lane_kernels.specs.Vectors.{sum_below}
use Rattle.lane_kernels.proofs.NumberLaws.{rest_lanes}
use Rattle.lane_kernels.proofs.sums64.raised_rests.Goals as goal

pub returns : goal.returns
returns g c =
    c.less-3.ensures
    ∙ ap₂ (zip2 (λ p q. p - q)) (c.more.ensures ∙ ap (zip2 (sum_below 64) c.args.a) c.less.ensures) c.less-2.ensures
    ∙ rest_lanes 64 c.args.bias g.row.W c.args.a c.args.b c.fits-a.0 c.fits-b.0
