use Rattle.std.proofs.Common.{◌-◌, ◌∙◌, ap, ap₂}
use Rattle.std.specs.Simd.Lanes.{zip2}
use Rattle.lane_kernels.specs.Vectors.{sum_below}
use Rattle.lane_kernels.proofs.NumberLaws.{sum_lanes}
use Rattle.lane_kernels.proofs.sums32.raised_sums.Goals as goal

pub returns : goal.returns
returns g c =
    c.less-3.ensures
    ∙ ap₂ (zip2 (λ p q. p - q)) (c.more.ensures ∙ ap (zip2 (sum_below 32) c.args.a) c.less.ensures) c.less-2.ensures
    ∙ sum_lanes 32 c.args.bias g.row.W c.args.a c.args.b c.fits-a.0 c.fits-b.0
