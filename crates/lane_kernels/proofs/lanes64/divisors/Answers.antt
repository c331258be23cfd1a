use Rattle.std.proofs.Common.{refl}
use Rattle.std.proofs.Common.{◌∙◌, ap, length}
use Rattle.std.proofs.lemmas.Simd.{length-zip2}
use Rattle.lane_kernels.specs.Vectors.{signed_by}
use Rattle.lane_kernels.proofs.ListLaws as L
use Rattle.lane_kernels.proofs.lanes64.divisors.Goals as goal

pub returns : goal.returns
returns g c =
    L.one_for_zero 64 63 18446744073709551615 refl refl g.row.W c.signed_as-size.result
    (ap length c.signed_as-size.ensures ∙ length-zip2 ((signed_by 64) c.args.bias) c.args.b c.args.b refl ∙
    c.fits-b.0)
    ∙ L.divisor_lanes 64 63 18446744073709551615 refl refl c.args.bias c.args.b c.signed_as-size.result
    c.signed_as-size.ensures
