use Rattle.std.proofs.Common.{◌^◌}
use Rattle.std.proofs.Common.{refl, arith}
use Rattle.std.proofs.Common.{◌∙◌, ap, bit_and, ◌%◌}
use Rattle.std.proofs.lemmas.Simd.{zip2_splat}
use Rattle.wg_num.specs.Wrap.{width_bits}
use Rattle.lane_kernels.proofs.ListLaws as L
use Rattle.lane_kernels.proofs.LaneLaws as K
use Rattle.lane_kernels.proofs.lanes32.amounts.Goals as goal

pub returns : goal.returns
returns g c =
    zip2_splat bit_and c.args.b g.row.W c.amount_bits.result c.fits-b.0
    ∙ L.map_same 32 31 4294967295 refl refl (λ q. bit_and q c.amount_bits.result) (λ q. q % width_bits c.args.t)
    (λ q. ap (bit_and q) c.amount_bits.ensures ∙
    K.amount_masked 32 (2 ^ 31) refl refl (omega arith) (omega arith) c.args.t q c.requires) c.args.b
