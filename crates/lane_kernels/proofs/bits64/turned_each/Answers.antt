use Rattle.std.proofs.Common.{◌^◌, ◌%◌, ◌<◌, ◌∙◌, ap, sym, subst, mod-lt, refl, arith}
use Rattle.std.specs.Simd.Lanes.{zip2, Each1}
use Rattle.wg_num.specs.Wrap.{width_bits}
use Rattle.lane_kernels.specs.Vectors.{turned_lane}
use Rattle.lane_kernels.proofs.LaneLaws as K
use Rattle.lane_kernels.proofs.ListLaws.{each_map}
use Rattle.lane_kernels.proofs.ListLaws as L
use Rattle.lane_kernels.proofs.bits64.turned_each.Goals as goal

pub turned-requires : goal.turned-requires
turned-requires g c =
    let t = c.args.t in
    let w = width_bits t in (
      omega arith,
      (
        c.requires,
        subst (Each1 (λ k. k < w)) (sym c.amounts.ensures) (each_map (λ k. k < w) (λ q. q % w)
            (λ q. mod-lt q (K.some_width 64 (2 ^ 63) refl refl (omega arith) (omega arith) t)) c.args.b),
      ),
    )

pub returns : goal.returns
returns g c =
    let t = c.args.t in
    c.turned.ensures ∙ ap (zip2 (turned_lane 64 t) c.args.a) c.amounts.ensures ∙
    L.zip2-map_right 64 63 18446744073709551615 refl refl (turned_lane 64 t) (λ q. q % width_bits t) c.args.a c.args.b
