use Rattle.std.proofs.Common.{◌^◌, ◌∙◌, ap₂, refl, arith}
use Rattle.std.specs.Simd.Lanes.{zip2}
use Rattle.wg_num.specs.declared.types.Fun.TheVariants.{AbsDiff}
use Rattle.lane_kernels.specs.Vectors.{apart, pair_lane, raised_value}
use Rattle.lane_kernels.proofs.ListLaws.{zip2-maps, zip2_same}
use Rattle.lane_kernels.proofs.SumLaws as S
use Rattle.lane_kernels.proofs.sums64.distances64.Goals as goal

pub returns : goal.returns
returns g c =
    let t = c.args.t in
    let a = c.args.a in
    let b = c.args.b in
    c.apart.ensures ∙ ap₂ (zip2 apart) c.raised.ensures c.raised-2.ensures
    ∙ zip2-maps apart (raised_value 64 t) (raised_value 64 t) a b
    ∙ zip2_same (λ p q. apart (raised_value 64 t p) (raised_value 64 t q)) (pair_lane 64 AbsDiff t)
    (S.lane_distance 64 (2 ^ 63) refl refl (omega arith) (omega arith) t c.requires) a b
