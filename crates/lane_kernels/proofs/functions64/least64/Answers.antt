use Rattle.std.proofs.Common.{◌^◌, ◌∙◌, ap, ap₂, refl, arith}
use Rattle.std.specs.Simd.Lanes.{zip2}
use Rattle.wg_num.specs.declared.types.Fun.TheVariants.{Min}
use Rattle.lane_values.specs.Lanes.{extended}
use Rattle.lane_kernels.specs.Vectors.{bias_of, lesser_lane, pair_lane}
use Rattle.lane_kernels.proofs.LaneLaws as K
use Rattle.lane_kernels.proofs.ListLaws.{zip2-maps, zip2_same}
use Rattle.lane_kernels.proofs.functions64.least64.Goals as goal

pub returns : goal.returns
returns g c =
    let t = c.args.t in
    let a = c.args.a in
    let b = c.args.b in
    c.lesser.ensures
    ∙ ap (λ k. zip2 (lesser_lane 64 k) c.extend64.result c.extend64-2.result) c.bias.ensures
    ∙ ap₂ (zip2 (lesser_lane 64 (bias_of 64 t))) c.extend64.ensures c.extend64-2.ensures
    ∙ zip2-maps (lesser_lane 64 (bias_of 64 t)) (extended 64 t) (extended 64 t) a b
    ∙ zip2_same _ (pair_lane 64 Min t) (λ p q. K.lane_lesser 64 (2 ^ 63) refl refl (omega arith) (omega arith)
    t c.requires p q 0) a b
