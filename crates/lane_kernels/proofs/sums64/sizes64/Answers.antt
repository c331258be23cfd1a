use Rattle.std.proofs.Common.{◌^◌, ◌∙◌, ap₂, map, replicate, refl, arith}
use Rattle.std.proofs.lemmas.List.{length-map}
use Rattle.std.proofs.lemmas.Simd.{zip2_splat}
use Rattle.std.specs.Simd.Lanes.{zip2}
use Rattle.wg_num.specs.declared.types.Fun.TheVariants.{Abs}
use Rattle.lane_kernels.specs.Vectors.{apart, bias_of, one_lane, raised_value}
use Rattle.lane_kernels.proofs.ListLaws.{map_of_map, same_map}
use Rattle.lane_kernels.proofs.SumLaws as S
use Rattle.lane_kernels.proofs.sums64.sizes64.Goals as goal

pub returns : goal.returns
returns g c =
    let t = c.args.t in
    let a = c.args.a in
    c.apart.ensures ∙ ap₂ (λ xs k. zip2 apart xs (replicate g.row.W k)) c.raised.ensures c.bias.ensures
    ∙ zip2_splat apart (map (raised_value 64 t) a) g.row.W (bias_of 64 t) (length-map a (raised_value 64 t) ∙
    c.fits-a.0)
    ∙ map_of_map (λ x. apart x (bias_of 64 t)) (raised_value 64 t) a
    ∙ same_map (λ p. apart (raised_value 64 t p) (bias_of 64 t)) (one_lane 64 Abs t)
    (S.lane_size 64 (2 ^ 63) refl refl (omega arith) (omega arith) t c.requires) a
