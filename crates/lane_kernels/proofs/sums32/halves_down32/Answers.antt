use Rattle.std.proofs.Common.{◌/◌, ◌^◌, ◌∙◌, ap, ap₂, map, min, replicate, refl, arith}
use Rattle.std.proofs.lemmas.List.{length-map}
use Rattle.std.proofs.lemmas.Simd.{shifts_fit_splat}
use Rattle.std.specs.Simd.Lanes.{zip2}
use Rattle.wg_num.specs.declared.types.Fun.TheVariants.{Hadd}
use Rattle.lane_kernels.specs.Vectors.{apart, lowered_lane, pair_lane, raised_value}
use Rattle.lane_kernels.proofs.ListLaws.{add_in, map_of_zip2, zip2-maps, zip2_same}
use Rattle.lane_kernels.proofs.NumberLaws.{half_lanes}
use Rattle.lane_kernels.proofs.SumLaws as S
use Rattle.lane_kernels.proofs.sums32.halves_down32.Goals as goal

pub overflow_shr-apart : goal.overflow_shr-apart
overflow_shr-apart g c = shifts_fit_splat 32 c.apart.result g.row.W 1 (omega arith)

pub returns : goal.returns
returns g c =
    let t = c.args.t in
    let a = c.args.a in
    let b = c.args.b in
    let x = map (raised_value 32 t) a in
    let y = map (raised_value 32 t) b in
    c.lowered.ensures
    ∙ ap (map (lowered_lane 32 t)) (ap₂ (λ u v. zip2 (add_in 32) u (zip2 (λ z k. z / 2 ^ k) v (replicate g.row.W 1)))
    (c.least.ensures ∙ ap₂ (zip2 min) c.raised-x.ensures c.raised-y.ensures)
    (c.apart.ensures ∙ ap₂ (zip2 apart) c.raised-x.ensures c.raised-y.ensures)
    ∙ half_lanes (add_in 32) apart min g.row.W x y (length-map a (raised_value 32 t) ∙ c.fits-a.0))
    ∙ map_of_zip2 (lowered_lane 32 t) (λ u v. add_in 32 (min u v) (apart u v / 2)) x y
    ∙ zip2-maps (λ u v. lowered_lane 32 t (add_in 32 (min u v) (apart u v / 2))) (raised_value 32 t)
    (raised_value 32 t) a b
    ∙ zip2_same _ (pair_lane 32 Hadd t)
    (S.lane_half_down 32 (2 ^ 31) refl refl (omega arith) (omega arith) t c.requires) a b
