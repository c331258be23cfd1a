use Rattle.std.proofs.Common.{ℕ, ◌^◌, ◌∙◌, ap, ap₂, map, refl, arith}
use Rattle.std.specs.Simd.Lanes.{zip2}
use Rattle.wg_num.specs.declared.types.Fun.TheVariants.{SubSat}
use Rattle.lane_kernels.specs.Vectors.{bias_of, held_raised, lowered_lane, pair_lane, raised_rest, raised_value}
use Rattle.lane_kernels.proofs.ListLaws.{map_of_zip2, zip2-maps, zip2_same}
use Rattle.lane_kernels.proofs.SumLaws as S
use Rattle.lane_kernels.proofs.sums64.held_rests64.Goals as goal

pub returns : goal.returns
returns g c =
    let t = c.args.t in
    let a = c.args.a in
    let b = c.args.b in
    let top = c.highest_of.result in
    let number = λ (x : ℕ). lowered_lane 64 t (held_raised 64 t top x) in
    c.held.ensures
    ∙ ap (map number) (c.raised_rests-rest.ensures
    ∙ ap (λ k. zip2 (raised_rest 64 k) c.raised.result c.raised-2.result) c.bias.ensures
    ∙ ap₂ (zip2 (raised_rest 64 (bias_of 64 t))) c.raised.ensures c.raised-2.ensures
    ∙ zip2-maps (raised_rest 64 (bias_of 64 t)) (raised_value 64 t) (raised_value 64 t) a b)
    ∙ map_of_zip2 number (λ p q. raised_rest 64 (bias_of 64 t) (raised_value 64 t p) (raised_value 64 t q)) a b
    ∙ zip2_same _ (pair_lane 64 SubSat t)
    (S.lane_rest 64 (2 ^ 63) refl refl (omega arith) (omega arith) t c.requires top c.highest_of.ensures) a b
