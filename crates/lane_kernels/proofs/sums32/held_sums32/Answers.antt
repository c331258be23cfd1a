use Rattle.std.proofs.Common.{ℕ, ◌^◌, ◌∙◌, ap, ap₂, map, refl, arith}
use Rattle.std.specs.Simd.Lanes.{zip2}
use Rattle.wg_num.specs.declared.types.Fun.TheVariants.{AddSat}
use Rattle.lane_kernels.specs.Vectors.{bias_of, held_raised, lowered_lane, pair_lane, raised_sum, raised_value}
use Rattle.lane_kernels.proofs.ListLaws.{map_of_zip2, zip2-maps, zip2_same}
use Rattle.lane_kernels.proofs.SumLaws as S
use Rattle.lane_kernels.proofs.sums32.held_sums32.Goals as goal

pub returns : goal.returns
returns g c =
    let t = c.args.t in
    let a = c.args.a in
    let b = c.args.b in
    let top = c.highest_of.result in
    let number = λ (x : ℕ). lowered_lane 32 t (held_raised 32 t top x) in
    c.held.ensures
    ∙ ap (map number) (c.raised_sums-sum.ensures
    ∙ ap (λ k. zip2 (raised_sum 32 k) c.raised.result c.raised-2.result) c.bias.ensures
    ∙ ap₂ (zip2 (raised_sum 32 (bias_of 32 t))) c.raised.ensures c.raised-2.ensures
    ∙ zip2-maps (raised_sum 32 (bias_of 32 t)) (raised_value 32 t) (raised_value 32 t) a b)
    ∙ map_of_zip2 number (λ p q. raised_sum 32 (bias_of 32 t) (raised_value 32 t p) (raised_value 32 t q)) a b
    ∙ zip2_same _ (pair_lane 32 AddSat t)
    (S.lane_sum 32 (2 ^ 31) refl refl (omega arith) (omega arith) t c.requires top c.highest_of.ensures) a b
