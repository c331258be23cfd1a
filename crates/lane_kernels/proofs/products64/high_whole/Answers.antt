use Rattle.std.proofs.Common.{ℕ, ◌^◌, ◌<◌, ◌∙◌, ap, ap₂, refl, w64}
use Rattle.std.proofs.lemmas.Simd.{below_from_Fits}
use Rattle.std.specs.Simd.Lanes.{zip2}
use Rattle.wg_num.specs.declared.types.Fun.TheVariants.{MulHi}
use Rattle.lane_kernels.specs.Vectors.{bias_of, high_product_lane, negative_part, pair_lane}
use Rattle.lane_kernels.proofs.HighLaws.{lane_high}
use Rattle.lane_kernels.proofs.ListLaws.{sub_in, zip2_both}
use Rattle.lane_kernels.proofs.ListLaws as L
use Rattle.lane_kernels.proofs.NumberLaws.{zip2_of}
use Rattle.lane_kernels.proofs.products64.high_whole.Goals as goal

pub returns : goal.returns
returns g c =
    let t = c.args.t in
    let a = c.args.a in
    let b = c.args.b in
    let k = bias_of 64 t in
    let left = λ (p q : ℕ). sub_in 64 (high_product_lane p q) (negative_part k p q) in
    ap₂ (zip2 (sub_in 64)) (ap₂ (zip2 (sub_in 64)) c.high_products.ensures (c.where_negative.ensures ∙
    ap (λ k. zip2 (negative_part k) a b) c.bias-lift.ensures)
    ∙ zip2_of (sub_in 64) high_product_lane (negative_part k) a b)
    (c.where_negative-2.ensures ∙ ap (λ k. zip2 (negative_part k) b a) c.bias-lift.ensures ∙
    L.zip2_swap 64 63 18446744073709551615 refl refl (negative_part k) b a)
    ∙ zip2_of (sub_in 64) left (λ p q. negative_part k q p) a b
    ∙ zip2_both (λ x. x < 2 ^ 64) (λ x. x < 2 ^ 64) (λ p q. sub_in 64 (left p q) (negative_part k q p))
    (pair_lane 64 MulHi t) (lane_high t c.requires) a b (below_from_Fits w64 a c.fits-a.1)
    (below_from_Fits w64 b c.fits-b.1)
