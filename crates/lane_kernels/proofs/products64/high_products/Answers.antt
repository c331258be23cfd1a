use Rattle.std.proofs.Common.{ℕ, ◌*◌, ◌/◌, ◌%◌, ◌^◌, ◌∙◌, ap, ap₂, map}
use Rattle.std.specs.Simd.Lanes.{zip2}
use Rattle.lane_kernels.specs.Vectors.{cut, middle_lane}
use Rattle.lane_kernels.proofs.HighLaws.{made_product}
use Rattle.lane_kernels.proofs.ListLaws.{add_in, map_of_zip2, zip2-maps}
use Rattle.lane_kernels.proofs.NumberLaws.{zip2_of}
use Rattle.lane_kernels.proofs.products64.high_products.Goals as goal

pub returns : goal.returns
returns g c =
    let a = c.args.a in
    let b = c.args.b in
    let hi = λ (x : ℕ). x / 2 ^ 32 in
    let lo = λ (x : ℕ). x % 2 ^ 32 in
    let times = λ (x y : ℕ). cut (x * y) in
    let top = λ (p q : ℕ). times (hi p) (hi q) in
    let left = λ (p q : ℕ). hi (times (hi p) (lo q)) in
    let right = λ (p q : ℕ). hi (times (lo p) (hi q)) in
    ap₂ (zip2 (add_in 64)) (ap₂ (zip2 (add_in 64)) (ap₂ (zip2 (add_in 64))
    (ap₂ (zip2 times) c.high.ensures c.high-2.ensures ∙ zip2-maps times hi hi a b)
    (c.high-4.ensures ∙ ap (map hi) (ap₂ (zip2 times) c.high-3.ensures c.low.ensures) ∙ made_product hi hi lo a b)
    ∙ zip2_of (add_in 64) top left a b)
    (c.high-6.ensures ∙ ap (map hi) (ap₂ (zip2 times) c.low-2.ensures c.high-5.ensures) ∙ made_product hi lo hi a b)
    ∙ zip2_of (add_in 64) (λ p q. add_in 64 (top p q) (left p q)) right a b)
    (c.high-7.ensures ∙ ap (map hi) c.middle.ensures ∙ map_of_zip2 hi middle_lane a b)
    ∙ zip2_of (add_in 64) (λ p q. add_in 64 (add_in 64 (top p q) (left p q)) (right p q)) (λ p q. hi (middle_lane p q))
    a b
