use Rattle.std.proofs.Common.{ℕ, ◌*◌, ◌/◌, ◌%◌, ◌^◌, ◌∙◌, ap, ap₂, map}
use Rattle.std.specs.Simd.Lanes.{zip2}
use Rattle.lane_kernels.specs.Vectors.{cut}
use Rattle.lane_kernels.proofs.HighLaws.{made_product}
use Rattle.lane_kernels.proofs.ListLaws.{add_in}
use Rattle.lane_kernels.proofs.NumberLaws.{zip2_of}
use Rattle.lane_kernels.proofs.products64.middle.Goals as goal

pub returns : goal.returns
returns g c =
    let a = c.args.a in
    let b = c.args.b in
    let hi = λ (x : ℕ). x / 2 ^ 32 in
    let lo = λ (x : ℕ). x % 2 ^ 32 in
    let times = λ (x y : ℕ). cut (x * y) in
    ap₂ (zip2 (add_in 64)) (ap₂ (zip2 (add_in 64))
    (c.high.ensures ∙ ap (map hi) (ap₂ (zip2 times) c.low.ensures c.low-2.ensures) ∙ made_product hi lo lo a b)
    (c.low-4.ensures ∙ ap (map lo) (ap₂ (zip2 times) c.high-2.ensures c.low-3.ensures) ∙ made_product lo hi lo a b)
    ∙ zip2_of (add_in 64) (λ p q. hi (times (lo p) (lo q))) (λ p q. lo (times (hi p) (lo q))) a b)
    (c.low-6.ensures ∙ ap (map lo) (ap₂ (zip2 times) c.low-5.ensures c.high-3.ensures) ∙ made_product lo lo hi a b)
    ∙ zip2_of (add_in 64) (λ p q. add_in 64 (hi (times (lo p) (lo q))) (lo (times (hi p) (lo q))))
    (λ p q. lo (times (lo p) (hi q))) a b
