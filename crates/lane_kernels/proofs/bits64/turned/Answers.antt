use Rattle.std.proofs.Common.{◌+◌, ◌*◌, ◌/◌, ◌%◌, ◌^◌, ◌<◌, ◌∙◌, ap₂, sym, subst, bit_and, replicate, arith, refl}
use Rattle.std.proofs.lemmas.Simd.{Each2-of, shifts_fit_splat}
use Rattle.std.specs.Simd.Lanes.{zip2, Each1}
use Rattle.wg_num.specs.Wrap.{width_bits}
use Rattle.lane_kernels.proofs.BitLaws.{rest_amounts, turned_lanes}
use Rattle.lane_kernels.proofs.LaneLaws as K
use Rattle.lane_kernels.proofs.ListLaws.{each_then, sub_in}
use Rattle.lane_kernels.proofs.ListLaws as L
use Rattle.lane_kernels.proofs.bits64.turned.Goals as goal

pub overflow_shl-result : goal.overflow_shl-result
overflow_shl-result g c =
    let n = c.requires.fits in
    Each2-of (λ _. Unit {0}) (λ k. k < 64) _ (λ x y u v. v)
    (zip2 bit_and c.args.a (replicate g.row.W c.low_bits.result)) c.args.amount
    (L.any_lane 64 63 18446744073709551615 refl refl (zip2 bit_and c.args.a (replicate g.row.W c.low_bits.result)))
    (each_then (λ k. k < width_bits c.args.t) (λ k. k < 64) (λ k h. omega arith) c.args.amount c.requires.amount)

pub overflow_shr-result : goal.overflow_shr-result
overflow_shr-result g c =
    let t = c.args.t in
    let held = zip2 bit_and c.args.a (replicate g.row.W c.low_bits.result) in
    let rest = zip2 (sub_in 64) (replicate g.row.W c.amount_bits.result) c.args.amount in
    Each2-of (λ _. Unit {0}) (λ k. k < 64) _ (λ x y u v. v) held rest (L.any_lane 64 63 18446744073709551615 refl
    refl held)
    (subst (λ y. Each1 (λ k. k < 64) (zip2 (sub_in 64) (replicate g.row.W y) c.args.amount))
    (sym c.amount_bits.ensures) (rest_amounts 64 (width_bits t)
    (K.some_width 64 (2 ^ 63) refl refl (omega arith) (omega arith) t) c.requires.fits (omega arith) g.row.W
    c.args.amount c.fits-amount.0 c.requires.amount))

pub overflow_shr-result-2 : goal.overflow_shr-result-2
overflow_shr-result-2 g c = shifts_fit_splat 64 _ g.row.W 1 (omega arith)

pub returns : goal.returns
returns g c =
    turned_lanes 64 c.low_bits.result c.amount_bits.result g.row.W c.args.a c.args.amount c.fits-a.0 c.fits-amount.0
    ∙ ap₂ (λ x y. zip2 (λ p k. (bit_and p x * 2 ^ k % 2 ^ 64 + bit_and p x / 2 ^ sub_in 64 y k / 2 ^ 1) % 2 ^ 64)
    c.args.a c.args.amount) c.low_bits.ensures c.amount_bits.ensures
