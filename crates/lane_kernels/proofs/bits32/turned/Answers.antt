use Rattle.std.proofs.Common.{◌+◌, ◌*◌, ◌/◌, ◌%◌, ◌^◌, ◌<◌, ◌∙◌, ap₂, sym, subst, bit_and, replicate, arith, refl}
use Rattle.std.proofs.lemmas.Simd.{Each2-of, shifts_fit_splat}
use Rattle.std.specs.Simd.Lanes.{zip2, Each1}
use Rattle.wg_num.specs.Wrap.{width_bits}
use Rattle.lane_kernels.proofs.BitLaws.{rest_amounts, turned_lanes}
use Rattle.lane_kernels.proofs.LaneLaws as K
use Rattle.lane_kernels.proofs.ListLaws.{each_then, sub_in}
use Rattle.lane_kernels.proofs.ListLaws as L
use Rattle.lane_kernels.proofs.bits32.turned.Goals as goal

pub overflow_shl-result : goal.overflow_shl-result
overflow_shl-result g c =
    let n = c.requires.fits in
    Each2-of (λ _. Unit {0}) (λ k. k < 32) _ (λ x y u v. v)
    (zip2 bit_and c.args.a (replicate g.row.W c.low_bits.result)) c.args.amount
    (L.any_lane 32 31 4294967295 refl refl (zip2 bit_and c.args.a (replicate g.row.W c.low_bits.result)))
    (each_then (λ k. k < width_bits c.args.t) (λ k. k < 32) (λ k h. omega arith) c.args.amount c.requires.amount)

pub overflow_shr-result : goal.overflow_shr-result
overflow_shr-result g c =
    let t = c.args.t in
    let held = zip2 bit_and c.args.a (replicate g.row.W c.low_bits.result) in
    let rest = zip2 (sub_in 32) (replicate g.row.W c.amount_bits.result) c.args.amount in
    Each2-of (λ _. Unit {0}) (λ k. k < 32) _ (λ x y u v. v) held rest (L.any_lane 32 31 4294967295 refl refl held)
    (subst (λ y. Each1 (λ k. k < 32) (zip2 (sub_in 32) (replicate g.row.W y) c.args.amount))
    (sym c.amount_bits.ensures) (rest_amounts 32 (width_bits t)
    (K.some_width 32 (2 ^ 31) refl refl (omega arith) (omega arith) t) c.requires.fits (omega arith) g.row.W
    c.args.amount c.fits-amount.0 c.requires.amount))

pub overflow_shr-result-2 : goal.overflow_shr-result-2
overflow_shr-result-2 g c = shifts_fit_splat 32 _ g.row.W 1 (omega arith)

pub returns : goal.returns
returns g c =
    turned_lanes 32 c.low_bits.result c.amount_bits.result g.row.W c.args.a c.args.amount c.fits-a.0 c.fits-amount.0
    ∙ ap₂ (λ x y. zip2 (λ p k. (bit_and p x * 2 ^ k % 2 ^ 32 + bit_and p x / 2 ^ sub_in 32 y k / 2 ^ 1) % 2 ^ 32)
    c.args.a c.args.amount) c.low_bits.ensures c.amount_bits.ensures
