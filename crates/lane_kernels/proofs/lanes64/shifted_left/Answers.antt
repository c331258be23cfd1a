use Rattle.std.proofs.Common.{refl, arith}
use Rattle.std.proofs.Common.{◌∙◌, ap, ◌^◌, ◌*◌, ◌%◌, ◌<◌, ◌≡◌, subst, sym, replicate, bit_and}
use Rattle.std.specs.Simd.Lanes.{zip2}
use Rattle.std.proofs.lemmas.Simd.{Each2-of}
use Rattle.wg_num.specs.Wrap.{width_bits}
use Rattle.lane_kernels.specs.Vectors.{shl_lane}
use Rattle.lane_kernels.proofs.ListLaws as L
use Rattle.lane_kernels.proofs.ListLaws.{splat_same, each_replicate}
use Rattle.lane_kernels.proofs.LaneLaws as K
use Rattle.lane_kernels.proofs.lanes64.shifted_left.Goals as goal

pub overflow_shl-result : goal.overflow_shl-result
overflow_shl-result g c =
    let t = c.args.t in
    let d = c.in-Some.amount in
    Each2-of (λ _. Unit {0}) (λ k. k < 64) _ (λ x y u v. v) c.args.a (replicate g.row.W (bit_and d c.amount_bits.result))
    (L.any_lane 64 63 18446744073709551615 refl refl c.args.a)
    (each_replicate (λ k. k < 64) g.row.W (bit_and d c.amount_bits.result)
    (subst (λ k. k < 64) (sym (ap (bit_and d) c.amount_bits.ensures ∙
    K.amount_masked 64 (2 ^ 63) refl refl (omega arith) (omega arith) t d c.requires))
    (K.amount_below 64 (2 ^ 63) refl refl (omega arith) (omega arith) t d c.requires)))

pub returns-in-Some : goal.returns-in-Some
returns-in-Some g c =
    let t = c.args.t in
    let d = c.in-Some.amount in
    let a = c.args.a in
    let k : bit_and d c.amount_bits.result ≡ d % width_bits t = ap (bit_and d) c.amount_bits.ensures ∙
    K.amount_masked 64 (2 ^ 63) refl refl (omega arith) (omega arith) t d c.requires in
    ap (λ y. zip2 (λ u v. u * 2 ^ v % 2 ^ 64) a (replicate g.row.W y)) k
    ∙ splat_same (λ _. Unit {0}) (λ u v. u * 2 ^ v % 2 ^ 64) (shl_lane 64 (width_bits t)) (d % width_bits t) d
    (λ p u. refl) g.row.W a (L.any_lane 64 63 18446744073709551615 refl refl a)
    ∙ ap (zip2 (shl_lane 64 (width_bits t)) a) (sym c.in-Some.ensures)
