use Rattle.std.proofs.Common.{refl, arith}
use Rattle.std.proofs.Common.{◌∙◌, ap, ap₂, ◌%◌, ◌^◌, ◌<◌, ◌≡◌, replicate, subst, sym, bit_and}
use Rattle.std.specs.Simd.Lanes.{zip2, Each1}
use Rattle.wg_num.specs.Wrap.{width_bits}
use Rattle.lane_kernels.specs.Vectors.{bias_of, moved_lane, shr_lane}
use Rattle.lane_kernels.proofs.ListLaws as L
use Rattle.lane_kernels.proofs.ListLaws.{splat_same, each_replicate}
use Rattle.lane_kernels.proofs.LaneLaws as K
use Rattle.lane_kernels.proofs.lanes64.shifted_right.Goals as goal

pub moved_right-requires : goal.moved_right-requires
moved_right-requires g c =
    let t = c.args.t in
    let d = c.in-Some.amount in (
      omega arith,
      each_replicate (λ k. k < 64) g.row.W (bit_and d c.amount_bits.result)
          (subst (λ k. k < 64) (sym (ap (bit_and d) c.amount_bits.ensures ∙
          K.amount_masked 64 (2 ^ 63) refl refl (omega arith) (omega arith) t d c.requires))
          (K.amount_below 64 (2 ^ 63) refl refl (omega arith) (omega arith) t d c.requires)),
    )

pub returns-in-Some : goal.returns-in-Some
returns-in-Some g c =
    let t = c.args.t in
    let d = c.in-Some.amount in
    let a = c.args.a in
    let k : bit_and d c.amount_bits.result ≡ d % width_bits t = ap (bit_and d) c.amount_bits.ensures ∙
    K.amount_masked 64 (2 ^ 63) refl refl (omega arith) (omega arith) t d c.requires in
    c.moved_right.ensures
    ∙ ap₂ (λ m y. zip2 (moved_lane 64 m) a (replicate g.row.W y)) c.bias.ensures k
    ∙ splat_same (λ _. Unit {0}) (moved_lane 64 (bias_of 64 t)) (shr_lane 64 (bias_of 64 t) (width_bits t))
    (d % width_bits t) d (λ p u. refl) g.row.W a (L.any_lane 64 63 18446744073709551615 refl refl a)
    ∙ ap (zip2 (shr_lane 64 (bias_of 64 t) (width_bits t)) a) (sym c.in-Some.ensures)

pub moved_right-requires-2 : goal.moved_right-requires-2
moved_right-requires-2 g c = (
  omega arith,
  subst (Each1 (λ k. k < 64)) (sym c.amounts.ensures)
      (L.amount_lanes 64 63 18446744073709551615 refl refl (width_bits c.args.t) c.args.b
      (K.some_width 64 (2 ^ 63) refl refl (omega arith) (omega arith) c.args.t) c.requires),
)

pub returns : goal.returns
returns g c =
    let t = c.args.t in
    c.moved_right-2.ensures
    ∙ ap₂ (λ m ks. zip2 (moved_lane 64 m) c.args.a ks) c.bias-2.ensures c.amounts.ensures
    ∙ L.zip2-map_right 64 63 18446744073709551615 refl refl (moved_lane 64 (bias_of 64 t)) (λ q. q % width_bits t)
    c.args.a c.args.b
