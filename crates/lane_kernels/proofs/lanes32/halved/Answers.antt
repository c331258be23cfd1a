use Rattle.std.proofs.Common.{refl, arith, ◌<◌, ◌*◌, ◌-◌, ◌/◌, ◌%◌, ◌^◌, w32, replicate, map, ap, ◌∙◌, sym, pow_pos}
use Rattle.lane_kernels.specs.Vectors.{quotient_lane}
use Rattle.std.proofs.lemmas.Nat.{one_shl}
use Rattle.std.proofs.lemmas.Simd.{Each2-of, below_from_Fits, zip2_splat}
use Rattle.lane_kernels.proofs.DivisionLaws.{plain_quotient}
use Rattle.lane_kernels.proofs.ListLaws as L
use Rattle.lane_kernels.proofs.ListLaws.{each_replicate, map_each, same_map}
use Rattle.lane_kernels.proofs.ShiftLaws.{halved_lane}
use Rattle.lane_kernels.proofs.lanes32.halved.Goals as goal

pub overflow_shr-result : goal.overflow_shr-result
overflow_shr-result g c = Each2-of (λ _. Unit {0}) (λ k. k < 32) _ (λ x y u v. v) c.args.a
    (replicate g.row.W c.args.k) (L.any_lane 32 31 4294967295 refl refl c.args.a)
    (each_replicate (λ k. k < 32) g.row.W c.args.k c.requires.exponent)

pub returns-then-bias-eq0 : goal.returns-then-bias-eq0
returns-then-bias-eq0 g c =
    let k = c.args.k in
    zip2_splat (λ x k. x / 2 ^ k) c.args.a g.row.W k c.fits-a.0 ∙
    same_map (λ x. x / 2 ^ k) (λ x. quotient_lane 32 0 x (2 ^ k)) (λ x. plain_quotient 32 x (2 ^ k) (pow_pos k))
    c.args.a ∙ ap (λ m. map (λ x. quotient_lane 32 m x (2 ^ k)) c.args.a) (sym c.if-bias-eq0.true)

pub moved_right-requires : goal.moved_right-requires
moved_right-requires g c = (omega arith, each_replicate (λ k. k < 32) g.row.W c.args.k c.requires.exponent)

pub returns : goal.returns
returns g c =
    let k = c.args.k in
    let bias = c.args.bias in
    c.moved_right.ensures ∙
    L.raised_lanes 32 31 4294967295 refl refl bias (1 * 2 ^ k % 2 ^ 32 - 1) k g.row.W c.args.a c.fits-a.0 ∙
    map_each (λ x. x < 2 ^ 32) _ (λ x. quotient_lane 32 bias x (2 ^ k))
    (λ x h. halved_lane 32 (2 ^ 31) refl 31 k bias (1 * 2 ^ k % 2 ^ 32 - 1) x refl (c.requires.top c.if-bias-eq0.false)
    (c.requires.signed c.if-bias-eq0.false) (ap (λ y. y - 1) (one_shl k 32 c.requires.exponent)) h)
    c.args.a (below_from_Fits w32 c.args.a c.fits-a.1)
