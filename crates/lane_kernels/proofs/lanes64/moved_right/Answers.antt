use Rattle.std.proofs.Common.{refl, arith, ◌<◌, ◌/◌, ◌^◌, w64, replicate, ap, ◌∙◌, sym}
use Rattle.std.specs.Simd.Lanes.{zip2}
use Rattle.std.proofs.lemmas.Simd.{Each2-of, below_from_Fits}
use Rattle.lane_kernels.specs.Vectors.{moved_lane}
use Rattle.lane_kernels.proofs.LaneLaws as K
use Rattle.lane_kernels.proofs.ListLaws as L
use Rattle.lane_kernels.proofs.ListLaws.{add_in, zip2_each}
use Rattle.lane_kernels.proofs.lanes64.moved_right.Goals as goal

pub overflow_shr-result : goal.overflow_shr-result
overflow_shr-result g c = Each2-of (λ _. Unit {0}) (λ k. k < 64) _ (λ x y u v. v) c.args.a c.args.amount
    (L.any_lane 64 63 18446744073709551615 refl refl c.args.a) c.requires

pub overflow_shr-result-2 : goal.overflow_shr-result-2
overflow_shr-result-2 g c = Each2-of (λ _. Unit {0}) (λ k. k < 64) _ (λ x y u v. v)
    (zip2 (add_in 64) c.args.a (replicate g.row.W c.args.bias)) c.args.amount
    (L.any_lane 64 63 18446744073709551615 refl refl (zip2 (add_in 64) c.args.a (replicate g.row.W c.args.bias)))
    c.requires

pub overflow_shr-result-3 : goal.overflow_shr-result-3
overflow_shr-result-3 g c = Each2-of (λ _. Unit {0}) (λ k. k < 64) _ (λ x y u v. v)
    (replicate g.row.W c.args.bias) c.args.amount
    (L.any_lane 64 63 18446744073709551615 refl refl (replicate g.row.W c.args.bias)) c.requires

pub returns-then-bias-eq0 : goal.returns-then-bias-eq0
returns-then-bias-eq0 g c =
    zip2_each (λ x. x < 2 ^ 64) (λ x k. x / 2 ^ k) (moved_lane 64 0)
    (K.moved_plain 64 (2 ^ 63) refl refl (omega arith) (omega arith)) c.args.a c.args.amount
    (below_from_Fits w64 c.args.a c.fits-a.1)
    ∙ ap (λ m. zip2 (moved_lane 64 m) c.args.a c.args.amount) (sym c.if-bias-eq0.true)

pub returns : goal.returns
returns g c =
    L.moved_lanes 64 63 18446744073709551615 refl refl c.args.bias g.row.W c.args.a c.args.amount c.fits-a.0
    c.fits-amount.0
