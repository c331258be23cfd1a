use Rattle.std.proofs.Common.{refl, arith}
use Rattle.std.proofs.Common.{◌∙◌, ap, ◌^◌, ◌*◌, ◌%◌, ◌<◌, subst, sym}
use Rattle.std.specs.Simd.Lanes.{zip2, Each1}
use Rattle.std.proofs.lemmas.Simd.{Each2-of}
use Rattle.wg_num.specs.Wrap.{width_bits}
use Rattle.lane_kernels.proofs.ListLaws as L
use Rattle.lane_kernels.proofs.LaneLaws as K
use Rattle.lane_kernels.proofs.lanes32.shifted_each.Goals as goal

pub overflow_shl-result : goal.overflow_shl-result
overflow_shl-result g c = Each2-of (λ _. Unit {0}) (λ k. k < 32) _ (λ x y u v. v) c.args.a c.amounts.result
    (L.any_lane 32 31 4294967295 refl refl c.args.a)
    (subst (Each1 (λ k. k < 32)) (sym c.amounts.ensures)
    (L.amount_lanes 32 31 4294967295 refl refl (width_bits c.args.t) c.args.b
    (K.some_width 32 (2 ^ 31) refl refl (omega arith) (omega arith) c.args.t) c.requires))

pub returns : goal.returns
returns g c =
    ap (zip2 (λ x k. x * 2 ^ k % 2 ^ 32) c.args.a) c.amounts.ensures
    ∙ L.zip2-map_right 32 31 4294967295 refl refl (λ x k. x * 2 ^ k % 2 ^ 32) (λ q. q % width_bits c.args.t) c.args.a
    c.args.b
