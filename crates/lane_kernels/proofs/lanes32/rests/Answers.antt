use Rattle.std.proofs.Common.{refl}
use Rattle.std.proofs.Common.{◌∙◌, ap, ap₂, ◌*◌, ◌%◌, ◌^◌, ◌<◌, w32, map, replicate, eqb, subst, sym}
use Rattle.std.specs.Simd.Lanes.{zip2, sel_l, top, Each1}
use Rattle.lane_kernels.specs.Vectors.{signed_by, quotient_lane, rest_lane}
use Rattle.lane_kernels.proofs.ListLaws as L
use Rattle.lane_kernels.proofs.ListLaws.{all_if, sub_in, left_splat}
use Rattle.lane_kernels.proofs.ShiftLaws.{rested_lane}
use Rattle.std.proofs.lemmas.Simd.{Each2-of, below_from_Fits}
use Rattle.lane_kernels.proofs.lanes32.rests.Goals as goal

pub returns-in-Some : goal.returns-in-Some
returns-in-Some g c =
    let k = c.in-Some.k in
    let bias = c.args.bias in
    let a = c.args.a in
    let e = c.in-Some.ensures in
    ap₂ (λ x y. zip2 (sub_in 32) a (zip2 (λ u v. u * v % 2 ^ 32) x y)) c.halved.ensures e.0 ∙
    left_splat 32 (λ x. x < 2 ^ 32) (λ x. quotient_lane 32 bias x (2 ^ k)) (rest_lane 32 bias) (2 ^ k)
    (λ p h. rested_lane 32 (2 ^ 31) refl 31 k bias p refl c.requires e.2 h) g.row.W a
    (below_from_Fits w32 a c.fits-a.1) ∙ ap (zip2 (rest_lane 32 bias) a) (sym e.0)

pub nonzero_rem-signed_as : goal.nonzero_rem-signed_as
nonzero_rem-signed_as g c = Each2-of (λ _. Unit {0}) (λ y. 0 < y) _ (λ x y u v. v) c.signed_as.result
    c.divisors.result (L.any_lane 32 31 4294967295 refl refl c.signed_as.result)
    (subst (Each1 (λ y. 0 < y)) (sym c.divisors.ensures) (L.some_divisors 32 31 4294967295 refl refl c.args.bias
    c.args.b))

pub returns : goal.returns
returns g c =
    ap (sel_l (map (top 31) (zip2 (all_if 4294967295 eqb) c.args.b (replicate g.row.W 0))) c.args.a)
    (c.signed_as-rest.ensures
    ∙ ap₂ (λ x y. zip2 ((signed_by 32) c.args.bias) c.args.a (zip2 (λ u v. u % v) x y)) c.signed_as.ensures
    c.divisors.ensures)
    ∙ L.rest_lanes 32 31 4294967295 refl refl c.args.bias g.row.W c.args.a c.args.b c.fits-a.0 c.fits-b.0
