use Rattle.std.proofs.Common.{refl}
use Rattle.std.proofs.Common.{◌∙◌, ap, ap₂, ◌/◌, ◌<◌, ◌^◌, map, replicate, eqb, subst, sym}
use Rattle.std.specs.Simd.Lanes.{zip2, sel_l, top, Each1}
use Rattle.lane_kernels.specs.Vectors.{signed_by, quotient_lane}
use Rattle.lane_kernels.proofs.ListLaws as L
use Rattle.lane_kernels.proofs.ListLaws.{all_if}
use Rattle.std.proofs.lemmas.Simd.{Each2-of, zip2_splat}
use Rattle.lane_kernels.proofs.lanes64.quotients.Goals as goal

pub returns-in-Some : goal.returns-in-Some
returns-in-Some g c =
    c.halved.ensures ∙ sym (zip2_splat (quotient_lane 64 c.args.bias) c.args.a g.row.W (2 ^ c.in-Some.k) c.fits-a.0) ∙
    ap (zip2 (quotient_lane 64 c.args.bias) c.args.a) (sym c.in-Some.ensures.0)

pub nonzero_div-size : goal.nonzero_div-size
nonzero_div-size g c = Each2-of (λ _. Unit {0}) (λ y. 0 < y) _ (λ x y u v. v) c.signed_as.result c.divisors.result
    (L.any_lane 64 63 18446744073709551615 refl refl c.signed_as.result)
    (subst (Each1 (λ y. 0 < y)) (sym c.divisors.ensures)
    (L.some_divisors 64 63 18446744073709551615 refl refl c.args.bias c.args.b))

pub returns : goal.returns
returns g c =
    ap (sel_l (map (top 63) (zip2 (all_if 18446744073709551615 eqb) c.args.b (replicate g.row.W 0)))
    (replicate g.row.W 0))
    (c.signed_as-quotient.ensures ∙ ap (zip2 ((signed_by 64) c.args.bias) c.args.b) (c.signed_as-2.ensures
    ∙ ap₂ (λ x y. zip2 ((signed_by 64) c.args.bias) c.args.a (zip2 (λ u v. u / v) x y)) c.signed_as.ensures
    c.divisors.ensures))
    ∙ L.quotient_lanes 64 63 18446744073709551615 refl refl c.args.bias g.row.W c.args.a c.args.b c.fits-a.0 c.fits-b.0
