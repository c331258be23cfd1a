use Rattle.std.proofs.Common.{refl, sym, ap, ◌∙◌, nat_le, w64}
use Rattle.std.specs.Simd.Lanes.{zip2}
use Rattle.std.proofs.lemmas.Simd.{below_from_Fits}
use Rattle.lane_kernels.specs.Vectors.{at_most_lane}
use Rattle.lane_kernels.proofs.ListLaws as L
use Rattle.lane_kernels.proofs.ListLaws.{add_in, told_plain}
use Rattle.lane_kernels.proofs.lanes64.are_at_most.Goals as goal

pub returns-then-bias-eq0 : goal.returns-then-bias-eq0
returns-then-bias-eq0 g c =
    let a = c.args.a in
    let b = c.args.b in
    L.told 64 63 18446744073709551615 refl refl nat_le g.row.W a b c.fits-a.0 c.fits-b.0
    ∙ told_plain 64 nat_le a b (below_from_Fits w64 a c.fits-a.1) (below_from_Fits w64 b c.fits-b.1)
    ∙ ap (λ m. zip2 (at_most_lane 64 m) a b) (sym c.if-bias-eq0.true)

pub returns : goal.returns
returns g c =
    L.compared 64 63 18446744073709551615 refl refl nat_le (add_in 64) 9223372036854775808 g.row.W c.args.a
    c.args.b c.fits-a.0 c.fits-b.0
    ∙ ap (λ m. zip2 (at_most_lane 64 m) c.args.a c.args.b) (sym (c.requires c.if-bias-eq0.false))
