use Rattle.std.proofs.Common.{refl, sym, ap, ◌∙◌, nat_lt, w32}
use Rattle.std.specs.Simd.Lanes.{zip2}
use Rattle.std.proofs.lemmas.Simd.{below_from_Fits}
use Rattle.lane_kernels.specs.Vectors.{less_lane}
use Rattle.lane_kernels.proofs.ListLaws as L
use Rattle.lane_kernels.proofs.ListLaws.{add_in, told_plain}
use Rattle.lane_kernels.proofs.lanes32.are_less.Goals as goal

pub returns-then-bias-eq0 : goal.returns-then-bias-eq0
returns-then-bias-eq0 g c =
    let a = c.args.a in
    let b = c.args.b in
    L.told 32 31 4294967295 refl refl nat_lt g.row.W a b c.fits-a.0 c.fits-b.0
    ∙ told_plain 32 nat_lt a b (below_from_Fits w32 a c.fits-a.1) (below_from_Fits w32 b c.fits-b.1)
    ∙ ap (λ m. zip2 (less_lane 32 m) a b) (sym c.if-bias-eq0.true)

pub returns : goal.returns
returns g c =
    L.compared 32 31 4294967295 refl refl nat_lt (add_in 32) 2147483648 g.row.W c.args.a
    c.args.b c.fits-a.0 c.fits-b.0
    ∙ ap (λ m. zip2 (less_lane 32 m) c.args.a c.args.b) (sym (c.requires c.if-bias-eq0.false))
