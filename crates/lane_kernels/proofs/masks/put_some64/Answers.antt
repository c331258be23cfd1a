use Rattle.std.proofs.Common.{◌≡◌, ◌∙◌, ap, refl, map, replicate, cond, not, eqb, length, rules}
use Rattle.std.specs.Simd.Lanes.{zip2, sel_l, top}
use Rattle.lane_kernels.proofs.ListLaws as L
use Rattle.lane_kernels.proofs.masks.put_some64.Goals as goal

pub returns : goal.returns
returns g c =
    let long : length c.args.mask ≡ g.row.W = search rules in
    ap (λ m. sel_l m c.args.new c.args.lanes.now)
    (ap (λ xs. map (top 63) (zip2 (λ u v. cond (not (eqb u v)) 18446744073709551615 0) xs (replicate g.row.W 0)))
    c.numbers_of64.ensures ∙ L.mask_again 64 63 18446744073709551615 refl refl g.row.W c.args.mask long)
