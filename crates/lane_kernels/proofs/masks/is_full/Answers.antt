use Rattle.std.proofs.Common.{◌≡◌, ◌∙◌, ℕ, List, refl, ap, map, eqb, ◌%◌, ◌^◌, ◌-◌, replicate, length, rules}
use Rattle.std.specs.Simd.Lanes.{zip2, top, mask_l}
use Rattle.lane_kernels.proofs.ListLaws as L
use Rattle.lane_kernels.proofs.ListLaws.{all_if}
use Rattle.lane_kernels.proofs.masks.is_full.Goals as goal

pub returns-then-this-le64 : goal.returns-then-this-le64
returns-then-this-le64 g c =
    let long : length c.args.mask ≡ g.row.W = search rules in
    let off = λ (xs : List ℕ). mask_l (map (top 7) (map (λ x. 255 - x)
    (zip2 (all_if 255 eqb) xs (replicate g.row.W 1)))) in
    ap (λ xs. eqb (off xs % 2 ^ 64) 0) c.bytes_of.ensures ∙
    L.full_told 8 7 255 refl refl g.row.W c.args.mask long c.if-this-le64.true
