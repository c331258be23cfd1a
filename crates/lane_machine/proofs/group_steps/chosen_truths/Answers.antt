use Rattle.std.proofs.Common.{◌≡◌, ◌∙◌, ap, ap₂, refl, map, cond, not, eqb, replicate, length, rules}
use Rattle.std.specs.Simd.Lanes.{zip2, sel_l, top}
use Rattle.lane_kernels.proofs.ListLaws as L
use Rattle.lane_machine.proofs.ByteLaws.{chosen_read}
use Rattle.lane_machine.proofs.group_steps.chosen_truths.Goals as goal

pub returns : goal.returns
returns g c =
    let long : length c.args.mask ≡ g.row.W = search rules in
    let set = ap (λ xs. map (top 7) (zip2 (λ u v. cond (not (eqb u v)) 255 0) xs (replicate g.row.W 0)))
    c.bytes_of.ensures ∙ L.mask_again 8 7 255 refl refl g.row.W c.args.mask long in
    c.truths_of.ensures
    ∙ ap (map (λ x. not (eqb x 0))) (ap (λ m. sel_l m c.bytes_of-2.result c.bytes_of-3.result) set
    ∙ ap₂ (sel_l c.args.mask) c.bytes_of-2.ensures c.bytes_of-3.ensures)
    ∙ chosen_read c.args.mask c.args.new c.args.old
