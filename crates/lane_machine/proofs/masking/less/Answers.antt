use Rattle.std.proofs.Common.{ℕ, ◌-◌, ◌∙◌, ap, refl, map, not, eqb, ◌&&◌, bit_and}
use Rattle.lane_kernels.proofs.ListLaws as L
use Rattle.lane_machine.proofs.ByteLaws.{joined_read, less_read}
use Rattle.lane_machine.proofs.masking.less.Goals as goal

pub returns : goal.returns
returns g c =
    let a = c.bytes_of.result in
    let b = c.bytes_of-2.result in
    c.truths_of.ensures
    ∙ ap (map (λ x. not (eqb x 0))) (L.zip2-map_right 8 7 255 refl refl bit_and (λ (x : ℕ). 255 - x) a b)
    ∙ joined_read (λ x y. bit_and x (255 - y)) (λ x y. x && not y) less_read c.args.a c.args.b a b
    c.bytes_of.ensures c.bytes_of-2.ensures
