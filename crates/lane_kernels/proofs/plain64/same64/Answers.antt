use Rattle.std.proofs.Common.{◌∙◌, ◌^◌, ap, map, refl, arith}
use Rattle.lane_values.specs.Lanes.{extended, convert_lane}
use Rattle.lane_kernels.proofs.LaneLaws as K
use Rattle.lane_kernels.proofs.ListLaws.{map_of_map, same_map}
use Rattle.lane_kernels.proofs.plain64.same64.Goals as goal

pub returns : goal.returns
returns g c =
    let to = c.args.to in
    let from = c.args.from in
    c.kept64-2.ensures ∙ ap (map (extended 64 to)) c.kept64.ensures
    ∙ map_of_map (extended 64 to) (extended 64 from) c.args.a
    ∙ same_map (λ p. extended 64 to (extended 64 from p)) (convert_lane 64 to from)
    (λ p. K.convert_extended 64 (2 ^ 63) refl refl (omega arith) (omega arith) to from p
    (omega (arith, c.requires.to)) (omega (arith, c.requires.from))) c.args.a
