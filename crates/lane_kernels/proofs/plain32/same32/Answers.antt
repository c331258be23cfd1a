use Rattle.std.proofs.Common.{◌∙◌, ◌^◌, ap, map, refl, arith}
use Rattle.lane_values.specs.Lanes.{extended, convert_lane}
use Rattle.lane_kernels.proofs.LaneLaws as K
use Rattle.lane_kernels.proofs.ListLaws.{map_of_map, same_map}
use Rattle.lane_kernels.proofs.plain32.same32.Goals as goal

pub returns : goal.returns
returns g c =
    let to = c.args.to in
    let from = c.args.from in
    c.kept32-2.ensures ∙ ap (map (extended 32 to)) c.kept32.ensures
    ∙ map_of_map (extended 32 to) (extended 32 from) c.args.a
    ∙ same_map (λ p. extended 32 to (extended 32 from p)) (convert_lane 32 to from)
    (λ p. K.convert_extended 32 (2 ^ 31) refl refl (omega arith) (omega arith) to from p
    (omega (arith, c.requires.to)) (omega (arith, c.requires.from))) c.args.a
