use Rattle.std.proofs.Common.{◌∙◌, ◌^◌, ap, map, refl, arith}
use Rattle.lane_values.specs.Lanes.{extended, convert_lane}
use Rattle.lane_kernels.proofs.LaneLaws as K
use Rattle.lane_kernels.proofs.ListLaws.{map_of_map, same_map}
use Rattle.lane_kernels.proofs.convert.convert32.Goals as goal

pub returns-clause-lanes : goal.returns-clause-lanes
returns-clause-lanes g c =
    let to = c.args.to in
    let from = c.args.from in
    c.extend32-2.ensures ∙ ap (map (extended 32 to)) c.extend32.ensures
    ∙ map_of_map (extended 32 to) (extended 32 from) c.args.a
    ∙ same_map (λ p. extended 32 to (extended 32 from p)) (convert_lane 32 to from)
    (λ p. K.convert_extended 32 (2 ^ 31) refl refl (omega arith) (omega arith) to from p c.requires.to
    c.requires.from) c.args.a
