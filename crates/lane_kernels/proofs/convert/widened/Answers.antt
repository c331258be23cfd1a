use Rattle.std.proofs.Common.{◌∙◌, sym, ap, map, length}
use Rattle.std.proofs.lemmas.List.{length-map}
use Rattle.lane_values.specs.Lanes.{extended, convert_lane}
use Rattle.lane_kernels.specs.Vectors.{bias_of}
use Rattle.lane_kernels.proofs.ConvertLaws.{widen_extended, widen_plain}
use Rattle.lane_kernels.proofs.ListLaws.{map_id, map_of_map, same_map, widened, add_in, sub_in}
use Rattle.lane_kernels.proofs.convert.widened.Goals as goal

pub returns : goal.returns
returns g c =
    let to = c.args.to in
    let from = c.args.from in
    let b = bias_of 32 from in
    widened c.bias-lift.result g.row.W c.extend32-held.result (ap length c.extend32-held.ensures ∙
    length-map c.args.a (extended 32 from) ∙ c.fits-a.0)
    ∙ ap (λ b. map (λ p. sub_in 64 (add_in 32 p b) b) c.extend32-held.result) c.bias-lift.ensures
    ∙ ap (map (λ p. sub_in 64 (add_in 32 p b) b)) c.extend32-held.ensures
    ∙ map_of_map (λ p. sub_in 64 (add_in 32 p b) b) (extended 32 from) c.args.a
    ∙ same_map (λ p. sub_in 64 (add_in 32 (extended 32 from p) b) b) (convert_lane 64 to from)
    (widen_extended to from c.requires.to c.requires.from) c.args.a

pub returns-then-lift-eq0 : goal.returns-then-lift-eq0
returns-then-lift-eq0 g c =
    let to = c.args.to in
    let from = c.args.from in
    map_id c.extend32-held.result ∙ c.extend32-held.ensures
    ∙ same_map (extended 32 from) (convert_lane 64 to from)
    (widen_plain to from c.requires.to c.requires.from (sym c.bias-lift.ensures ∙ c.if-lift-eq0.true)) c.args.a
