use Rattle.std.proofs.Common.{ℕ, ◌∙◌, ◌%◌, ◌^◌, ap, map, cond, not, nat_eq, arith}
use Rattle.std.specs.Int.{from_bool}
use Rattle.wg_num.specs.Wrap.{is_bool}
use Rattle.lane_values.specs.Lanes.{extended, convert_lane}
use Rattle.lane_kernels.proofs.ConvertLaws.{narrow_extended}
use Rattle.lane_kernels.proofs.ListLaws.{map_of_map, same_map}
use Rattle.lane_kernels.proofs.convert.narrowed.Goals as goal

pub returns : goal.returns
returns g c =
    let to = c.args.to in
    let from = c.args.from in
    let low = λ (x : ℕ). cond (is_bool to) (from_bool (not (nat_eq x 0))) (x % 2 ^ 32) in
    c.extend32.ensures ∙ ap (map (extended 32 to)) (c.low_halves.ensures ∙ ap (map low) c.extend64.ensures)
    ∙ ap (map (extended 32 to)) (map_of_map low (extended 64 from) c.args.a)
    ∙ map_of_map (extended 32 to) (λ p. low (extended 64 from p)) c.args.a
    ∙ same_map (λ p. extended 32 to (low (extended 64 from p))) (convert_lane 32 to from)
    (narrow_extended to from c.requires.to (omega (arith, c.requires.from))) c.args.a
