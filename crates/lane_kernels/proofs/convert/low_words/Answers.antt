use Rattle.std.proofs.Common.{◌≡◌, ℕ, refl, ◌∙◌, ◌%◌, ◌^◌, ap, sym, map, cond, not, nat_eq, arith, false}
use Rattle.std.specs.Int.{from_bool}
use Rattle.wg_num.specs.declared.types.IntType.{IntType}
use Rattle.wg_num.specs.declared.types.IntType.TheVariants.{Bool, Char, Uchar, Short, Ushort, Int, Uint, Long, Ulong}
use Rattle.wg_num.specs.Wrap.{is_bool, width_bits}
use Rattle.lane_values.specs.Lanes.{extended, convert_lane}
use Rattle.lane_kernels.proofs.ConvertLaws.{narrow_extended}
use Rattle.lane_kernels.proofs.ListLaws.{map_of_map, same_map}
use Rattle.lane_kernels.proofs.convert.low_words.Goals as goal

no_bool : (t : IntType) → width_bits t ≡ 32 → is_bool t ≡ false
no_bool Bool e = absurd (omega (arith, e))
no_bool Char e = refl
no_bool Uchar e = refl
no_bool Short e = refl
no_bool Ushort e = refl
no_bool Int e = refl
no_bool Uint e = refl
no_bool Long e = refl
no_bool Ulong e = refl

pub returns : goal.returns
returns g c =
    let to = c.args.to in
    let from = c.args.from in
    let low = λ (x : ℕ). x % 2 ^ 32 in
    c.kept32.ensures ∙ ap (map (extended 32 to)) (c.low_bits.ensures ∙ ap (map low) c.kept64.ensures)
    ∙ ap (map (extended 32 to)) (map_of_map low (extended 64 from) c.args.a)
    ∙ map_of_map (extended 32 to) (λ p. low (extended 64 from p)) c.args.a
    ∙ same_map (λ p. extended 32 to (low (extended 64 from p))) (convert_lane 32 to from)
    (λ p. ap (λ b. extended 32 to (cond b (from_bool (not (nat_eq (extended 64 from p) 0))) (low (extended 64 from p))))
    (sym (no_bool to c.requires.to)) ∙ narrow_extended to from (omega (arith, c.requires.to))
    (omega (arith, c.requires.from)) p) c.args.a
