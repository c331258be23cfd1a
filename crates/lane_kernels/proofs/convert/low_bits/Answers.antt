use Rattle.std.proofs.Common.{◌%◌, ◌^◌, ◌∙◌, sym, ap, subst, map, bit_and, arith, Fits, w32}
use Rattle.std.specs.Simd.Lanes.{Each1}
use Rattle.std.proofs.lemmas.Nat.{and_mask}
use Rattle.std.proofs.lemmas.Simd.{zip2_splat}
use Rattle.lane_kernels.proofs.ListLaws.{each_map, map_of_map, same_map}
use Rattle.lane_kernels.proofs.convert.low_bits.Goals as goal

pub overflow_cast-result : goal.overflow_cast-result
overflow_cast-result g c =
    subst (Each1 (Fits w32)) (sym (zip2_splat bit_and c.args.a g.row.W 4294967295 c.fits-a.0))
    (each_map (Fits w32) (λ u. bit_and u 4294967295) (λ u. record { fits = omega (arith, and_mask u 32) }) c.args.a)

pub returns : goal.returns
returns g c =
    ap (map (λ x. x)) (zip2_splat bit_and c.args.a g.row.W 4294967295 c.fits-a.0)
    ∙ map_of_map (λ x. x) (λ u. bit_and u 4294967295) c.args.a
    ∙ same_map (λ u. bit_and u 4294967295) (λ x. x % 2 ^ 32) (λ u. and_mask u 32) c.args.a
