use Rattle.std.proofs.Common.{◌^◌, ◌∙◌, ap, ap₂, map, bit_and, count_ones, refl, arith, replicate}
use Rattle.std.proofs.lemmas.List.{length-map}
use Rattle.std.proofs.lemmas.Simd.{zip2_splat}
use Rattle.std.specs.Simd.Lanes.{zip2}
use Rattle.wg_num.specs.declared.types.Fun.TheVariants.{Popcount}
use Rattle.lane_values.specs.Lanes.{extended}
use Rattle.lane_kernels.specs.Vectors.{held_bits, one_lane}
use Rattle.lane_kernels.proofs.BitLaws as B
use Rattle.lane_kernels.proofs.ListLaws.{map_id, map_of_map, same_map}
use Rattle.lane_kernels.proofs.bits64.ones_in64.Goals as goal

pub returns : goal.returns
returns g c =
    let t = c.args.t in
    let a = c.args.a in
    c.extend64-2.ensures
    ∙ ap (map (extended 64 t)) (map_id _ ∙ ap (map count_ones) (ap₂ (λ xs m. zip2 bit_and xs (replicate g.row.W m))
    c.extend64.ensures c.low_bits.ensures ∙
    zip2_splat bit_and (map (extended 64 t) a) g.row.W _ (length-map a (extended 64 t) ∙ c.fits-a.0) ∙
    map_of_map (held_bits t) (extended 64 t) a)
    ∙ map_of_map count_ones (λ p. held_bits t (extended 64 t p)) a)
    ∙ map_of_map (extended 64 t) (λ p. count_ones (held_bits t (extended 64 t p))) a
    ∙ same_map _ (one_lane 64 Popcount t) (B.lane_ones 64 (2 ^ 63) refl refl (omega arith) (omega arith) t c.requires) a
