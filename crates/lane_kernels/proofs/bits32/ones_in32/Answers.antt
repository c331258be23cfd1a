use Rattle.std.proofs.Common.{◌^◌, ◌∙◌, ap, ap₂, map, bit_and, count_ones, refl, arith, replicate}
use Rattle.std.proofs.lemmas.List.{length-map}
use Rattle.std.proofs.lemmas.Simd.{zip2_splat}
use Rattle.std.specs.Simd.Lanes.{zip2}
use Rattle.wg_num.specs.declared.types.Fun.TheVariants.{Popcount}
use Rattle.lane_values.specs.Lanes.{extended}
use Rattle.lane_kernels.specs.Vectors.{held_bits, one_lane}
use Rattle.lane_kernels.proofs.BitLaws as B
use Rattle.lane_kernels.proofs.ListLaws.{map_of_map, same_map}
use Rattle.lane_kernels.proofs.bits32.ones_in32.Goals as goal

pub returns : goal.returns
returns g c =
    let t = c.args.t in
    let a = c.args.a in
    c.extend32-2.ensures
    ∙ ap (map (extended 32 t)) (ap (map count_ones) (ap₂ (λ xs m. zip2 bit_and xs (replicate g.row.W m))
    c.extend32.ensures c.low_bits.ensures ∙
    zip2_splat bit_and (map (extended 32 t) a) g.row.W _ (length-map a (extended 32 t) ∙ c.fits-a.0) ∙
    map_of_map (held_bits t) (extended 32 t) a)
    ∙ map_of_map count_ones (λ p. held_bits t (extended 32 t p)) a)
    ∙ map_of_map (extended 32 t) (λ p. count_ones (held_bits t (extended 32 t p))) a
    ∙ same_map _ (one_lane 32 Popcount t) (B.lane_ones 32 (2 ^ 31) refl refl (omega arith) (omega arith) t c.requires) a
