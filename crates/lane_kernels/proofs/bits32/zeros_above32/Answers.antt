use Rattle.std.proofs.Common.{ℕ, ◌-◌, ◌^◌, ◌≡◌, ◌∙◌, ap, ap₂, map, bit_and, refl, arith, replicate}
use Rattle.std.proofs.lemmas.List.{length-map}
use Rattle.std.proofs.lemmas.Simd.{zip2_splat}
use Rattle.std.specs.Int.Count.{count_leading_zeros}
use Rattle.std.specs.Simd.Lanes.{zip2}
use Rattle.wg_num.specs.Wrap.{width_bits}
use Rattle.wg_num.specs.declared.types.Fun.TheVariants.{Clz}
use Rattle.lane_values.specs.Lanes.{extended}
use Rattle.lane_kernels.specs.Vectors.{held_bits, one_lane}
use Rattle.lane_kernels.proofs.BitLaws as B
use Rattle.lane_kernels.proofs.LaneLaws as K
use Rattle.lane_kernels.proofs.ListLaws.{map_of_map, same_map, sub_in}
use Rattle.lane_kernels.proofs.bits32.zeros_above32.Goals as goal

pub returns : goal.returns
returns g c =
    let t = c.args.t in
    let a = c.args.a in
    let some = K.some_width 32 (2 ^ 31) refl refl (omega arith) (omega arith) t in
    let over : 31 - c.amount_bits.result ≡ 32 - width_bits t = omega (arith, c.amount_bits.ensures, some) in
    let zeros = λ (x : ℕ). count_leading_zeros 32 (held_bits t (extended 32 t x)) in
    c.extend32-2.ensures
    ∙ ap (map (extended 32 t)) (ap₂ (λ xs k. zip2 (sub_in 32) (map (count_leading_zeros 32) xs) (replicate g.row.W k))
    (ap₂ (λ xs m. zip2 bit_and xs (replicate g.row.W m)) c.extend32.ensures c.low_bits.ensures ∙
    zip2_splat bit_and (map (extended 32 t) a) g.row.W _ (length-map a (extended 32 t) ∙ c.fits-a.0) ∙
    map_of_map (held_bits t) (extended 32 t) a) over
    ∙ ap (λ xs. zip2 (sub_in 32) xs (replicate g.row.W (32 - width_bits t)))
    (map_of_map (count_leading_zeros 32) (λ p. held_bits t (extended 32 t p)) a)
    ∙ zip2_splat (sub_in 32) (map zeros a) g.row.W (32 - width_bits t) (length-map a zeros ∙ c.fits-a.0)
    ∙ map_of_map (λ x. sub_in 32 x (32 - width_bits t)) zeros a)
    ∙ map_of_map (extended 32 t) (λ p. sub_in 32 (zeros p) (32 - width_bits t)) a
    ∙ same_map _ (one_lane 32 Clz t) (B.lane_zeros 32 (2 ^ 31) refl refl (omega arith) (omega arith) t c.requires) a
