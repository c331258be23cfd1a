use Rattle.std.proofs.Common.{ℕ, ◌≡◌, ◌+◌, ◌^◌, ◌∙◌, ap, ap₂, sym, subst₂, List, map, replicate, true≢false, refl}
use Rattle.std.proofs.Common.{arith}
use Rattle.std.proofs.lemmas.Simd.{length-zip2, zip2_splat}
use Rattle.std.specs.Simd.Lanes.{zip2, Each1}
use Rattle.wg_num.specs.Wrap.{value_of, width_bits}
use Rattle.wg_num.specs.declared.types.Bin.TheVariants.{Mul, Shr}
use Rattle.wg_num.specs.declared.types.Fun.TheVariants.{MulHi}
use Rattle.lane_values.specs.Lanes.{IsLane, binary_lane, convert_lane, extended}
use Rattle.lane_kernels.specs.Vectors.{pair_lane, wide_of}
use Rattle.lane_kernels.proofs.LaneLaws as K
use Rattle.lane_kernels.proofs.ListLaws.{each_map, map_of_zip2, same_map, zip2-maps, zip2_same}
use Rattle.lane_kernels.proofs.ProductLaws as P
use Rattle.lane_kernels.proofs.products64.high_narrow.Goals as goal

pub extend64-requires : goal.extend64-requires
extend64-requires g c = let few = c.requires.fits in (omega arith, omega arith)

pub values64-product-requires : goal.values64-product-requires
values64-product-requires g c =
    let t = c.args.t in
    let e = c.wide_type-wide.ensures in
    let wide = ap width_bits e ∙ P.wide_width t in
    let x = convert_lane 64 (wide_of t) t in
    let each = λ (a : List ℕ). each_map (IsLane 64 (wide_of t)) x (λ p. P.IsLane-wide t (value_of t p)) a in
    let same = λ (a : List ℕ). same_map (extended 64 t) x (P.wide_lane t c.requires.fits) a in (
      omega arith,
      (
        omega (arith, wide),
        (
          subst₂ (λ u xs. Each1 (IsLane 64 u) xs) (sym e) (sym (c.extend64.ensures ∙ same c.args.a)) (each c.args.a),
          λ _. subst₂ (λ u xs. Each1 (IsLane 64 u) xs) (sym e) (sym (c.extend64-2.ensures ∙ same c.args.b))
              (each c.args.b),
        ),
      ),
    )

pub values64-requires : goal.values64-requires
values64-requires g c =
    let t = c.args.t in
    let e = c.wide_type-wide.ensures in
    let wide = ap width_bits e ∙ P.wide_width t in (
      omega arith,
      (
        omega (arith, wide),
        (
          subst₂ (λ u xs. Each1 (IsLane 64 u) xs) (sym e) (sym (c.values64-product.ensures ∙
              ap (λ u. zip2 (binary_lane 64 Mul u) c.extend64.result c.extend64-2.result) e))
              (P.each_zip2 (IsLane 64 (wide_of t)) (binary_lane 64 Mul (wide_of t)) (P.IsLane-product t)
              c.extend64.result c.extend64-2.result),
          λ h. absurd (true≢false h),
        ),
      ),
    )

pub returns : goal.returns
returns g c =
    let t = c.args.t in
    let a = c.args.a in
    let b = c.args.b in
    let n = g.row.W in
    let k = c.amount_bits.result + 1 in
    let e = c.wide_type-wide.ensures in
    let bits : k ≡ width_bits t =
    omega (arith, c.amount_bits.ensures, K.some_width 64 (2 ^ 63) refl refl (omega arith) (omega arith) t) in
    let x = convert_lane 64 (wide_of t) t in
    let same = λ (a : List ℕ). same_map (extended 64 t) x (P.wide_lane t c.requires.fits) a in
    let made = λ (p q : ℕ). binary_lane 64 Mul (wide_of t) (x p) (x q) in
    let moved = λ (z : ℕ). binary_lane 64 Shr (wide_of t) z k in
    let long = length-zip2 made a b (c.fits-a.0 ∙ sym c.fits-b.0) ∙ c.fits-a.0 in
    c.extend64-3.ensures
    ∙ ap (map (extended 64 t)) (c.values64.ensures
    ∙ ap (λ xs. zip2 (binary_lane 64 Shr c.wide_type-wide.result) xs (replicate n k)) c.values64-product.ensures
    ∙ ap (λ u. zip2 (binary_lane 64 Shr u) (zip2 (binary_lane 64 Mul u) c.extend64.result c.extend64-2.result)
    (replicate n k)) e
    ∙ ap (λ xs. zip2 (binary_lane 64 Shr (wide_of t)) xs (replicate n k)) (ap₂ (zip2 (binary_lane 64 Mul (wide_of t)))
    (c.extend64.ensures ∙ same a) (c.extend64-2.ensures ∙ same b)
    ∙ zip2-maps (binary_lane 64 Mul (wide_of t)) x x a b)
    ∙ zip2_splat (binary_lane 64 Shr (wide_of t)) (zip2 made a b) n k long
    ∙ map_of_zip2 moved made a b)
    ∙ map_of_zip2 (extended 64 t) (λ p q. moved (made p q)) a b
    ∙ zip2_same _ (pair_lane 64 MulHi t) (P.lane_high_wide t c.requires.fits k bits) a b
