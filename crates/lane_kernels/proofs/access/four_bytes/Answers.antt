use Rattle.std.proofs.Common.{◌≡◌, ◌<◌, ◌+◌, ◌-◌, ◌*◌, ◌%◌, ◌∙◌, ℕ, zero, suc, List, [], ◌∷◌, refl, ap, subst}
use Rattle.std.proofs.Common.{take, drop, arith, get_or, mod-eq_of_lt, Fits, w8}
use Rattle.std.specs.Simd.Lanes.{number_l, chunk}
use Rattle.lane_kernels.proofs.AccessLaws.{number_4}
use Rattle.lane_kernels.proofs.access.four_bytes.Goals as goal

take_same : (n : ℕ) (ys : List ℕ) → take n (take n ys) ≡ take n ys
take_same zero ys = refl
take_same (suc n) [] = refl
take_same (suc n) (y ∷ ys) = ap (λ zs. y ∷ zs) (take_same n ys)

small : (a b c d : ℕ) → a < 256 → b < 256 → c < 256 → d < 256 → a + 256 * (b + 256 * (c + 256 * d)) < 4294967296
small a b c d h i j k = omega arith

pub returns : goal.returns
returns c =
    let xs = c.args.bytes.now in
    let i = c.args.from in
    let four : i + 4 - i ≡ 4 = omega arith in
    let byte : (k : ℕ) → get_or xs k 0 < 256 = (λ k. let held : Fits w8 (get_or xs k 0) = c.type_inv.bytes k in
    omega (arith, held.fits)) in
    let below : number_l 256 (chunk i 4 xs) < 4294967296 =
    subst (λ n. n < 4294967296) (number_4 i xs c.requires)
    (small (get_or xs i 0) (get_or xs (i + 1) 0) (get_or xs (i + 2) 0) (get_or xs (i + 3) 0) (byte i) (byte (i + 1))
    (byte (i + 2)) (byte (i + 3))) in
    ap (λ n. number_l 256 (chunk 0 4 (take n (drop i xs))) % 4294967296) four
    ∙ ap (λ ys. number_l 256 ys % 4294967296) (take_same 4 (drop i xs))
    ∙ mod-eq_of_lt below
