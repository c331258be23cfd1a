-- The high halves of products of 64 bits.
use Rattle.std.proofs.Common.{◌≡◌, ℕ, zero, suc, ◌+◌, ◌-◌, ◌*◌, ◌/◌, ◌%◌, ◌^◌, ◌<◌, ◌≤◌, refl, sym, ap, ap₂, subst}
use Rattle.std.proofs.Common.{subst₂}
use Rattle.std.proofs.Common.{◌∙◌, arith, mod-lt, mul-le-mul, Bool, true, false, cond, ltb}
use Rattle.std.proofs.Common.{ltb-true, ltb-false, List, [], ◌∷◌, length, replicate, map}
use Rattle.std.proofs.Common.{ℤ, pos, negsuc, ◌+ℤ◌, ◌-ℤ◌, ◌*ℤ◌, inl, inr, ◌⊎◌}
use Rattle.std.proofs.Math.IntN.{*ℤ_comm}
use Rattle.std.proofs.Math.Nat.{mul_comm}
use Rattle.std.proofs.lemmas.Int.{ints}
use Rattle.std.specs.Int.{int_shr}
use Rattle.std.specs.Int.Signed.{shr_z}
use Rattle.std.specs.Simd.Lanes.{zip2, sel_l, top}
use Rattle.wg_num.specs.declared.types.IntType.{IntType}
use Rattle.wg_num.specs.declared.types.Fun.TheVariants.{MulHi}
use Rattle.wg_num.specs.Wrap.{IsCongruent, value_of, wrap_of, is_signed, width_bits}
use Rattle.wg_num.specs.Builtins.{builtin_of}
use Rattle.wg_num.proofs.WrapLaws.{congruent_sym, congruent_trans}
use Rattle.lane_values.specs.Lanes.{lane}
use Rattle.lane_kernels.specs.Vectors.{bias_of, cut, high_product_lane, negative_part, pair_lane, raised}
use Rattle.lane_kernels.proofs.ConvertLaws.{wrap_wide}
use Rattle.lane_kernels.proofs.LaneLaws as K
use Rattle.lane_kernels.proofs.ListLaws as L
use Rattle.lane_kernels.proofs.ListLaws.{add_in, all_if, sub_in}

-- ---- over plain numbers

-- of four products of halves
of_parts : (x y z t : ℕ) → x ≤ 18446744065119617025 → y ≤ 18446744065119617025 → z ≤ 18446744065119617025 →
    t ≤ 18446744065119617025
    → cut (cut (cut (cut x + cut y / 2 ^ 32) + cut z / 2 ^ 32) + cut (cut (cut t / 2 ^ 32 + cut y % 2 ^ 32) + cut z %
    2 ^
    32) / 2 ^ 32) ≡ (x * (2 ^ 32 * 2 ^ 32) + (y + z) * 2 ^ 32 + t) / 2 ^ 64
of_parts x y z t h i j k = omega arith

half_product : (a b : ℕ) → a < 2 ^ 32 → b < 2 ^ 32 → a * b ≤ 18446744065119617025
half_product a b h k =
    let l : a ≤ 4294967295 = omega arith in
    let m : b ≤ 4294967295 = omega arith in
    mul-le-mul l m

whole : (a b c d k : ℕ) → (a * k + b) * (c * k + d) ≡ (a * c) * (k * k) + (a * d + b * c) * k + b * d
whole a b c d k = omega arith

pub high_is : (p q : ℕ) → p < 2 ^ 64 → q < 2 ^ 64 → high_product_lane p q ≡ p * q / 2 ^ 64
high_is p q h k =
    let a = p / 2 ^ 32 in
    let b = p % 2 ^ 32 in
    let c = q / 2 ^ 32 in
    let d = q % 2 ^ 32 in
    let i : a < 2 ^ 32 = omega arith in
    let j : b < 2 ^ 32 = omega arith in
    let l : c < 2 ^ 32 = omega arith in
    let m : d < 2 ^ 32 = omega arith in
    let e : a * 2 ^ 32 + b ≡ p = omega arith in
    let f : c * 2 ^ 32 + d ≡ q = omega arith in
    of_parts (a * c) (a * d) (b * c) (b * d) (half_product a c i l) (half_product a d i m) (half_product b c j l)
    (half_product b d j m)
    ∙ ap (λ x. x / 2 ^ 64) (sym (whole a b c d (2 ^ 32)) ∙ ap₂ (λ x y. x * y) e f)

-- a lane of 64 bits is its value, or more than it by 2 ^ 64 where that is negative
sign_of : (b p : ℕ) (v : ℤ) → (b ≡ 0) ⊎ (b ≡ 2 ^ 63) → p < 2 ^ 64 → pos (raised 64 b p) ≡ v +ℤ pos b
    → (ltb (raised 64 b p) b ≡ true → pos p ≡ v +ℤ pos (2 ^ 64)) × (ltb (raised 64 b p) b ≡ false → pos p ≡ v)
sign_of b p v (inl i) h e = (
  (λ s. let l = ltb-true (raised 64 b p) b s in absurd (omega arith)),
  (λ s. omega (arith, ints, e)),
)
sign_of b p v (inr i) h e = (
  (λ s. let l = ltb-true (raised 64 b p) b s in omega (arith, ints, e, l)),
  (λ s. let l = ltb-false (raised 64 b p) b s in omega (arith, ints, e, l)),
)

-- a product of lanes, and the product of their values
product_less : (p q : ℕ) (v w : ℤ) → p < 2 ^ 64 → pos p ≡ v +ℤ pos (2 ^ 64) → pos q ≡ w →
    pos (p * q) ≡ (v *ℤ w) +ℤ pos (q * 2 ^ 64)
product_less p q (pos a) w h e f = absurd (omega (arith, ints, e))
product_less p q (negsuc a) (negsuc b) h e f = absurd (omega (arith, ints, f))
product_less p q (negsuc a) (pos b) h e f =
    let s : p + suc a ≡ 2 ^ 64 = omega (arith, ints, e) in
    let t = ap (λ x. x * q) s in
    let same : q ≡ b = omega (arith, ints, f) in
    subst (λ b. pos (p * q) ≡ (negsuc a *ℤ pos b) +ℤ pos (q * 2 ^ 64)) same (omega (arith, ints, t))

both_less : (d a b : ℕ) → (d + b) * (d + a) ≡ a * b + d * (d + a + b)
both_less d a b = omega arith

product_both : (p q : ℕ) (v w : ℤ) → p < 2 ^ 64 → q < 2 ^ 64 → pos p ≡ v +ℤ pos (2 ^ 64) → pos q ≡ w +ℤ pos (2 ^ 64)
    → 2 ^ 64 ≤ p + q → pos (p * q) ≡ (v *ℤ w) +ℤ pos ((p + q - 2 ^ 64) * 2 ^ 64)
product_both p q (pos a) w h k e f l = absurd (omega (arith, ints, e))
product_both p q (negsuc a) (pos b) h k e f l = absurd (omega (arith, ints, f))
product_both p q (negsuc a) (negsuc b) h k e f l =
    let s : p + suc a ≡ 2 ^ 64 = omega (arith, ints, e) in
    let r : q + suc b ≡ 2 ^ 64 = omega (arith, ints, f) in
    let d = p + q - 2 ^ 64 in
    let i : p ≡ d + suc b = omega arith in
    let j : q ≡ d + suc a = omega arith in
    let m : d + suc a + suc b ≡ 2 ^ 64 = omega arith in
    let t : p * q ≡ suc a * suc b + d * 2 ^ 64 =
    ap₂ (λ x y. x * y) i j ∙ both_less d (suc a) (suc b) ∙ ap (λ x. suc a * suc b + d * x) m in
    omega (arith, ints, t)

-- ---- lanes of 64 bits

less_twice : (u x y : ℕ) → x ≤ 2 ^ 64 → y ≤ 2 ^ 64
    → IsCongruent (2 ^ 64) (pos (sub_in 64 (sub_in 64 u x) y)) (pos u -ℤ pos x -ℤ pos y)
less_twice u x y h k =
    let one = K.mod_congruent 64 (2 ^ 63) refl refl (omega arith) (omega arith) (u + (2 ^ 64 - x)) in
    let two = K.mod_congruent 64 (2 ^ 63) refl refl (omega arith) (omega arith) (sub_in 64 u x + (2 ^ 64 - y)) in
    congruent_trans two (record {
      more = one.more;
      less = one.less + 2;
      same = omega (arith, ints, one.same);
    })

shifted : (x c : ℕ) (v : ℤ) → pos x ≡ v +ℤ pos (c * 2 ^ 64) → pos (x / 2 ^ 64) -ℤ pos c ≡ shr_z v (2 ^ 64)
shifted x c v e = K.shr_raised 64 (2 ^ 63) refl refl (omega arith) (omega arith) x c (2 ^ 64) v (omega arith) e

chosen_below : (b : Bool) (x : ℕ) → x < 2 ^ 64 → cond b x 0 ≤ 2 ^ 64
chosen_below true x h = omega arith
chosen_below false x h = omega arith

-- what is left of a high half without the lanes of negative numbers
high_congruent : (p q : ℕ) (v w : ℤ) (s t : Bool) → p < 2 ^ 64 → q < 2 ^ 64
    → (s ≡ true → pos p ≡ v +ℤ pos (2 ^ 64)) × (s ≡ false → pos p ≡ v)
    → (t ≡ true → pos q ≡ w +ℤ pos (2 ^ 64)) × (t ≡ false → pos q ≡ w)
    → (s ≡ true → 2 ^ 63 ≤ p) → (t ≡ true → 2 ^ 63 ≤ q)
    → IsCongruent (2 ^ 64) (pos (p * q / 2 ^ 64) -ℤ pos (cond s q 0) -ℤ pos (cond t p 0)) (shr_z (v *ℤ w) (2 ^ 64))
high_congruent p q v w false false h k e f l m =
    let i = e.1 refl in
    let j = f.1 refl in
    let is : pos (p * q) ≡ (v *ℤ w) +ℤ pos (0 * 2 ^ 64) =
    subst₂ (λ x y. pos (p * q) ≡ (x *ℤ y) +ℤ pos (0 * 2 ^ 64)) i j (omega (arith, ints)) in
    let z = shifted (p * q) 0 (v *ℤ w) is in
    record { more = 0; less = 0; same = omega (arith, ints, z) }
high_congruent p q v w true false h k e f l m =
    let z = shifted (p * q) q (v *ℤ w) (product_less p q v w h (e.0 refl) (f.1 refl)) in
    record { more = 0; less = 0; same = omega (arith, ints, z) }
high_congruent p q v w false true h k e f l m =
    let is : pos (p * q) ≡ (v *ℤ w) +ℤ pos (p * 2 ^ 64) =
    subst₂ (λ x y. pos x ≡ y +ℤ pos (p * 2 ^ 64)) (mul_comm q p) (*ℤ_comm w v)
    (product_less q p w v k (f.0 refl) (e.1 refl)) in
    let z = shifted (p * q) p (v *ℤ w) is in
    record { more = 0; less = 0; same = omega (arith, ints, z) }
high_congruent p q v w true true h k e f l m =
    let a = l refl in
    let b = m refl in
    let z = shifted (p * q) (p + q - 2 ^ 64) (v *ℤ w)
    (product_both p q v w h k (e.0 refl) (f.0 refl) (omega arith)) in
    record { more = 1; less = 0; same = omega (arith, ints, z) }

bias_is : (t : IntType) → (bias_of 64 t ≡ 0) ⊎ (bias_of 64 t ≡ 2 ^ 63)
bias_is t = by (is_signed t)
  where
    by : (b : Bool) → (cond b (2 ^ (64 - 1)) 0 ≡ 0) ⊎ (cond b (2 ^ (64 - 1)) 0 ≡ 2 ^ 63)
    by true = inr refl
    by false = inl refl

large : (t : IntType) (p : ℕ) → p < 2 ^ 64 → ltb (raised 64 (bias_of 64 t) p) (bias_of 64 t) ≡ true → 2 ^ 63 ≤ p
large t p h e = let l = ltb-true (raised 64 (bias_of 64 t) p) (bias_of 64 t) e in by (bias_is t) l
  where
    by : (bias_of 64 t ≡ 0) ⊎ (bias_of 64 t ≡ 2 ^ 63) → raised 64 (bias_of 64 t) p < bias_of 64 t → 2 ^ 63 ≤ p
    by (inl i) l = absurd (omega arith)
    by (inr i) l = omega arith

whole_value : (t : IntType) (p : ℕ) → width_bits t ≡ 64 → p < 2 ^ 64 →
    pos (raised 64 (bias_of 64 t) p) ≡ value_of t p +ℤ pos (bias_of 64 t)
whole_value t p n h = K.raise_is 64 (2 ^ 63) refl refl (omega arith) (omega arith) t p (omega arith)
    (K.whole_lane 64 (2 ^ 63) refl refl (omega arith) (omega arith) t p n (omega arith) h)

pub lane_high : (t : IntType) → width_bits t ≡ 64 → (p q : ℕ) → p < 2 ^ 64 → q < 2 ^ 64
    → sub_in 64 (sub_in 64 (high_product_lane p q) (negative_part (bias_of 64 t) p q)) (negative_part (bias_of 64 t)
    q p)
    ≡ pair_lane 64 MulHi t p q
unfolding builtin_of
lane_high t n p q h k =
    let b = bias_of 64 t in
    let v = value_of t p in
    let w = value_of t q in
    let s = ltb (raised 64 b p) b in
    let r = ltb (raised 64 b q) b in
    let x = cond s q 0 in
    let y = cond r p 0 in
    let z = int_shr (v *ℤ w) 64 in
    let few = chosen_below s q k in
    let fewer = chosen_below r p h in
    let c = congruent_trans (less_twice (p * q / 2 ^ 64) x y few fewer)
    (high_congruent p q v w s r h k (sign_of b p v (bias_is t) h (whole_value t p n h))
    (sign_of b q w (bias_is t) k (whole_value t q n k)) (large t p h) (large t q k)) in
    ap (λ u. sub_in 64 (sub_in 64 u x) y) (high_is p q h k)
    ∙ sym (K.lane_unique 64 (2 ^ 63) refl refl (omega arith) (omega arith) _ (wrap_of t z)
    (mod-lt _ (omega arith)) (congruent_trans c (congruent_sym (wrap_wide t z n))))
    ∙ ap (λ m. lane 64 (wrap_of t (int_shr (v *ℤ w) m))) (sym n)

-- ---- as vectors

pub negative_lanes : (b n : ℕ) (p q : List ℕ) → length p ≡ n → length q ≡ n
    → sel_l (map (top 63) (zip2 (all_if 18446744073709551615 ltb) (zip2 (add_in 64) p (replicate n b))
    (replicate n b))) q (replicate n 0) ≡ zip2 (negative_part b) p q
negative_lanes b n [] q h k = refl
negative_lanes b zero (x ∷ p) q h k = absurd (omega arith)
negative_lanes b (suc n) (x ∷ p) [] h k = refl
negative_lanes b (suc n) (x ∷ p) (y ∷ q) h k = ap₂ (λ v vs. v ∷ vs)
    (L.picked 64 63 18446744073709551615 refl refl (ltb (add_in 64 x b) b) y 0)
    (negative_lanes b n p q (omega arith) (omega arith))

-- what is made of the products of two vectors, each made of another
pub made_product : (j f g : ℕ → ℕ) (a b : List ℕ) →
    map j (zip2 (λ x y. cut (x * y)) (map f a) (map g b)) ≡ zip2 (λ p q. j (cut (f p * g q))) a b
made_product j f g [] b = refl
made_product j f g (p ∷ a) [] = refl
made_product j f g (p ∷ a) (q ∷ b) = ap (λ vs. j (cut (f p * g q)) ∷ vs) (made_product j f g a b)
