-- Built-in functions on bits, in lanes of W bits.
use Rattle.std.proofs.Common.{◌≡◌, ℕ, zero, suc, ◌+◌, ◌-◌, ◌*◌, ◌/◌, ◌%◌, ◌^◌, ◌<◌, ◌≤◌, refl, sym, ap, ap₂, subst}
use Rattle.std.proofs.Common.{◌∙◌, arith, mod-lt, mod-eq_of_lt, bit_and, ⊎_elim, true}
use Rattle.std.proofs.Common.{pos, count_ones, pow_mono, mul-le-mul_right}
use Rattle.std.proofs.Common.{List, [], ◌∷◌, length, replicate, map}
use Rattle.std.proofs.Math.Nat.{div-div-eq-div-mul, div-le_self, mod-le}
use Rattle.std.proofs.lemmas.Nat.{leading_length, pow-add}
use Rattle.std.specs.Int.Count.{count_leading_zeros}
use Rattle.std.specs.Simd.Lanes.{zip2, Each1}
use Rattle.wg_num.specs.declared.types.IntType.{IntType}
use Rattle.wg_num.specs.declared.types.IntType.TheVariants.{Bool as BoolType, Char, Uchar, Short, Ushort, Int, Uint}
use Rattle.wg_num.specs.declared.types.IntType.TheVariants.{Long, Ulong}
use Rattle.wg_num.specs.declared.types.Fun.TheVariants.{Rotate, Clz, Popcount}
use Rattle.wg_num.specs.Wrap.{residue, value_of, wrap_of, modulus, is_bool, width_bits, truth_of}
use Rattle.wg_num.specs.Operators.{amount_of}
use Rattle.wg_num.specs.Builtins.{builtin_of, rotated}
use Rattle.wg_num.proofs.WrapLaws.{congruent_trans, congruent_refl, congruent_divides, congruent-add}
use Rattle.wg_num.proofs.WrapLaws.{residue_congruent, residue_unique, residue-lt, some_modulus}
use Rattle.wg_num.proofs.BuiltinLaws.{leading_narrow}
use Rattle.lane_values.specs.Lanes.{FitsLane, extended, lane}
use Rattle.lane_kernels.specs.Vectors.{held_bits, one_lane, pair_lane, turned_lane}
use Rattle.lane_kernels.proofs.LaneLaws as K
use Rattle.lane_kernels.proofs.ListLaws.{map_of_zip2, sub_in, zip2-maps, zip2_same}
use Rattle.lane_kernels.proofs.NumberLaws.{rest_of}

-- ---- lists

pub each_mapped : (P Q : ℕ → Type 0) (f : ℕ → ℕ) → ((x : ℕ) → P x → Q (f x)) → (a : List ℕ) → Each1 P a →
    Each1 Q (map f a)
each_mapped P Q f e [] u = tt
each_mapped P Q f e (x ∷ a) u = (e x u.0, each_mapped P Q f e a u.1)

-- how far what is left of w bits goes
pub rest_amounts : (W w : ℕ) → 0 < w → w ≤ W → W < 2 ^ W → (n : ℕ) (ks : List ℕ) → length ks ≡ n →
    Each1 (λ k. k < w) ks → Each1 (λ k. k < W) (zip2 (sub_in W) (replicate n (w - 1)) ks)
rest_amounts W w some le room zero ks e u = tt
rest_amounts W w some le room (suc n) [] e u = tt
rest_amounts W w some le room (suc n) (k ∷ ks) e u =
    let h = u.0 in
    let is = rest_of W (w - 1) k (omega arith) (omega arith) in
    (omega (arith, is), rest_amounts W w some le room n ks (omega arith) u.1)

-- ---- widths

-- the width is a power of two
width_power : (t : IntType) → (j : ℕ) × (width_bits t ≡ 2 ^ j) × (j ≤ width_bits t)
width_power BoolType = (3, refl, omega arith)
width_power Char = (3, refl, omega arith)
width_power Uchar = (3, refl, omega arith)
width_power Short = (4, refl, omega arith)
width_power Ushort = (4, refl, omega arith)
width_power Int = (5, refl, omega arith)
width_power Uint = (5, refl, omega arith)
width_power Long = (6, refl, omega arith)
width_power Ulong = (6, refl, omega arith)

bool_width : (t : IntType) → is_bool t ≡ true → width_bits t ≡ 8
bool_width BoolType e = refl
bool_width Char e = cc
bool_width Uchar e = cc
bool_width Short e = cc
bool_width Ushort e = cc
bool_width Int e = cc
bool_width Uint e = cc
bool_width Long e = cc
bool_width Ulong e = cc

-- a shift in two steps
two_steps : (p w k : ℕ) → k < w → p / 2 ^ (w - 1 - k) / 2 ≡ p / 2 ^ (w - k)
two_steps p w k h =
    let split : w - k ≡ (w - 1 - k) + 1 = omega arith in
    div-div-eq-div-mul p (2 ^ (w - 1 - k)) 2 ∙
    ap (λ d. p / d) (sym (ap (λ x. 2 ^ x) split ∙ pow-add 2 (w - 1 - k) 1))

module _ (W H : ℕ) (twice : 2 ^ W ≡ H + H) (high : H ≡ 2 ^ (W - 1)) (big : 128 ≤ H) (most : W ≤ 64) where
  -- a number that divides 2 ^ W leaves the same of a lane and of its value
  rest_is : (t : IntType) (p m c : ℕ) → 0 < m → 2 ^ W ≡ c * m → extended W t p % m ≡ residue (value_of t p) m
  rest_is t p m c some e =
      let x = extended W t p in
      sym (residue_unique (x % m) (value_of t p) m (mod-lt x some)
      (congruent_trans (residue_congruent (pos x) m some)
      (congruent_divides m c e (K.lane_is W H twice high big most (value_of t p)))))

  pattern_is : (t : IntType) (p : ℕ) → FitsLane W t → held_bits t (extended W t p) ≡ residue (value_of t p) (modulus t)
  pattern_is t p n =
      let d = K.narrow_divides W H twice high big most t n in
      K.masked W H twice high big most t (extended W t p) ∙ rest_is t p (modulus t) d.0 (some_modulus t) d.1

  amount_is : (t : IntType) (q : ℕ) → FitsLane W t → extended W t q % width_bits t ≡ amount_of t (value_of t q)
  amount_is t q n =
      let w = width_power t in
      let split : W ≡ (W - w.0) + w.0 = omega (arith, w.2, n) in
      rest_is t q (width_bits t) (2 ^ (W - w.0)) (K.some_width W H twice high big most t)
      (ap (λ x. 2 ^ x) split ∙ pow-add 2 (W - w.0) w.0 ∙ ap (λ x. 2 ^ (W - w.0) * x) (sym w.1))

  -- ---- popcount and clz

  pub lane_ones : (t : IntType) → FitsLane W t → (p : ℕ)
      → extended W t (count_ones (held_bits t (extended W t p))) ≡ one_lane W Popcount t p
  unfolding builtin_of value_of
  lane_ones t n p = ap (λ x. lane W (wrap_of t (pos (count_ones x)))) (pattern_is t p n)

  leading : (w p : ℕ) → w ≤ W → p < 2 ^ w → sub_in W (count_leading_zeros W p) (W - w) ≡ count_leading_zeros w p
  leading w p le h =
      let small : p < 2 ^ W = omega (arith, h, pow_mono le) in
      let a = leading_narrow w p (omega arith) h in
      let b = leading_narrow W p most small in
      let l = leading_length W p small in
      let is : count_leading_zeros W p ≡ (W - w) + count_leading_zeros w p = omega (arith, a, b) in
      rest_of W (count_leading_zeros W p) (W - w) (omega arith) (omega (arith, l.1))
      ∙ (let f : count_leading_zeros W p - (W - w) ≡ count_leading_zeros w p = omega arith in f)

  pub lane_zeros : (t : IntType) → FitsLane W t → (p : ℕ)
      → extended W t (sub_in W (count_leading_zeros W (held_bits t (extended W t p))) (W - width_bits t)) ≡
      one_lane W Clz t p
  unfolding builtin_of value_of modulus
  lane_zeros t n p =
      let e = pattern_is t p n in
      let z = residue (value_of t p) (modulus t) in
      let below : z < 2 ^ width_bits t = residue-lt (value_of t p) (modulus t) (some_modulus t) in
      ap (extended W t) (ap (λ x. sub_in W (count_leading_zeros W x) (W - width_bits t)) e ∙
      leading (width_bits t) z n below)

  -- ---- rotate

  turned_is : (w p k : ℕ) → w ≤ W → k < w
      → (p * 2 ^ k % 2 ^ W + p / 2 ^ ((w - 1 + (2 ^ W - k)) % 2 ^ W) / 2 ^ 1) % 2 ^ W ≡
      (p * 2 ^ k % 2 ^ W + p / 2 ^ (w - k)) % 2 ^ W
  turned_is w p k le h = ap (λ x. (p * 2 ^ k % 2 ^ W + x) % 2 ^ W)
      (ap (λ x. p / 2 ^ x / 2) (rest_of W (w - 1) k (omega arith) (omega arith)) ∙ two_steps p w k h)

  -- one bit in a byte
  turned_bit : (p k : ℕ) → p ≤ 1 → k < 8 → (p * 2 ^ k % 2 ^ W + p / 2 ^ (8 - k)) % 2 ^ W ≡ rotated 8 p k
  turned_bit p k h l =
      let le : k ≤ 7 = omega arith in
      let few : p * 2 ^ k ≤ 1 * 2 ^ k = mul-le-mul_right (2 ^ k) h in
      let top : 2 ^ k ≤ 2 ^ 7 = pow_mono le in
      let low = div-le_self p (2 ^ (8 - k)) in
      ap (λ x. (x + p / 2 ^ (8 - k)) % 2 ^ W) (mod-eq_of_lt (omega arith)) ∙ mod-eq_of_lt (omega arith)

  pub lane_rotate : (t : IntType) → FitsLane W t → (p q : ℕ)
      → extended W t (turned_lane W t (extended W t p) (extended W t q % width_bits t)) ≡ pair_lane W Rotate t p q
  unfolding builtin_of
  lane_rotate t n p q =
      let w = width_bits t in
      let x = extended W t p in
      let b = held_bits t x in
      let k = extended W t q % w in
      let below : k < w = mod-lt _ (K.some_width W H twice high big most t) in
      let r = (b * 2 ^ k % 2 ^ W + b / 2 ^ (w - k)) % 2 ^ W in
      ap (extended W t) (turned_is w b k n below)
      ∙ ap (lane W) (K.stands W H twice high big most t r (pos (rotated w b k)) n
      (λ e. congruent_trans (K.mod_congruent W H twice high big most (b * 2 ^ k % 2 ^ W + b / 2 ^ (w - k)))
      (congruent-add (K.mod_congruent W H twice high big most (b * 2 ^ k)) (congruent_refl (2 ^ W) (pos (b / 2 ^ (w -
      k))))))
      (λ e. ap (λ y. truth_of (pos y)) (bit e)))
      ∙ ap₂ (λ y z. lane W (wrap_of t (pos (rotated w y z)))) (pattern_is t p n) (amount_is t q n)
    where
      bit : is_bool t ≡ true → (held_bits t (extended W t p) * 2 ^ (extended W t q % width_bits t) % 2 ^ W +
          held_bits t (extended W t p) / 2 ^ (width_bits t - extended W t q % width_bits t)) % 2 ^ W ≡
          rotated (width_bits t) (held_bits t (extended W t p)) (extended W t q % width_bits t)
      bit e =
          let x = extended W t p in
          let w = bool_width t e in
          let small : x ≤ 1 = ⊎_elim (λ i. omega arith) (λ i. omega arith)
          (K.lane_bool W H twice high big most t x e (K.IsLane-extended W H twice high big most t p n)) in
          let b = held_bits t x in
          let fewer : b ≤ 1 = omega (arith, K.masked W H twice high big most t x, mod-le x (modulus t)) in
          let below : extended W t q % width_bits t < width_bits t = mod-lt _ (K.some_width W H twice high big most
          t) in
          subst (λ w. (k : ℕ) → k < w → (b * 2 ^ k % 2 ^ W + b / 2 ^ (w - k)) % 2 ^ W ≡ rotated w b k) (sym w)
          (λ k l. turned_bit b k fewer l) (extended W t q % width_bits t) below

  pub rotated_lanes : (t : IntType) → FitsLane W t → (a b : List ℕ)
      → map (extended W t) (zip2 (λ p q. turned_lane W t p (q % width_bits t)) (map (extended W t) a)
      (map (extended W t) b)) ≡ zip2 (pair_lane W Rotate t) a b
  rotated_lanes t n a b =
      let turn = λ (p q : ℕ). turned_lane W t p (q % width_bits t) in
      map_of_zip2 (extended W t) turn (map (extended W t) a) (map (extended W t) b)
      ∙ zip2-maps (λ p q. extended W t (turn p q)) (extended W t) (extended W t) a b
      ∙ zip2_same _ (pair_lane W Rotate t) (lane_rotate t n) a b

-- ---- as vectors

pub turned_lanes : (W x y n : ℕ) (a ks : List ℕ) → length a ≡ n → length ks ≡ n
    → zip2 (λ u v. (u + v) % 2 ^ W) (zip2 (λ u k. u * 2 ^ k % 2 ^ W) (zip2 bit_and a (replicate n x)) ks)
    (zip2 (λ u k. u / 2 ^ k) (zip2 (λ u k. u / 2 ^ k) (zip2 bit_and a (replicate n x))
    (zip2 (sub_in W) (replicate n y) ks)) (replicate n 1))
    ≡ zip2 (λ p k. (bit_and p x * 2 ^ k % 2 ^ W + bit_and p x / 2 ^ sub_in W y k / 2 ^ 1) % 2 ^ W) a ks
turned_lanes W x y n [] ks e h = refl
turned_lanes W x y zero (p ∷ a) ks e h = absurd (omega arith)
turned_lanes W x y (suc n) (p ∷ a) [] e h = refl
turned_lanes W x y (suc n) (p ∷ a) (k ∷ ks) e h =
    ap (λ vs. (bit_and p x * 2 ^ k % 2 ^ W + bit_and p x / 2 ^ sub_in W y k / 2 ^ 1) % 2 ^ W ∷ vs)
    (turned_lanes W x y n a ks (omega arith) (omega arith))
