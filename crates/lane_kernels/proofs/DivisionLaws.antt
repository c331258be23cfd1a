-- Quotients and rests of lanes of W bits.
use Rattle.std.proofs.Common.{◌≡◌, ℕ, zero, suc, ◌+◌, ◌-◌, ◌/◌, ◌%◌, ◌^◌, ◌<◌, ◌≤◌, refl, sym, ap, ap₂, subst}
use Rattle.std.proofs.Common.{subst₂, ◌∙◌, arith, Bool, true, false, cond, mod-lt}
use Rattle.std.proofs.Common.{ℤ, pos, negsuc, ◌+ℤ◌, neg_ℤ, ◌≤ℤ◌, int_lt}
use Rattle.std.proofs.Common.{nat_eq, nat_lt, ltb, eqb-true, unsigned_abs, int_div, int_rem}
use Rattle.std.proofs.Common.{ltb-true, true≢false}
use Rattle.std.proofs.Math.IntN.{neg_ℤ-neg_ℤ}
use Rattle.std.specs.Ordering.{int_eq}
use Rattle.std.proofs.lemmas.Bool.Decides.{Decides-int_eq}
use Rattle.std.proofs.lemmas.Int.{ints}
use Rattle.std.proofs.Math.Nat.{div-le_self, mod-le}
use Rattle.wg_num.specs.declared.types.IntType.{IntType}
use Rattle.wg_num.specs.declared.types.Bin.TheVariants.{Div, Rem}
use Rattle.wg_num.specs.Wrap.{IsCongruent, IsValue, value_of, modulus, half}
use Rattle.wg_num.specs.Operators.{quotient_of, rest_of}
use Rattle.wg_num.proofs.WrapLaws.{residue_unique, congruent_refl}
use Rattle.wg_num.proofs.WrapLaws.{congruent_trans}
use Rattle.wg_num.proofs.WrapLaws.{IsValue-value}
use Rattle.lane_values.specs.Lanes.{FitsLane, IsLane, binary_value}
use Rattle.lane_kernels.specs.Vectors.{bias_of, raised, signed_by, divisor_of, quotient_lane, rest_lane}
use Rattle.lane_kernels.proofs.LaneLaws as K

module _ (W H : ℕ) (twice : 2 ^ W ≡ H + H) (high : H ≡ 2 ^ (W - 1)) (big : 128 ≤ H) (most : W ≤ 64) where
  -- the laws of lanes, of this width
  some_lane : 0 < 2 ^ W
  some_lane = K.some_lane W H twice high big most

  lane-lt : (t : IntType) (p : ℕ) → IsLane W t p → p < 2 ^ W
  lane-lt = K.lane-lt W H twice high big most

  mod_congruent : (n : ℕ) → IsCongruent (2 ^ W) (pos (n % 2 ^ W)) (pos n)
  mod_congruent = K.mod_congruent W H twice high big most

  lane_congruent : (t : IntType) (p : ℕ) → IsLane W t p → IsCongruent (2 ^ W) (pos p) (value_of t p)
  lane_congruent = K.lane_congruent W H twice high big most

  lane_range : (t : IntType) → FitsLane W t
      → (half t ≤ bias_of W t) × (modulus t - 1 - half t + bias_of W t < 2 ^ W) × (1 + bias_of W t < 2 ^ W)
  lane_range = K.lane_range W H twice high big most

  value_range : (t : IntType) (z : ℤ) → FitsLane W t → IsValue t z
      → (neg_ℤ (pos (bias_of W t)) ≤ℤ z) × ((z +ℤ pos (bias_of W t)) ≤ℤ pos (2 ^ W - 1))
  value_range = K.value_range W H twice high big most

  zero_lane : (t : IntType) (q : ℕ) → IsLane W t q → nat_eq q 0 ≡ int_eq (value_of t q) (pos 0)
  zero_lane = K.zero_lane W H twice high big most

  -- z, or its negative
  signed_as : Bool → ℤ → ℤ
  signed_as s z = cond s (neg_ℤ z) z

  congruent_signed : {a b : ℤ} (s : Bool) → IsCongruent (2 ^ W) a b →
      IsCongruent (2 ^ W) (signed_as s a) (signed_as s b)
  unfolding signed_as
  congruent_signed true e = K.congruent-neg W H twice high big most e
  congruent_signed false e = e

  -- the lane's sign is that of its value
  sign_lane : (t : IntType) (p : ℕ) → FitsLane W t → IsLane W t p → nat_lt (raised W (bias_of W t) p) (bias_of W t) ≡
      int_lt (value_of t p) (pos 0)
  sign_lane t p n l = K.lt_raised W H twice high big most (raised W (bias_of W t) p) (bias_of W t) (bias_of W t)
      (value_of t p) (pos 0) (K.raise_is W H twice high big most t p n l) (omega (arith, ints))

  signed_congruent : (t : IntType) (p x : ℕ) → FitsLane W t → IsLane W t p → x ≤ 2 ^ W →
      IsCongruent (2 ^ W) (pos (signed_by W (bias_of W t) p x)) (signed_as (int_lt (value_of t p) (pos 0)) (pos x))
  unfolding signed_as
  signed_congruent t p x n l h = by (int_lt (value_of t p) (pos 0)) (sign_lane t p n l)
    where
      by : (s : Bool) → nat_lt (raised W (bias_of W t) p) (bias_of W t) ≡ s →
          IsCongruent (2 ^ W) (pos (signed_by W (bias_of W t) p x)) (cond s (neg_ℤ (pos x)) (pos x))
      by true e = subst (λ b. IsCongruent (2 ^ W) (pos (cond b ((0 + (2 ^ W - x)) % 2 ^ W) x)) (neg_ℤ (pos x))) (sym e)
          (congruent_trans (mod_congruent (0 + (2 ^ W - x)))
          (record { more = 0; less = 1; same = omega (arith, ints) }))
      by false e = subst (λ b. IsCongruent (2 ^ W) (pos (cond b ((0 + (2 ^ W - x)) % 2 ^ W) x)) (pos x)) (sym e)
          (congruent_refl (2 ^ W) (pos x))

  signed-lt : (bias s x : ℕ) → x < 2 ^ W → signed_by W bias s x < 2 ^ W
  signed-lt bias s x h = by (nat_lt (raised W bias s) bias)
    where
      by : (b : Bool) → cond b ((0 + (2 ^ W - x)) % 2 ^ W) x < 2 ^ W
      by true = mod-lt (0 + (2 ^ W - x)) (omega arith)
      by false = h

  abs_signed : (v : ℤ) → signed_as (int_lt v (pos 0)) v ≡ pos (unsigned_abs v)
  unfolding signed_as
  abs_signed (pos zero) = refl
  abs_signed (pos (suc n)) = grind (arith, ints)
  abs_signed (negsuc n) = refl

  -- the magnitude of a lane is that of its value
  magnitude : (t : IntType) (p : ℕ) → FitsLane W t → IsLane W t p → signed_by W (bias_of W t) p p ≡
      unsigned_abs (value_of t p)
  magnitude t p n l =
      let v = value_of t p in
      let s = int_lt v (pos 0) in
      let small = lane-lt t p l in
      let e : IsCongruent (2 ^ W) (pos (signed_by W (bias_of W t) p p)) (pos (unsigned_abs v)) =
      congruent_trans (signed_congruent t p p n l (omega arith))
      (subst (λ z. IsCongruent (2 ^ W) (signed_as s (pos p)) z) (abs_signed v)
      (congruent_signed s (lane_congruent t p l))) in
      let r = value_range t v n (IsValue-value t p) in
      let top = lane_range t n in
      sym (residue_unique (signed_by W (bias_of W t) p p) (pos (unsigned_abs v)) (2 ^ W)
      (signed-lt (bias_of W t) p p small) e)
      ∙ residue_unique (unsigned_abs v) (pos (unsigned_abs v)) (2 ^ W) (omega (arith, ints, r.0, r.1, top.2))
      (congruent_refl (2 ^ W) (pos (unsigned_abs v)))

  not_negative : (a : ℕ) (z : ℤ) → signed_as (ltb a 0) z ≡ z
  unfolding signed_as
  not_negative a z = by (ltb a 0) refl
    where
      by : (b : Bool) → ltb a 0 ≡ b → cond (ltb a 0) (neg_ℤ z) z ≡ z
      by true e = absurd (omega (arith, ltb-true a 0 e))
      by false e = ap (λ b. cond b (neg_ℤ z) z) e

  div_signed : (v w : ℤ) → signed_as (int_lt w (pos 0))
      (signed_as (int_lt v (pos 0)) (pos (unsigned_abs v / unsigned_abs w))) ≡ int_div v w
  unfolding signed_as
  div_signed (pos a) (pos b) = not_negative b (signed_as (ltb a 0) (pos (a / b))) ∙ not_negative a (pos (a / b))
  div_signed (pos a) (negsuc b) = ap neg_ℤ (not_negative a (pos (a / suc b)))
  div_signed (negsuc a) (pos b) = not_negative b (neg_ℤ (pos (suc a / b)))
  div_signed (negsuc a) (negsuc b) = neg_ℤ-neg_ℤ (pos (suc a / suc b))

  rem_signed : (v w : ℤ) → signed_as (int_lt v (pos 0)) (pos (unsigned_abs v % unsigned_abs w)) ≡ int_rem v w
  unfolding signed_as
  rem_signed (pos a) w = not_negative a (pos (a % unsigned_abs w))
  rem_signed (negsuc a) w = refl

  abs_zero : (w : ℤ) → unsigned_abs w ≡ 0 → w ≡ pos 0
  abs_zero w e = omega (arith, ints, e)

  -- where the value is not 0
  divisor_is : (t : IntType) (q : ℕ) → FitsLane W t → IsLane W t q → int_eq (value_of t q) (pos 0) ≡ false →
      divisor_of W (bias_of W t) q ≡ unsigned_abs (value_of t q)
  divisor_is t q n r e = by (nat_eq (signed_by W (bias_of W t) q q) 0) refl
    where
      by : (b : Bool) → nat_eq (signed_by W (bias_of W t) q q) 0 ≡ b → divisor_of W (bias_of W t) q ≡
          unsigned_abs (value_of t q)
      by true h =
          absurd (true≢false (sym ((Decides-int_eq (value_of t q) (pos 0)).1
          (abs_zero (value_of t q) (sym (magnitude t q n r) ∙ eqb-true (signed_by W (bias_of W t) q q) 0 h))) ∙
          e))
      by false h = ap (λ b. cond b 1 (signed_by W (bias_of W t) q q)) h ∙ magnitude t q n r

  -- a quotient of lanes that are not divided by 0, and a rest
  divided : (t : IntType) (p q : ℕ) → FitsLane W t → IsLane W t p → IsLane W t q → int_eq (value_of t q) (pos 0) ≡ false
      →
      IsCongruent (2 ^ W) (pos (signed_by W (bias_of W t) q
      (signed_by W (bias_of W t) p (signed_by W (bias_of W t) p p / divisor_of W (bias_of W t) q))))
      (int_div (value_of t p) (value_of t q))
  divided t p q n l r e =
      let v = value_of t p in
      let w = value_of t q in
      let z = unsigned_abs v / unsigned_abs w in
      let y = signed_by W (bias_of W t) p z in
      let is = ap₂ (λ a d. signed_by W (bias_of W t) q (signed_by W (bias_of W t) p (a / d))) (magnitude t p n l)
      (divisor_is t q n r e) in
      let small : z < 2 ^ W = omega (
        arith,
        div-le_self (unsigned_abs v) (unsigned_abs w),
        magnitude t p n l,
        signed-lt
            (bias_of W t) p p (lane-lt t p l),
      ) in
      let least = signed-lt (bias_of W t) p z small in
      subst₂ (λ a c. IsCongruent (2 ^ W) (pos a) c) (sym is) (div_signed v w)
      (congruent_trans (signed_congruent t q y n r (omega arith))
      (congruent_signed (int_lt w (pos 0)) (signed_congruent t p z n l (omega arith))))

  left_over : (t : IntType) (p q : ℕ) → FitsLane W t → IsLane W t p → IsLane W t q → int_eq (value_of t q) (pos 0) ≡
      false
      → IsCongruent (2 ^ W) (pos (signed_by W (bias_of W t) p
      (signed_by W (bias_of W t) p p % divisor_of W (bias_of W t) q))) (int_rem (value_of t p) (value_of t q))
  left_over t p q n l r e =
      let v = value_of t p in
      let w = value_of t q in
      let z = unsigned_abs v % unsigned_abs w in
      let is = ap₂ (λ a d. signed_by W (bias_of W t) p (a % d)) (magnitude t p n l) (divisor_is t q n r e) in
      let small : z < 2 ^ W = omega (
        arith,
        mod-le (unsigned_abs v) (unsigned_abs w),
        magnitude t p n l,
        signed-lt
            (bias_of W t) p p (lane-lt t p l),
      ) in
      subst₂ (λ a c. IsCongruent (2 ^ W) (pos a) c) (sym is) (rem_signed v w) (signed_congruent t p z n l (omega arith))

  -- one choice made by two tests that agree
  chosen : (a b : Bool) (x x' : ℕ) (z z' : ℤ) → a ≡ b → (b ≡ true → IsCongruent (2 ^ W) (pos x) z) →
      (b ≡ false → IsCongruent (2 ^ W) (pos x') z') → IsCongruent (2 ^ W) (pos (cond a x x')) (cond b z z')
  chosen true true x x' z z' e f g = f refl
  chosen false false x x' z z' e f g = g refl
  chosen true false x x' z z' e f g = absurd (true≢false e)
  chosen false true x x' z z' e f g = absurd (true≢false (sym e))

  quotient_congruent : (t : IntType) (p q : ℕ) → FitsLane W t → IsLane W t p → IsLane W t q →
      IsCongruent (2 ^ W) (pos (quotient_lane W (bias_of W t) p q)) (quotient_of (value_of t p) (value_of t q))
  quotient_congruent t p q n l r = chosen _ _ 0 _ (pos 0) _ (zero_lane t q r) (λ e. congruent_refl (2 ^ W) (pos 0))
      (λ e. divided t p q n l r e)

  rest_congruent : (t : IntType) (p q : ℕ) → FitsLane W t → IsLane W t p → IsLane W t q →
      IsCongruent (2 ^ W) (pos (rest_lane W (bias_of W t) p q)) (rest_of (value_of t p) (value_of t q))
  rest_congruent t p q n l r = chosen _ _ p _ (value_of t p) _ (zero_lane t q r) (λ e. lane_congruent t p l)
      (λ e. left_over t p q n l r e)

  chosen-lt : (b : Bool) (x y : ℕ) → x < 2 ^ W → y < 2 ^ W → cond b x y < 2 ^ W
  chosen-lt true x y h k = h
  chosen-lt false x y h k = k

  chosen_small : (b : Bool) (x y : ℕ) → x ≤ 1 → y ≤ 1 → (neg_ℤ (pos 2) ≤ℤ cond b (pos x) (pos y)) ×
      (cond b (pos x) (pos y) ≤ℤ pos 2)
  chosen_small true x y h k = (omega (arith, ints), omega (arith, ints))
  chosen_small false x y h k = (omega (arith, ints), omega (arith, ints))

  pub lane_div : (t : IntType) → FitsLane W t → (p q : ℕ) → IsLane W t p → IsLane W t q →
      value_of t (quotient_lane W (bias_of W t) p q) ≡ binary_value Div t p q
  lane_div t n p q l r =
      let bias = bias_of W t in
      let size = signed_by W bias p p in
      let few : size / divisor_of W bias q < 2 ^ W =
      omega (arith, div-le_self size (divisor_of W bias q), signed-lt bias p p (lane-lt t p l)) in
      K.lane_by W H twice high big most Div t (quotient_lane W bias p q) p q refl n l r
      (chosen-lt _ 0 _ some_lane (signed-lt bias q _ (signed-lt bias p _ few)))
      (quotient_congruent t p q n l r)
      (λ x y u v. chosen_small (int_eq (pos y) (pos 0)) 0 (x / y) (omega arith) (omega (arith, div-le_self x y)))

  pub lane_rem : (t : IntType) → FitsLane W t → (p q : ℕ) → IsLane W t p → IsLane W t q →
      value_of t (rest_lane W (bias_of W t) p q) ≡ binary_value Rem t p q
  lane_rem t n p q l r =
      let bias = bias_of W t in
      let size = signed_by W bias p p in
      let few : size % divisor_of W bias q < 2 ^ W =
      omega (arith, mod-le size (divisor_of W bias q), signed-lt bias p p (lane-lt t p l)) in
      K.lane_by W H twice high big most Rem t (rest_lane W bias p q) p q refl n l r
      (chosen-lt _ p _ (lane-lt t p l) (signed-lt bias p _ few))
      (rest_congruent t p q n l r)
      (λ x y u v. chosen_small (int_eq (pos y) (pos 0)) x (x % y) u (omega (arith, mod-le x y)))

-- ---- numbers without a sign

never_below : (x : ℕ) → nat_lt x 0 ≡ false
never_below x = by (nat_lt x 0) refl
  where
    by : (b : Bool) → nat_lt x 0 ≡ b → nat_lt x 0 ≡ false
    by true e = let h = ltb-true x 0 e in absurd (omega arith)
    by false e = e

pub not_zero : (q : ℕ) → 0 < q → nat_eq q 0 ≡ false
not_zero q h = by (nat_eq q 0) refl
  where
    by : (b : Bool) → nat_eq q 0 ≡ b → nat_eq q 0 ≡ false
    by true e = let z = eqb-true q 0 e in absurd (omega arith)
    by false e = e

pub plain : (W s x : ℕ) → signed_by W 0 s x ≡ x
plain W s x = ap (λ t. cond t ((0 + (2 ^ W - x)) % 2 ^ W) x) (never_below (raised W 0 s))

pub plain_divisor : (W q : ℕ) → 0 < q → divisor_of W 0 q ≡ q
plain_divisor W q h = ap (λ y. cond (nat_eq y 0) 1 y) (plain W q q) ∙ ap (λ t. cond t 1 q) (not_zero q h)

pub plain_quotient : (W p q : ℕ) → 0 < q → p / q ≡ quotient_lane W 0 p q
plain_quotient W p q h =
    let size = signed_by W 0 p p / divisor_of W 0 q in
    sym (ap (λ t. cond t 0 (signed_by W 0 q (signed_by W 0 p size))) (not_zero q h) ∙
    plain W q (signed_by W 0 p size) ∙ plain W p size ∙ ap₂ (λ x y. x / y) (plain W p p) (plain_divisor W q h))
