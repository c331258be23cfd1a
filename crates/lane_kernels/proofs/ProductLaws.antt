-- The high halves of products.
use Rattle.std.proofs.Common.{◌≡◌, ℕ, suc, ◌-◌, ◌*◌, ◌%◌, ◌^◌, ◌<◌, ◌≤◌, refl, sym, ap, ap₂, subst}
use Rattle.std.proofs.Common.{◌∙◌, arith, mod-eq_of_lt, mul-le-mul, Bool, true, false, cond}
use Rattle.std.proofs.Common.{ℤ, pos, negsuc, ◌*ℤ◌, neg_ℤ, ◌≤ℤ◌}
use Rattle.std.proofs.Math.Nat.{div-le_self}
use Rattle.std.proofs.lemmas.Int.{ints}
use Rattle.std.proofs.Common.{List, [], ◌∷◌}
use Rattle.std.specs.Int.{int_shr}
use Rattle.std.specs.Simd.Lanes.{zip2, Each1}
use Rattle.wg_num.specs.declared.types.IntType.{IntType}
use Rattle.wg_num.specs.declared.types.IntType.TheVariants.{Bool as BoolType, Char, Uchar, Short, Ushort, Int, Uint}
use Rattle.wg_num.specs.declared.types.IntType.TheVariants.{Long, Ulong}
use Rattle.wg_num.specs.declared.types.Bin.TheVariants.{Mul, Shr}
use Rattle.wg_num.specs.declared.types.Fun.TheVariants.{MulHi}
use Rattle.wg_num.specs.Wrap.{IsValue, value_of, wrap_of, half, modulus, is_bool, is_signed, truth_of, width_bits}
use Rattle.wg_num.specs.Operators.{binary_of}
use Rattle.wg_num.specs.Builtins.{builtin_of}
use Rattle.wg_num.proofs.WrapLaws.{IsValue-value, IsValue-wrap, value_bool, wrap_value}
use Rattle.lane_values.specs.Lanes.{FitsLane, IsLane, binary_lane, binary_value, convert_lane, extended, lane}
use Rattle.lane_values.specs.Lanes.{right_value}
use Rattle.lane_kernels.specs.Vectors.{pair_lane, wide_of}
use Rattle.lane_kernels.proofs.LaneLaws as K

-- ---- products of values of at most 32 bits

signed_product : (v w : ℤ) (k : ℕ) → neg_ℤ (pos k) ≤ℤ v → v ≤ℤ pos k → neg_ℤ (pos k) ≤ℤ w → w ≤ℤ pos k
    → (neg_ℤ (pos (k * k)) ≤ℤ (v *ℤ w)) × ((v *ℤ w) ≤ℤ pos (k * k))
signed_product (pos a) (pos b) k i j l m =
    let h : a * b ≤ k * k = mul-le-mul (omega (arith, ints)) (omega (arith, ints)) in
    (omega (arith, ints, h), omega (arith, ints, h))
signed_product (pos a) (negsuc b) k i j l m =
    let h : a * suc b ≤ k * k = mul-le-mul (omega (arith, ints)) (omega (arith, ints)) in
    (omega (arith, ints, h), omega (arith, ints, h))
signed_product (negsuc a) (pos b) k i j l m =
    let h : suc a * b ≤ k * k = mul-le-mul (omega (arith, ints)) (omega (arith, ints)) in
    (omega (arith, ints, h), omega (arith, ints, h))
signed_product (negsuc a) (negsuc b) k i j l m =
    let h : suc a * suc b ≤ k * k = mul-le-mul (omega (arith, ints)) (omega (arith, ints)) in
    (omega (arith, ints, h), omega (arith, ints, h))

plain_product : (v w : ℤ) (k : ℕ) → pos 0 ≤ℤ v → v ≤ℤ pos k → pos 0 ≤ℤ w → w ≤ℤ pos k
    → (pos 0 ≤ℤ (v *ℤ w)) × ((v *ℤ w) ≤ℤ pos (k * k))
plain_product (pos a) (pos b) k i j l m =
    let h : a * b ≤ k * k = mul-le-mul (omega (arith, ints)) (omega (arith, ints)) in
    (omega (arith, ints, h), omega (arith, ints, h))
plain_product (pos a) (negsuc b) k i j l m = absurd (omega (arith, ints))
plain_product (negsuc a) w k i j l m = absurd (omega (arith, ints))

pub wide_width : (t : IntType) → width_bits (wide_of t) ≡ 64
wide_width t = by (is_signed t)
  where
    by : (b : Bool) → width_bits (cond b Long Ulong) ≡ 64
    by true = refl
    by false = refl

narrow_range : (t : IntType) (v : ℤ) → width_bits t ≤ 32 → IsValue t v
    → (is_signed t ≡ true → (neg_ℤ (pos (2 ^ 31)) ≤ℤ v) × (v ≤ℤ pos (2 ^ 31)))
    × (is_signed t ≡ false → (pos 0 ≤ℤ v) × (v ≤ℤ pos (2 ^ 32 - 1)))
unfolding half modulus
narrow_range BoolType v n i = (λ e. cc, λ e. (omega (arith, ints, i.low), omega (arith, ints, i.high)))
narrow_range Char v n i = (λ e. (omega (arith, ints, i.low), omega (arith, ints, i.high)), λ e. cc)
narrow_range Uchar v n i = (λ e. cc, λ e. (omega (arith, ints, i.low), omega (arith, ints, i.high)))
narrow_range Short v n i = (λ e. (omega (arith, ints, i.low), omega (arith, ints, i.high)), λ e. cc)
narrow_range Ushort v n i = (λ e. cc, λ e. (omega (arith, ints, i.low), omega (arith, ints, i.high)))
narrow_range Int v n i = (λ e. (omega (arith, ints, i.low), omega (arith, ints, i.high)), λ e. cc)
narrow_range Uint v n i = (λ e. cc, λ e. (omega (arith, ints, i.low), omega (arith, ints, i.high)))
narrow_range Long v n i = absurd (omega arith)
narrow_range Ulong v n i = absurd (omega arith)

long_value : (z : ℤ) → neg_ℤ (pos (2 ^ 62)) ≤ℤ z → z ≤ℤ pos (2 ^ 62) → IsValue Long z
unfolding half modulus
long_value z h k = record { low = omega (arith, ints, h); high = omega (arith, ints, k) }

ulong_value : (z : ℤ) → pos 0 ≤ℤ z → z ≤ℤ pos (2 ^ 64 - 1) → IsValue Ulong z
unfolding half modulus
ulong_value z h k = record { low = omega (arith, ints, h); high = omega (arith, ints, k) }

wide_value : (t : IntType) (v : ℤ) → width_bits t ≤ 32 → IsValue t v → IsValue (wide_of t) v
wide_value t v n i = by (is_signed t) refl
  where
    by : (b : Bool) → is_signed t ≡ b → IsValue (wide_of t) v
    by true e = let r = (narrow_range t v n i).0 e in
        subst (λ b. IsValue (cond b Long Ulong) v) (sym e) (long_value v (omega (arith, ints, r.0))
        (omega (arith, ints, r.1)))
    by false e = let r = (narrow_range t v n i).1 e in
        subst (λ b. IsValue (cond b Long Ulong) v) (sym e) (ulong_value v (omega (arith, ints, r.0))
        (omega (arith, ints, r.1)))

wide_product : (t : IntType) (v w : ℤ) → width_bits t ≤ 32 → IsValue t v → IsValue t w → IsValue (wide_of t) (v *ℤ w)
wide_product t v w n i j = by (is_signed t) refl
  where
    by : (b : Bool) → is_signed t ≡ b → IsValue (wide_of t) (v *ℤ w)
    by true e =
        let r = (narrow_range t v n i).0 e in
        let s = (narrow_range t w n j).0 e in
        let p = signed_product v w (2 ^ 31) r.0 r.1 s.0 s.1 in
        subst (λ b. IsValue (cond b Long Ulong) (v *ℤ w)) (sym e) (long_value (v *ℤ w) p.0 p.1)
    by false e =
        let r = (narrow_range t v n i).1 e in
        let s = (narrow_range t w n j).1 e in
        let p = plain_product v w (2 ^ 32 - 1) r.0 r.1 s.0 s.1 in
        subst (λ b. IsValue (cond b Long Ulong) (v *ℤ w)) (sym e) (ulong_value (v *ℤ w) p.0 (omega (arith, ints, p.1)))

-- a number shifted right is nearer to 0
shifted_value : (t : IntType) (z : ℤ) (k : ℕ) → IsValue t z → IsValue t (int_shr z k)
shifted_value t (pos a) k i =
    let h = div-le_self a (2 ^ k) in
    let o = K.value_of_zero 64 (2 ^ 63) refl refl (omega arith) (omega arith) t in
    let j = subst (IsValue t) o (IsValue-value t 0) in
    record { low = omega (arith, ints, j.low); high = omega (arith, ints, i.high, h) }
shifted_value t (negsuc a) k i =
    let h = div-le_self a (2 ^ k) in
    let o = K.value_of_zero 64 (2 ^ 63) refl refl (omega arith) (omega arith) t in
    let j = subst (IsValue t) o (IsValue-value t 0) in
    record { low = omega (arith, ints, i.low, h); high = omega (arith, ints, j.high) }

wide_fits : (t : IntType) → FitsLane 64 (wide_of t)
wide_fits t = omega (arith, wide_width t)

wide_back : (t : IntType) (z : ℤ) → IsValue (wide_of t) z → value_of (wide_of t) (lane 64 z) ≡ z
wide_back t z i = K.lane_back 64 (2 ^ 63) refl refl (omega arith) (omega arith) (wide_of t) z (wide_fits t) i

-- the lane of a number has the value that the number wraps to
lane_wraps : (t : IntType) (z : ℤ) → FitsLane 64 t → (is_bool t ≡ true → (pos 0 ≤ℤ z) × (z ≤ℤ pos 1))
    → value_of t (lane 64 z) ≡ wrap_of t z
lane_wraps t z n h = K.stands 64 (2 ^ 63) refl refl (omega arith) (omega arith) t (lane 64 z) z n
    (λ e. K.lane_is 64 (2 ^ 63) refl refl (omega arith) (omega arith) z)
    (λ e. let b = h e in ap truth_of (K.small_same 64 (2 ^ 63) refl refl (omega arith) (omega arith) (lane 64 z) z
    (K.lane_bound 64 (2 ^ 63) refl refl (omega arith) (omega arith) z)
    (K.lane_is 64 (2 ^ 63) refl refl (omega arith) (omega arith) z) b.0 b.1))

-- of bools the high half is small
high_bool : (t : IntType) (v w : ℤ) (k : ℕ) → IsValue t v → IsValue t w → is_bool t ≡ true →
    (pos 0 ≤ℤ int_shr (v *ℤ w) k) × (int_shr (v *ℤ w) k ≤ℤ pos 1)
high_bool t v w k i j e =
    let a = value_bool t v e i in
    let b = value_bool t w e j in
    let p = plain_product v w 1 a.0 a.1 b.0 b.1 in
    K.shr_small 64 (2 ^ 63) refl refl (omega arith) (omega arith) (v *ℤ w) (2 ^ k) p.0 p.1

pub IsLane-wide : (t : IntType) (z : ℤ) → IsLane 64 (wide_of t) (lane 64 (wrap_of (wide_of t) z))
IsLane-wide t z = record { same = ap (lane 64) (wide_back t (wrap_of (wide_of t) z) (IsValue-wrap (wide_of t) z)) }

pub IsLane-product : (t : IntType) (p q : ℕ) → IsLane 64 (wide_of t) (binary_lane 64 Mul (wide_of t) p q)
unfolding binary_of
IsLane-product t p q = IsLane-wide t (value_of (wide_of t) p *ℤ right_value Mul (wide_of t) q)

pub each_zip2 : (P : ℕ → Type 0) (f : ℕ → ℕ → ℕ) → ((x y : ℕ) → P (f x y)) → (a b : List ℕ) → Each1 P (zip2 f a b)
each_zip2 P f e [] b = tt
each_zip2 P f e (x ∷ a) [] = tt
each_zip2 P f e (x ∷ a) (y ∷ b) = (e x y, each_zip2 P f e a b)

widened_back : (t : IntType) (p : ℕ) → width_bits t ≤ 32 → value_of (wide_of t) (convert_lane 64 (wide_of t) t p) ≡
    value_of t p
widened_back t p n =
    let i = wide_value t (value_of t p) n (IsValue-value t p) in
    ap (λ z. value_of (wide_of t) (lane 64 z)) (wrap_value (wide_of t) (value_of t p) i) ∙ wide_back t (value_of t p) i

product_is : (t : IntType) (p q : ℕ) → width_bits t ≤ 32
    → binary_value Mul (wide_of t) (convert_lane 64 (wide_of t) t p) (convert_lane 64 (wide_of t) t q) ≡
    (value_of t p *ℤ value_of t q)
unfolding binary_of right_value
product_is t p q n =
    ap₂ (λ v w. wrap_of (wide_of t) (v *ℤ w)) (widened_back t p n) (widened_back t q n) ∙
    wrap_value (wide_of t) _ (wide_product t (value_of t p) (value_of t q) n (IsValue-value t p) (IsValue-value t q))

shifted_is : (t : IntType) (z : ℤ) (k : ℕ) → k < 64 → IsValue (wide_of t) z
    → binary_value Shr (wide_of t) (lane 64 z) k ≡ int_shr z k
unfolding binary_of right_value
shifted_is t z k h i =
    ap₂ (λ v m. wrap_of (wide_of t) (int_shr v m)) (wide_back t z i)
    (ap (λ w. k % w) (wide_width t) ∙ mod-eq_of_lt h)
    ∙ wrap_value (wide_of t) (int_shr z k) (shifted_value (wide_of t) z k i)

pub lane_high : (t : IntType) → FitsLane 32 t → (k : ℕ) → k ≡ width_bits t → (p q : ℕ)
    → convert_lane 32 t (wide_of t) (binary_lane 64 Shr (wide_of t) (binary_lane 64 Mul (wide_of t)
    (convert_lane 64 (wide_of t) t p) (convert_lane 64 (wide_of t) t q)) k) ≡ pair_lane 32 MulHi t p q
unfolding builtin_of
lane_high t n k e p q =
    let v = value_of t p in
    let w = value_of t q in
    let i = wide_product t v w n (IsValue-value t p) (IsValue-value t q) in
    ap (λ z. convert_lane 32 t (wide_of t) (binary_lane 64 Shr (wide_of t) (lane 64 z) k)) (product_is t p q n)
    ∙ ap (λ z. convert_lane 32 t (wide_of t) (lane 64 z)) (shifted_is t (v *ℤ w) k (omega (arith, n)) i)
    ∙ ap (λ z. lane 32 (wrap_of t z)) (wide_back t (int_shr (v *ℤ w) k) (shifted_value (wide_of t) (v *ℤ w) k i))
    ∙ ap (λ k. lane 32 (wrap_of t (int_shr (v *ℤ w) k))) e

-- ---- the same in wide lanes

pub narrow_width : (t : IntType) → ¬ (t ≡ Long) → ¬ (t ≡ Ulong) → width_bits t ≤ 32
narrow_width BoolType a b = omega arith
narrow_width Char a b = omega arith
narrow_width Uchar a b = omega arith
narrow_width Short a b = omega arith
narrow_width Ushort a b = omega arith
narrow_width Int a b = omega arith
narrow_width Uint a b = omega arith
narrow_width Long a b = absurd (a refl)
narrow_width Ulong a b = absurd (b refl)

-- a value of a narrower type is one of the wide type, with the same lane
pub wide_lane : (t : IntType) → width_bits t ≤ 32 → (p : ℕ) → extended 64 t p ≡ convert_lane 64 (wide_of t) t p
wide_lane t n p = ap (lane 64) (sym (wrap_value (wide_of t) (value_of t p)
    (wide_value t (value_of t p) n (IsValue-value t p))))

pub lane_high_wide : (t : IntType) → width_bits t ≤ 32 → (k : ℕ) → k ≡ width_bits t → (p q : ℕ)
    → extended 64 t (binary_lane 64 Shr (wide_of t) (binary_lane 64 Mul (wide_of t)
    (convert_lane 64 (wide_of t) t p) (convert_lane 64 (wide_of t) t q)) k) ≡ pair_lane 64 MulHi t p q
unfolding builtin_of
lane_high_wide t n k e p q =
    let v = value_of t p in
    let w = value_of t q in
    let i = wide_product t v w n (IsValue-value t p) (IsValue-value t q) in
    let z = int_shr (v *ℤ w) k in
    ap (λ z. extended 64 t (binary_lane 64 Shr (wide_of t) (lane 64 z) k)) (product_is t p q n)
    ∙ ap (λ z. extended 64 t (lane 64 z)) (shifted_is t (v *ℤ w) k (omega (arith, n)) i)
    ∙ ap (lane 64) (lane_wraps t z (omega (arith, n)) (high_bool t v w k (IsValue-value t p) (IsValue-value t q)))
    ∙ ap (λ k. lane 64 (wrap_of t (int_shr (v *ℤ w) k))) e
