-- Lanes from one width to the other.
use Rattle.std.proofs.Common.{◌≡◌, ℕ, ◌+◌, ◌-◌, ◌%◌, ◌^◌, refl, sym, ap, subst, ◌∙◌, arith, Bool, true, false, cond}
use Rattle.std.proofs.Common.{◌<◌, mod-lt, not, nat_eq, eqb-true, eq-eqb, true≢false}
use Rattle.std.proofs.Common.{ℤ, pos}
use Rattle.std.proofs.lemmas.Int.{ints}
use Rattle.std.specs.Int.{from_bool}
use Rattle.wg_num.specs.declared.types.IntType.{IntType}
use Rattle.wg_num.specs.declared.types.IntType.TheVariants.{Bool as BoolType, Char, Uchar, Short, Ushort, Int, Uint}
use Rattle.wg_num.specs.declared.types.IntType.TheVariants.{Long, Ulong}
use Rattle.wg_num.specs.Wrap.{IsCongruent, residue, truth_of, wrap_of, value_of, modulus, is_bool, width_bits}
use Rattle.wg_num.proofs.WrapLaws.{residue_congruent, residue_unique, congruent_sym, congruent_trans}
use Rattle.wg_num.proofs.WrapLaws.{congruent_divides, wrap_congruent}
use Rattle.lane_values.specs.Lanes.{FitsLane, IsLane, lane, extended, convert_lane}
use Rattle.lane_kernels.specs.Vectors.{bias_of, raised}
use Rattle.lane_kernels.proofs.LaneLaws as K

wide_whole : (t : IntType) → width_bits t ≡ 64 → is_bool t ≡ false
wide_whole BoolType h = absurd (omega arith)
wide_whole Char h = refl
wide_whole Uchar h = refl
wide_whole Short h = refl
wide_whole Ushort h = refl
wide_whole Int h = refl
wide_whole Uint h = refl
wide_whole Long h = refl
wide_whole Ulong h = refl

wide_modulus : (t : IntType) → width_bits t ≡ 64 → modulus t ≡ 2 ^ 64
unfolding modulus
wide_modulus t h = ap (λ w. 2 ^ w) h

pub wrap_wide : (t : IntType) (z : ℤ) → width_bits t ≡ 64 → IsCongruent (2 ^ 64) (wrap_of t z) z
wrap_wide t z h = subst (λ m. IsCongruent m (wrap_of t z) z) (wide_modulus t h) (wrap_congruent t z (wide_whole t h))

pub lane_widen : (to from : IntType) → width_bits to ≡ 64 → FitsLane 32 from → (p : ℕ) → IsLane 32 from p
    → (raised 32 (bias_of 32 from) p + (2 ^ 64 - bias_of 32 from)) % 2 ^ 64 ≡ convert_lane 64 to from p
unfolding lane
lane_widen to from w n p l =
    let b = bias_of 32 from in
    let x = raised 32 b p in
    let v = value_of from p in
    let top = K.lane_range 32 (2 ^ 31) refl refl (omega arith) (omega arith) from n in
    let e = K.raise_is 32 (2 ^ 31) refl refl (omega arith) (omega arith) from p n l in
    sym (residue_unique ((x + (2 ^ 64 - b)) % 2 ^ 64) (wrap_of to v) (2 ^ 64) (mod-lt _ (omega arith))
    (congruent_trans (residue_congruent (pos (x + (2 ^ 64 - b))) (2 ^ 64) (omega arith))
    (congruent_trans (record { more = 0; less = 1; same = omega (arith, ints, e, top.2) })
    (congruent_sym (wrap_wide to v w)))))

truth_wide : (t : IntType) (p : ℕ) → IsLane 64 t p →
    truth_of (pos (from_bool (not (nat_eq p 0)))) ≡ truth_of (value_of t p)
unfolding lane
truth_wide t p l = by (nat_eq p 0) refl
  where
    by : (b : Bool) → nat_eq p 0 ≡ b → truth_of (pos (from_bool (not (nat_eq p 0)))) ≡ truth_of (value_of t p)
    by true e = ap (λ b. truth_of (pos (from_bool (not b)))) e ∙
        ap truth_of (sym (ap (value_of t) (eqb-true p 0 e) ∙
        K.value_of_zero 64 (2 ^ 63) refl refl (omega arith) (omega arith) t))
    by false e = ap (λ b. truth_of (pos (from_bool (not b)))) e
        ∙ sym (K.truth_nonzero 64 (2 ^ 63) refl refl (omega arith) (omega arith) (value_of t p)
        (λ z. true≢false (sym (eq-eqb p 0 (sym l.same ∙ ap (λ x. residue x (2 ^ 64)) z)) ∙ e)))

pub lane_narrow : (to from : IntType) → FitsLane 32 to → (p : ℕ) → IsLane 64 from p
    → extended 32 to (cond (is_bool to) (from_bool (not (nat_eq p 0))) (p % 2 ^ 32)) ≡ convert_lane 32 to from p
lane_narrow to from n p l = by (is_bool to) refl
  where
    by : (b : Bool) → is_bool to ≡ b →
        extended 32 to (cond (is_bool to) (from_bool (not (nat_eq p 0))) (p % 2 ^ 32)) ≡ convert_lane 32 to from p
    by true e = ap (λ b. extended 32 to (cond b (from_bool (not (nat_eq p 0))) (p % 2 ^ 32))) e
        ∙ ap (lane 32) (K.stands 32 (2 ^ 31) refl refl (omega arith) (omega arith) to (from_bool (not (nat_eq p 0)))
        (value_of from p) n (λ f. absurd (true≢false (sym e ∙ f))) (λ f. truth_wide from p l))
    by false e = ap (λ b. extended 32 to (cond b (from_bool (not (nat_eq p 0))) (p % 2 ^ 32))) e
        ∙ ap (lane 32) (K.stands 32 (2 ^ 31) refl refl (omega arith) (omega arith) to (p % 2 ^ 32) (value_of from p) n
        (λ f. congruent_trans (K.mod_congruent 32 (2 ^ 31) refl refl (omega arith) (omega arith) p)
        (congruent_divides (2 ^ 32) (2 ^ 32) refl (K.lane_congruent 64 (2 ^ 63) refl refl (omega arith)
        (omega arith) from p l)))
        (λ f. absurd (true≢false (sym f ∙ e))))

-- the same on lanes that hold any bits, which are extended first
pub widen_extended : (to from : IntType) → width_bits to ≡ 64 → FitsLane 32 from → (p : ℕ)
    → (raised 32 (bias_of 32 from) (extended 32 from p) + (2 ^ 64 - bias_of 32 from)) % 2 ^ 64 ≡
    convert_lane 64 to from p
widen_extended to from w n p =
    lane_widen to from w n (extended 32 from p) (K.IsLane-extended 32 (2 ^ 31) refl refl (omega arith) (omega arith)
    from p n)
    ∙ ap (λ v. lane 64 (wrap_of to v)) (K.value-extended 32 (2 ^ 31) refl refl (omega arith) (omega arith) from p n)

-- with no bias a lane, extended, is that of the wide type
pub widen_plain : (to from : IntType) → width_bits to ≡ 64 → FitsLane 32 from → bias_of 32 from ≡ 0 → (p : ℕ)
    → extended 32 from p ≡ convert_lane 64 to from p
widen_plain to from w n none p =
    same (extended 32 from p) (K.lane_bound 32 (2 ^ 31) refl refl (omega arith) (omega arith) (value_of from p))
    ∙ ap (λ b. (raised 32 b (extended 32 from p) + (2 ^ 64 - b)) % 2 ^ 64) (sym none)
    ∙ widen_extended to from w n p
  where
    same : (x : ℕ) → x < 2 ^ 32 → x ≡ (raised 32 0 x + (2 ^ 64 - 0)) % 2 ^ 64
    same x h = omega arith

pub narrow_extended : (to from : IntType) → FitsLane 32 to → FitsLane 64 from → (p : ℕ)
    → extended 32 to (cond (is_bool to) (from_bool (not (nat_eq (extended 64 from p) 0))) (extended 64 from p % 2 ^
    32)) ≡ convert_lane 32 to from p
narrow_extended to from n m p =
    lane_narrow to from n (extended 64 from p) (K.IsLane-extended 64 (2 ^ 63) refl refl (omega arith) (omega arith)
    from p m)
    ∙ ap (λ v. lane 32 (wrap_of to v)) (K.value-extended 64 (2 ^ 63) refl refl (omega arith) (omega arith) from p m)
