-- The lane of a value, and that what an operator makes of lanes is the lane of what it makes of the values.
use Rattle.std.proofs.Common.{◌≡◌, ℕ, zero, suc, ◌*◌, ◌%◌, ◌^◌, ◌<◌, ◌≤◌, ℤ, pos, negsuc, refl, sym, ap, ap₂, ◌∙◌}
use Rattle.std.proofs.Common.{arith, cond}
use Rattle.std.specs.Prelude.{nat_eq, ◌*ℤ◌, ◌&&◌, ◌||◌}
use Rattle.std.specs.Prelude.{Bool as Test, true, false}
use Rattle.std.proofs.lemmas.Bool.{true≢false, eqb-true, and_parts}
use Rattle.wg_num.specs.declared.types.IntType.{IntType}
use Rattle.wg_num.specs.declared.types.IntType.TheVariants as types
use Rattle.wg_num.specs.declared.types.Bin.{Bin}
use Rattle.wg_num.specs.declared.types.Bin.TheVariants as bin
use Rattle.wg_num.specs.declared.types.Un.{Un}
use Rattle.wg_num.specs.Types.{same_type}
use Rattle.wg_num.specs.Wrap.{IsValue, IsCongruent, residue, width_bits, modulus, bits_of, value_of, wrap_of}
use Rattle.wg_num.specs.Operators.{is_shift, amount_of, unary_of, binary_of}
use Rattle.wg_num.proofs.WrapLaws.{residue-lt, residue_congruent, residue_unique, congruent_trans, congruent_divides}
use Rattle.wg_num.proofs.WrapLaws.{value-bits, wrap_congruent, wrap_value, congruent_sym}
use Rattle.wg_num.proofs.TypeLaws.{same_type_is}
use Rattle.wg_num.proofs.ByteLaws.{value-low_half}
use Rattle.lane_values.specs.Lanes.{lane, right_value, unary_lane, binary_lane}
use Rattle.cl_model.specs.Values.{is_zero}
use Rattle.lane_code.specs.declared.step.Bank.{Bank}
use Rattle.lane_code.specs.declared.step.Bank.TheVariants.{Narrow, Wide}
use Rattle.lane_code.specs.Fits.{bank_of}
use Rattle.lane_code.specs.Registers.{bits_in}
use Rattle.mask_lower.specs.Banks.{is_wide, crosses, amount_type}
use Rattle.mask_lower.specs.Lowered.{keeps_lane}
use Rattle.kir.proofs.CellTypes.{zero_wraps}

-- how many bits a lane of the type's bank has
abbrev pub bits_for : IntType → ℕ
bits_for t = bits_in (bank_of t)

-- the lane of a value in the bank of a type
abbrev pub lane_in : IntType → ℤ → ℕ
lane_in t z = lane (bits_for t) z

-- ---- banks

pub wide_bank : (t : IntType) → is_wide t ≡ true → bank_of t ≡ Wide
wide_bank types.Long e = refl
wide_bank types.Ulong e = refl
wide_bank types.Bool e = absurd (true≢false (sym e))
wide_bank types.Char e = absurd (true≢false (sym e))
wide_bank types.Uchar e = absurd (true≢false (sym e))
wide_bank types.Short e = absurd (true≢false (sym e))
wide_bank types.Ushort e = absurd (true≢false (sym e))
wide_bank types.Int e = absurd (true≢false (sym e))
wide_bank types.Uint e = absurd (true≢false (sym e))

pub narrow_bank : (t : IntType) → is_wide t ≡ false → bank_of t ≡ Narrow
narrow_bank types.Long e = absurd (true≢false e)
narrow_bank types.Ulong e = absurd (true≢false e)
narrow_bank types.Bool e = refl
narrow_bank types.Char e = refl
narrow_bank types.Uchar e = refl
narrow_bank types.Short e = refl
narrow_bank types.Ushort e = refl
narrow_bank types.Int e = refl
narrow_bank types.Uint e = refl

-- types that do not cross have one bank
pub same_bank : (t u : IntType) → crosses t u ≡ false → bank_of t ≡ bank_of u
same_bank t u e = go (is_wide t) (is_wide u) refl refl e
  where
    go : (a b : Test) → is_wide t ≡ a → is_wide u ≡ b → cond a (Rattle.std.specs.Prelude.not b) b ≡ false →
        bank_of t ≡ bank_of u
    go true true wt wu e = wide_bank t wt ∙ sym (wide_bank u wu)
    go true false wt wu e = absurd (true≢false e)
    go false true wt wu e = absurd (true≢false e)
    go false false wt wu e = narrow_bank t wt ∙ sym (narrow_bank u wu)

-- an amount that crosses is brought into the operator's bank
pub amount_bank : (of : IntType) → bank_of (amount_type of) ≡ bank_of of
amount_bank types.Bool = refl
amount_bank types.Char = refl
amount_bank types.Uchar = refl
amount_bank types.Short = refl
amount_bank types.Ushort = refl
amount_bank types.Int = refl
amount_bank types.Uint = refl
amount_bank types.Long = refl
amount_bank types.Ulong = refl

-- ---- the lane of a value

pub lane_64 : (z : ℤ) → lane 64 z ≡ bits_of z
unfolding lane bits_of
lane_64 z = refl

pub lane_32 : (z : ℤ) → lane 32 z ≡ bits_of z % 2 ^ 32
unfolding lane bits_of
lane_32 z =
    residue_unique (residue z (2 ^ 64) % 2 ^ 32) z (2 ^ 32) (residue-lt (pos (residue z (2 ^ 64))) (2 ^ 32)
    (omega arith))
    (congruent_trans (residue_congruent (pos (residue z (2 ^ 64))) (2 ^ 32) (omega arith))
    (congruent_divides (2 ^ 32) (2 ^ 32) refl (residue_congruent z (2 ^ 64) (omega arith))))

-- a value is read back from its lane
narrow_back : (t : IntType) (z : ℤ) → width_bits t ≤ 32 → IsValue t z → value_of t (lane 32 z) ≡ z
narrow_back t z h v = ap (value_of t) (lane_32 z) ∙ value-low_half t z h v

wide_back : (t : IntType) (z : ℤ) → IsValue t z → value_of t (lane 64 z) ≡ z
wide_back t z v = ap (value_of t) (lane_64 z) ∙ value-bits t z v

pub value_lane : (t : IntType) (z : ℤ) → IsValue t z → value_of t (lane_in t z) ≡ z
value_lane types.Bool z v = narrow_back types.Bool z (omega arith) v
value_lane types.Char z v = narrow_back types.Char z (omega arith) v
value_lane types.Uchar z v = narrow_back types.Uchar z (omega arith) v
value_lane types.Short z v = narrow_back types.Short z (omega arith) v
value_lane types.Ushort z v = narrow_back types.Ushort z (omega arith) v
value_lane types.Int z v = narrow_back types.Int z (omega arith) v
value_lane types.Uint z v = narrow_back types.Uint z (omega arith) v
value_lane types.Long z v = wide_back types.Long z v
value_lane types.Ulong z v = wide_back types.Ulong z v

value_zero : (t : IntType) → value_of t 0 ≡ pos 0
unfolding value_of
value_zero t = zero_wraps t

residue_zero : (m : ℕ) → 0 % m ≡ 0
residue_zero m = grind arith

pub zero_bits : (w : ℕ) → lane w (pos 0) ≡ 0
unfolding lane
zero_bits w = residue_zero (2 ^ w)

-- a lane is 0 where the value is
pub zero_lane : (t : IntType) (z : ℤ) → IsValue t z → nat_eq (lane_in t z) 0 ≡ is_zero z
zero_lane t z v = go (nat_eq (lane_in t z) 0) refl (is_zero z) refl
  where
    zero_is : (x : ℤ) → is_zero x ≡ true → x ≡ pos 0
    zero_is (pos zero) e = refl
    zero_is (pos (suc n)) e = absurd (true≢false (sym e))
    zero_is (negsuc n) e = absurd (true≢false (sym e))

    go : (a : Test) → nat_eq (lane_in t z) 0 ≡ a → (b : Test) → is_zero z ≡ b → nat_eq (lane_in t z) 0 ≡ b
    go true e true f = e
    go false e false f = e
    go true e false f =
        let is : z ≡ pos 0 = sym (value_lane t z v) ∙ ap (value_of t) (eqb-true (lane_in t z) 0 e) ∙ value_zero t in
        absurd (true≢false (sym (ap is_zero is) ∙ f))
    go false e true f =
        let is : lane_in t z ≡ 0 = ap (lane_in t) (zero_is z f) ∙ zero_bits (bits_for t) in
        absurd (true≢false (sym (ap (λ n. nat_eq n 0) is) ∙ e))

-- ---- operators

pub unary_is : (op : Un) (t : IntType) (a : ℤ) → IsValue t a →
    unary_lane (bits_for t) op t (lane_in t a) ≡ lane_in t (unary_of op t a)
unary_is op t a v = ap (λ x. lane (bits_for t) (unary_of op t x)) (value_lane t a v)

pub right_plain : (op : Bin) (t : IntType) (q : ℕ) → is_shift op ≡ false → right_value op t q ≡ value_of t q
unfolding right_value
right_plain op t q e = ap (λ b. cond b (pos q) (value_of t q)) e

pub right_raw : (op : Bin) (t : IntType) (q : ℕ) → is_shift op ≡ true → right_value op t q ≡ pos q
unfolding right_value
right_raw op t q e = ap (λ b. cond b (pos q) (value_of t q)) e

pub binary_is : (op : Bin) (t : IntType) (a b : ℤ) → is_shift op ≡ false → IsValue t a → IsValue t b →
    binary_lane (bits_for t) op t (lane_in t a) (lane_in t b) ≡ lane_in t (binary_of op t a b)
binary_is op t a b e va vb =
    ap₂ (λ x y. lane (bits_for t) (binary_of op t x y)) (value_lane t a va) (right_plain op t (lane_in t b) e ∙
    value_lane t b vb)

-- only the low bits of an amount are read
pub binary_amount : (op : Bin) (t : IntType) (a b b' : ℤ) → is_shift op ≡ true → amount_of t b ≡ amount_of t b' →
    binary_of op t a b ≡ binary_of op t a b'
unfolding binary_of
binary_amount bin.Shl t a b b' e same = ap (λ n. wrap_of t (a *ℤ pos (2 ^ n))) same
binary_amount bin.Shr t a b b' e same = ap (λ n. wrap_of t (Rattle.std.specs.Int.int_shr a n)) same
binary_amount bin.Add t a b b' e same = absurd (true≢false (sym e))
binary_amount bin.Sub t a b b' e same = absurd (true≢false (sym e))
binary_amount bin.Mul t a b b' e same = absurd (true≢false (sym e))
binary_amount bin.Div t a b b' e same = absurd (true≢false (sym e))
binary_amount bin.Rem t a b b' e same = absurd (true≢false (sym e))
binary_amount bin.And t a b b' e same = absurd (true≢false (sym e))
binary_amount bin.Or t a b b' e same = absurd (true≢false (sym e))
binary_amount bin.Xor t a b b' e same = absurd (true≢false (sym e))
binary_amount bin.Eq t a b b' e same = absurd (true≢false (sym e))
binary_amount bin.Ne t a b b' e same = absurd (true≢false (sym e))
binary_amount bin.Lt t a b b' e same = absurd (true≢false (sym e))
binary_amount bin.Le t a b b' e same = absurd (true≢false (sym e))
binary_amount bin.Gt t a b b' e same = absurd (true≢false (sym e))
binary_amount bin.Ge t a b b' e same = absurd (true≢false (sym e))

-- congruent numbers have one remainder by a divisor
residue_same : (w m q : ℕ) (a b : ℤ) → 0 < w → m ≡ q * w → IsCongruent m a b → residue b w ≡ residue a w
residue_same w m q a b some e c =
    residue_unique (residue a w) b w (residue-lt a w some)
    (congruent_trans (residue_congruent a w some) (congruent_divides w q e c))

-- the width of a type divides each two to the bits of a bank
width_in : (t : IntType) → (0 < width_bits t) × ((q : ℕ) × (2 ^ 32 ≡ q * width_bits t)) ×
    ((q : ℕ) × (2 ^ 64 ≡ q * width_bits t))
width_in types.Bool = (omega arith, (2 ^ 29, refl), (2 ^ 61, refl))
width_in types.Char = (omega arith, (2 ^ 29, refl), (2 ^ 61, refl))
width_in types.Uchar = (omega arith, (2 ^ 29, refl), (2 ^ 61, refl))
width_in types.Short = (omega arith, (2 ^ 28, refl), (2 ^ 60, refl))
width_in types.Ushort = (omega arith, (2 ^ 28, refl), (2 ^ 60, refl))
width_in types.Int = (omega arith, (2 ^ 27, refl), (2 ^ 59, refl))
width_in types.Uint = (omega arith, (2 ^ 27, refl), (2 ^ 59, refl))
width_in types.Long = (omega arith, (2 ^ 26, refl), (2 ^ 58, refl))
width_in types.Ulong = (omega arith, (2 ^ 26, refl), (2 ^ 58, refl))

lane_congruent : (w : ℕ) (b : ℤ) → 0 < 2 ^ w → IsCongruent (2 ^ w) (pos (lane w b)) b
unfolding lane
lane_congruent w b some = residue_congruent b (2 ^ w) some

-- an amount's lane in either bank shifts as far
pub amount_lane : (t : IntType) (bank : Bank) (b : ℤ) → Rattle.mask_lower_correct.specs.View.is_lane bank ≡ true →
    amount_of t (pos (lane (bits_in bank) b)) ≡ amount_of t b
amount_lane t Narrow b e = let w = width_in t in
    sym (residue_same (width_bits t) (2 ^ 32) w.1.0 (pos (lane 32 b)) b w.0 w.1.1 (lane_congruent 32 b (omega arith)))
amount_lane t Wide b e = let w = width_in t in
    sym (residue_same (width_bits t) (2 ^ 64) w.2.0 (pos (lane 64 b)) b w.0 w.2.1 (lane_congruent 64 b (omega arith)))
amount_lane t Rattle.lane_code.specs.declared.step.Bank.TheVariants.Mask b e = absurd (true≢false (sym e))
amount_lane t Rattle.lane_code.specs.declared.step.Bank.TheVariants.Scalar b e = absurd (true≢false (sym e))

long_congruent : (v : ℤ) → IsCongruent (2 ^ 64) (wrap_of types.Long v) v
unfolding modulus
long_congruent v = wrap_congruent types.Long v refl

uint_congruent : (v : ℤ) → IsCongruent (2 ^ 32) (wrap_of types.Uint v) v
unfolding modulus
uint_congruent v = wrap_congruent types.Uint v refl

-- an amount that is brought into the operator's bank shifts as far
pub amount_wrap : (of : IntType) (v : ℤ) → amount_of of (wrap_of (amount_type of) v) ≡ amount_of of v
amount_wrap of v = go (is_wide of) refl
  where
    long : IsCongruent (2 ^ 64) (wrap_of types.Long v) v
    long = long_congruent v

    uint : IsCongruent (2 ^ 32) (wrap_of types.Uint v) v
    uint = uint_congruent v

    go : (w : Test) → is_wide of ≡ w → amount_of of (wrap_of (cond w types.Long types.Uint) v) ≡ amount_of of v
    go true e = let w =
        width_in of in sym (residue_same (width_bits of) (2 ^ 64) w.2.0 (wrap_of types.Long v) v w.0 w.2.1 long)
    go false e = let w =
        width_in of in sym (residue_same (width_bits of) (2 ^ 32) w.1.0 (wrap_of types.Uint v) v w.0 w.1.1 uint)

-- ---- conversions that leave lanes as they are

wide_congruent : (t : IntType) (v : ℤ) → is_wide t ≡ true → IsCongruent (2 ^ 64) (wrap_of t v) v
unfolding modulus
wide_congruent types.Long v e = wrap_congruent types.Long v refl
wide_congruent types.Ulong v e = wrap_congruent types.Ulong v refl
wide_congruent types.Bool v e = absurd (true≢false (sym e))
wide_congruent types.Char v e = absurd (true≢false (sym e))
wide_congruent types.Uchar v e = absurd (true≢false (sym e))
wide_congruent types.Short v e = absurd (true≢false (sym e))
wide_congruent types.Ushort v e = absurd (true≢false (sym e))
wide_congruent types.Int v e = absurd (true≢false (sym e))
wide_congruent types.Uint v e = absurd (true≢false (sym e))

wide_lane : (of kind : IntType) (v : ℤ) → is_wide of ≡ true → is_wide kind ≡ true →
    lane_in of v ≡ lane_in kind (wrap_of kind v)
unfolding lane
wide_lane of kind v e f =
    ap (λ b. lane (bits_in b) v) (wide_bank of e) ∙
    sym (residue_unique (residue v (2 ^ 64)) (wrap_of kind v) (2 ^ 64) (residue-lt v (2 ^ 64) (omega arith))
    (congruent_trans (residue_congruent v (2 ^ 64) (omega arith)) (congruent_sym (wide_congruent kind v f)))) ∙
    sym (ap (λ b. lane (bits_in b) (wrap_of kind v)) (wide_bank kind f))

pub kept_lane : (of kind : IntType) (v : ℤ) → IsValue of v → keeps_lane of kind ≡ true →
    lane_in of v ≡ lane_in kind (wrap_of kind v)
kept_lane of kind v is e = by_type (same_type of kind) refl e
  where
    by_type : (b : Test) → same_type of kind ≡ b → (b || (is_wide of && is_wide kind)) ≡ true →
        lane_in of v ≡ lane_in kind (wrap_of kind v)
    by_type true same h =
        ap (lane_in of) (sym (wrap_value of v is)) ∙ ap (λ t. lane_in t (wrap_of t v)) (same_type_is of kind same)
    by_type false same h =
        let p = and_parts (is_wide of) (is_wide kind) h in
        wide_lane of kind v p.0 p.1
