-- What a narrow type gives is what the promoted type gives, wrapped: so a component may be computed as C computes it.
use Rattle.std.proofs.Common.{◌≡◌, ℕ, ◌*◌, ◌^◌, ◌-◌, ◌%◌, ◌<◌, ◌≤◌, ℤ, pos, ◌*ℤ◌, refl, sym, ap, ◌∙◌, subst}
use Rattle.std.proofs.Common.{arith}
use Rattle.std.proofs.lemmas.Int.{ints}
use Rattle.std.specs.Int.{int_shr}
use Rattle.std.specs.Ordering.{int_eq}
use Rattle.std.specs.Prelude.{bit_and, neg_ℤ, int_lt, int_le, not}
use Rattle.std.specs.Prelude.{Bool as Test}
use Rattle.std.proofs.Math.Nat.{mod-eq_of_lt}
use Rattle.std.proofs.Common.{true, false}
use Rattle.std.proofs.lemmas.Bool.{false≢true}
use Rattle.std.proofs.lemmas.Nat.{mod_below, and_mask}
use Rattle.wg_num.specs.declared.types.IntType.{IntType}
use Rattle.wg_num.specs.declared.types.IntType.TheVariants as types
use Rattle.wg_num.specs.declared.types.Un.{Un}
use Rattle.wg_num.specs.declared.types.Un.TheVariants as uns
use Rattle.wg_num.specs.declared.types.Bin.{Bin}
use Rattle.wg_num.specs.declared.types.Bin.TheVariants as bins
use Rattle.wg_num.specs.Wrap.{wrap_of, modulus, is_bool, is_signed, width_bits, bits_of, residue, half, IsValue}
use Rattle.wg_num.specs.Operators.{unary_of, binary_of, unary_exact, binary_exact, is_shift, number_of}
use Rattle.wg_num.proofs.WrapLaws.{IsValue-wrap, wrap_congruent, wrap_unique, congruent_trans, congruent_sym}
use Rattle.wg_num.proofs.WrapLaws.{congruent_divides, congruent_refl, residue_congruent, residue_unique, wrap_value}
use Rattle.cl_model.specs.Valid.{promoted, unary_type, binary_type}
use Rattle.cl_meaning.specs.Conversions.{is_comparison, common}

-- the modulus of a type divides that of its promoted type
pub promoted_divides : (t : IntType) → is_bool t ≡ false → (q : ℕ) × (modulus (promoted t) ≡ q * modulus t)
unfolding modulus
promoted_divides types.Bool e = absurd (false≢true (sym e))
promoted_divides types.Char e = (2 ^ 24, refl)
promoted_divides types.Uchar e = (2 ^ 24, refl)
promoted_divides types.Short e = (2 ^ 16, refl)
promoted_divides types.Ushort e = (2 ^ 16, refl)
promoted_divides types.Int e = (1, refl)
promoted_divides types.Uint e = (1, refl)
promoted_divides types.Long e = (1, refl)
promoted_divides types.Ulong e = (1, refl)

pub promoted_whole : (t : IntType) → is_bool t ≡ false → is_bool (promoted t) ≡ false
promoted_whole types.Bool e = refl
promoted_whole types.Char e = refl
promoted_whole types.Uchar e = refl
promoted_whole types.Short e = refl
promoted_whole types.Ushort e = refl
promoted_whole types.Int e = refl
promoted_whole types.Uint e = refl
promoted_whole types.Long e = refl
promoted_whole types.Ulong e = refl

pub wrap_twice : (t : IntType) (z : ℤ) → is_bool t ≡ false → wrap_of t (wrap_of (promoted t) z) ≡ wrap_of t z
wrap_twice t z e = let d = promoted_divides t e in
    wrap_unique t (wrap_of t z) (wrap_of (promoted t) z) e (IsValue-wrap t z)
    (congruent_trans (wrap_congruent t z e) (congruent_sym (congruent_divides (modulus t) d.0 d.1
    (wrap_congruent (promoted t) z (promoted_whole t e)))))

-- an operator that is no shift, on two components
pub joined_as_promoted : (op : Bin) (t : IntType) (a b : ℤ) → is_bool t ≡ false → is_shift op ≡ false →
    wrap_of t (binary_of op (promoted t) a b) ≡ binary_of op t a b
unfolding binary_of
joined_as_promoted bins.Add t a b e s = wrap_twice t (binary_exact bins.Add t a b) e
joined_as_promoted bins.Sub t a b e s = wrap_twice t (binary_exact bins.Sub t a b) e
joined_as_promoted bins.Mul t a b e s = wrap_twice t (binary_exact bins.Mul t a b) e
joined_as_promoted bins.Div t a b e s = wrap_twice t (binary_exact bins.Div t a b) e
joined_as_promoted bins.Rem t a b e s = wrap_twice t (binary_exact bins.Rem t a b) e
joined_as_promoted bins.Shl t a b e s = absurd (false≢true (sym s))
joined_as_promoted bins.Shr t a b e s = absurd (false≢true (sym s))
joined_as_promoted bins.And t a b e s = wrap_twice t (binary_exact bins.And t a b) e
joined_as_promoted bins.Or t a b e s = wrap_twice t (binary_exact bins.Or t a b) e
joined_as_promoted bins.Xor t a b e s = wrap_twice t (binary_exact bins.Xor t a b) e
joined_as_promoted bins.Eq t a b e s = wrap_twice t (binary_exact bins.Eq t a b) e
joined_as_promoted bins.Ne t a b e s = wrap_twice t (binary_exact bins.Ne t a b) e
joined_as_promoted bins.Lt t a b e s = wrap_twice t (binary_exact bins.Lt t a b) e
joined_as_promoted bins.Le t a b e s = wrap_twice t (binary_exact bins.Le t a b) e
joined_as_promoted bins.Gt t a b e s = wrap_twice t (binary_exact bins.Gt t a b) e
joined_as_promoted bins.Ge t a b e s = wrap_twice t (binary_exact bins.Ge t a b) e

-- an operator in front of a component
pub alone_as_promoted : (op : Un) (t : IntType) (a : ℤ) → is_bool t ≡ false →
    wrap_of t (unary_of op (promoted t) a) ≡ unary_of op t a
unfolding unary_of
alone_as_promoted op t a e = wrap_twice t (unary_exact op a) e

-- ---- shifts: the low bits of an amount

-- the number of bits of a type is a power of two
pub bits_power : (t : IntType) → (k : ℕ) × (width_bits t ≡ 2 ^ k) × (k ≤ 6)
bits_power types.Bool = (3, refl, omega arith)
bits_power types.Char = (3, refl, omega arith)
bits_power types.Uchar = (3, refl, omega arith)
bits_power types.Short = (4, refl, omega arith)
bits_power types.Ushort = (4, refl, omega arith)
bits_power types.Int = (5, refl, omega arith)
bits_power types.Uint = (5, refl, omega arith)
bits_power types.Long = (6, refl, omega arith)
bits_power types.Ulong = (6, refl, omega arith)

-- two to the 64 is a multiple of the bits of a type
bits_divide : (t : IntType) → (q : ℕ) × (2 ^ 64 ≡ q * width_bits t)
bits_divide types.Bool = (2 ^ 61, refl)
bits_divide types.Char = (2 ^ 61, refl)
bits_divide types.Uchar = (2 ^ 61, refl)
bits_divide types.Short = (2 ^ 60, refl)
bits_divide types.Ushort = (2 ^ 60, refl)
bits_divide types.Int = (2 ^ 59, refl)
bits_divide types.Uint = (2 ^ 59, refl)
bits_divide types.Long = (2 ^ 58, refl)
bits_divide types.Ulong = (2 ^ 58, refl)

some_bits : (t : IntType) → 0 < width_bits t
some_bits types.Bool = omega arith
some_bits types.Char = omega arith
some_bits types.Uchar = omega arith
some_bits types.Short = omega arith
some_bits types.Ushort = omega arith
some_bits types.Int = omega arith
some_bits types.Uint = omega arith
some_bits types.Long = omega arith
some_bits types.Ulong = omega arith

-- the low bits of a pattern are those of its number
pub low_bits : (t : IntType) (b : ℤ) → bits_of b % width_bits t ≡ residue b (width_bits t)
unfolding bits_of
low_bits t b = let d = bits_divide t in sym (residue_unique (residue b (2 ^ 64) % width_bits t) b (width_bits t)
    (mod_below (residue b (2 ^ 64)) (width_bits t) (some_bits t))
    (congruent_trans (residue_congruent (pos (residue b (2 ^ 64))) (width_bits t) (some_bits t))
    (congruent_divides (width_bits t) d.0 d.1 (residue_congruent b (2 ^ 64) (omega arith)))))

-- the mask of the low bits
ones : (t : IntType) → bits_of (pos (width_bits t - 1)) ≡ 2 ^ (bits_power t).0 - 1
unfolding bits_of bits_power
ones types.Bool = refl
ones types.Char = refl
ones types.Uchar = refl
ones types.Short = refl
ones types.Ushort = refl
ones types.Int = refl
ones types.Uint = refl
ones types.Long = refl
ones types.Ulong = refl

pub masked : (t : IntType) (b : ℤ) → bit_and (bits_of b) (bits_of (pos (width_bits t - 1))) ≡ residue b (width_bits t)
masked t b = ap (bit_and (bits_of b)) (ones t) ∙ and_mask (bits_of b) (bits_power t).0 ∙
    ap (λ w. bits_of b % w) (sym (bits_power t).1) ∙ low_bits t b

-- an amount is a value of the promoted type
amount_is_value : (t : IntType) (r : ℕ) → is_bool t ≡ false → r < 64 → IsValue (promoted t) (pos r)
unfolding half modulus
amount_is_value types.Bool r e h = absurd (false≢true (sym e))
amount_is_value types.Char r e h = record { low = omega (arith, ints); high = omega (arith, ints) }
amount_is_value types.Uchar r e h = record { low = omega (arith, ints); high = omega (arith, ints) }
amount_is_value types.Short r e h = record { low = omega (arith, ints); high = omega (arith, ints) }
amount_is_value types.Ushort r e h = record { low = omega (arith, ints); high = omega (arith, ints) }
amount_is_value types.Int r e h = record { low = omega (arith, ints); high = omega (arith, ints) }
amount_is_value types.Uint r e h = record { low = omega (arith, ints); high = omega (arith, ints) }
amount_is_value types.Long r e h = record { low = omega (arith, ints); high = omega (arith, ints) }
amount_is_value types.Ulong r e h = record { low = omega (arith, ints); high = omega (arith, ints) }

few_bits : (t : IntType) → is_bool t ≡ false → (width_bits t ≤ 64) × (width_bits t ≤ width_bits (promoted t))
few_bits types.Bool e = absurd (false≢true (sym e))
few_bits types.Char e = (omega arith, omega arith)
few_bits types.Uchar e = (omega arith, omega arith)
few_bits types.Short e = (omega arith, omega arith)
few_bits types.Ushort e = (omega arith, omega arith)
few_bits types.Int e = (omega arith, omega arith)
few_bits types.Uint e = (omega arith, omega arith)
few_bits types.Long e = (omega arith, omega arith)
few_bits types.Ulong e = (omega arith, omega arith)

-- the masked amount, as C computes it
abbrev pub amount : IntType → ℤ → ℤ
amount t b = binary_of bins.And (promoted t) b (pos (width_bits t - 1))

below_bits : (t : IntType) (b : ℤ) → residue b (width_bits t) < width_bits t
below_bits t b = subst (λ r. r < width_bits t) (low_bits t b) (mod_below (bits_of b) (width_bits t) (some_bits t))

pub amount_is : (t : IntType) (b : ℤ) → is_bool t ≡ false → amount t b ≡ pos (residue b (width_bits t))
unfolding binary_of
amount_is t b e = ap (λ n. wrap_of (promoted t) (pos n)) (masked t b) ∙
    wrap_unique (promoted t) (pos (residue b (width_bits t))) (pos (residue b (width_bits t))) (promoted_whole t e)
    (amount_is_value t (residue b (width_bits t)) e (less (residue b (width_bits t)) (width_bits t) (below_bits t b)
    (few_bits t e).0)) (congruent_refl (modulus (promoted t)) (pos (residue b (width_bits t))))
  where
    less : (r w : ℕ) → r < w → w ≤ 64 → r < 64
    less r w a c = omega arith

goes_as_far : (t : IntType) (b : ℤ) → is_bool t ≡ false →
    residue (amount t b) (width_bits (promoted t)) ≡ residue b (width_bits t)
goes_as_far t b e = ap (λ z. residue z (width_bits (promoted t))) (amount_is t b e) ∙
    mod-eq_of_lt (less (residue b (width_bits t)) (width_bits t) (width_bits (promoted t)) (below_bits t b)
    (few_bits t e).1)
  where
    less : (r w v : ℕ) → r < w → w ≤ v → r < v
    less r w v a c = omega arith

-- a shift by a masked amount
pub shifted_as_promoted : (op : Bin) (t : IntType) (a b : ℤ) → is_bool t ≡ false → is_shift op ≡ true →
    wrap_of t (binary_of op (promoted t) a (amount t b)) ≡ binary_of op t a b
unfolding binary_of
shifted_as_promoted bins.Shl t a b e s =
    ap (λ n. wrap_of t (wrap_of (promoted t) (a *ℤ pos (2 ^ n)))) (goes_as_far t b e) ∙
    wrap_twice t (binary_exact bins.Shl t a b) e
shifted_as_promoted bins.Shr t a b e s =
    ap (λ n. wrap_of t (wrap_of (promoted t) (int_shr a n))) (goes_as_far t b e) ∙
    wrap_twice t (binary_exact bins.Shr t a b) e
shifted_as_promoted bins.Add t a b e s = absurd (false≢true s)
shifted_as_promoted bins.Sub t a b e s = absurd (false≢true s)
shifted_as_promoted bins.Mul t a b e s = absurd (false≢true s)
shifted_as_promoted bins.Div t a b e s = absurd (false≢true s)
shifted_as_promoted bins.Rem t a b e s = absurd (false≢true s)
shifted_as_promoted bins.And t a b e s = absurd (false≢true s)
shifted_as_promoted bins.Or t a b e s = absurd (false≢true s)
shifted_as_promoted bins.Xor t a b e s = absurd (false≢true s)
shifted_as_promoted bins.Eq t a b e s = absurd (false≢true s)
shifted_as_promoted bins.Ne t a b e s = absurd (false≢true s)
shifted_as_promoted bins.Lt t a b e s = absurd (false≢true s)
shifted_as_promoted bins.Le t a b e s = absurd (false≢true s)
shifted_as_promoted bins.Gt t a b e s = absurd (false≢true s)
shifted_as_promoted bins.Ge t a b e s = absurd (false≢true s)

-- ---- values and their types

-- a value of a type is one of its promoted type
promoted_value : (t : IntType) (v : ℤ) → is_bool t ≡ false → IsValue t v → IsValue (promoted t) v
unfolding half modulus
promoted_value types.Bool v e h = absurd (false≢true (sym e))
promoted_value types.Char v e h =
    record { low = omega (arith, ints, h.low, h.high); high = omega (arith, ints, h.low, h.high) }
promoted_value types.Uchar v e h =
    record { low = omega (arith, ints, h.low, h.high); high = omega (arith, ints, h.low, h.high) }
promoted_value types.Short v e h =
    record { low = omega (arith, ints, h.low, h.high); high = omega (arith, ints, h.low, h.high) }
promoted_value types.Ushort v e h =
    record { low = omega (arith, ints, h.low, h.high); high = omega (arith, ints, h.low, h.high) }
promoted_value types.Int v e h = h
promoted_value types.Uint v e h = h
promoted_value types.Long v e h = h
promoted_value types.Ulong v e h = h

pub promoted_same : (t : IntType) (v : ℤ) → is_bool t ≡ false → IsValue t v → wrap_of (promoted t) v ≡ v
promoted_same t v e h = wrap_value (promoted t) v (promoted_value t v e h)

-- the common type of a type and itself, and of it and int
pub common_same : (t : IntType) → common t t ≡ promoted t
common_same types.Bool = refl
common_same types.Char = refl
common_same types.Uchar = refl
common_same types.Short = refl
common_same types.Ushort = refl
common_same types.Int = refl
common_same types.Uint = refl
common_same types.Long = refl
common_same types.Ulong = refl

pub common_int : (t : IntType) → common t types.Int ≡ promoted t
common_int types.Bool = refl
common_int types.Char = refl
common_int types.Uchar = refl
common_int types.Short = refl
common_int types.Ushort = refl
common_int types.Int = refl
common_int types.Uint = refl
common_int types.Long = refl
common_int types.Ulong = refl

pub promoted_twice : (t : IntType) → promoted (promoted t) ≡ promoted t
promoted_twice types.Bool = refl
promoted_twice types.Char = refl
promoted_twice types.Uchar = refl
promoted_twice types.Short = refl
promoted_twice types.Ushort = refl
promoted_twice types.Int = refl
promoted_twice types.Uint = refl
promoted_twice types.Long = refl
promoted_twice types.Ulong = refl

-- 0 and 1 are values of each type
pub number_wraps : (t : IntType) (r : Test) → wrap_of t (number_of r) ≡ number_of r
unfolding wrap_of half modulus
number_wraps types.Bool true = refl
number_wraps types.Bool false = refl
number_wraps types.Char true = refl
number_wraps types.Char false = refl
number_wraps types.Uchar true = refl
number_wraps types.Uchar false = refl
number_wraps types.Short true = refl
number_wraps types.Short false = refl
number_wraps types.Ushort true = refl
number_wraps types.Ushort false = refl
number_wraps types.Int true = refl
number_wraps types.Int false = refl
number_wraps types.Uint true = refl
number_wraps types.Uint false = refl
number_wraps types.Long true = refl
number_wraps types.Long false = refl
number_wraps types.Ulong true = refl
number_wraps types.Ulong false = refl

-- what a comparison gives, in each type
abbrev Answers : Bin → ℤ → ℤ → Type 0
Answers op a b = (r : Test) × ((t : IntType) → binary_of op t a b ≡ number_of r)

answers : (op : Bin) (a b : ℤ) → is_comparison op ≡ true → Answers op a b
unfolding binary_of
answers bins.Eq a b e = (int_eq a b, λ t. number_wraps t (int_eq a b))
answers bins.Ne a b e = (not (int_eq a b), λ t. number_wraps t (not (int_eq a b)))
answers bins.Lt a b e = (int_lt a b, λ t. number_wraps t (int_lt a b))
answers bins.Le a b e = (int_le a b, λ t. number_wraps t (int_le a b))
answers bins.Gt a b e = (int_lt b a, λ t. number_wraps t (int_lt b a))
answers bins.Ge a b e = (int_le b a, λ t. number_wraps t (int_le b a))
answers bins.Add a b e = absurd (false≢true e)
answers bins.Sub a b e = absurd (false≢true e)
answers bins.Mul a b e = absurd (false≢true e)
answers bins.Div a b e = absurd (false≢true e)
answers bins.Rem a b e = absurd (false≢true e)
answers bins.Shl a b e = absurd (false≢true e)
answers bins.Shr a b e = absurd (false≢true e)
answers bins.And a b e = absurd (false≢true e)
answers bins.Or a b e = absurd (false≢true e)
answers bins.Xor a b e = absurd (false≢true e)

-- 0 and -1, as C computes them
negated : (s : IntType) (r : Test) → is_signed s ≡ true →
    wrap_of s (unary_of uns.Minus types.Int (number_of r)) ≡ neg_ℤ (number_of r)
unfolding wrap_of half modulus unary_of
negated types.Char true e = refl
negated types.Char false e = refl
negated types.Short true e = refl
negated types.Short false e = refl
negated types.Int true e = refl
negated types.Int false e = refl
negated types.Long true e = refl
negated types.Long false e = refl
negated types.Bool r e = absurd (false≢true e)
negated types.Uchar r e = absurd (false≢true e)
negated types.Ushort r e = absurd (false≢true e)
negated types.Uint r e = absurd (false≢true e)
negated types.Ulong r e = absurd (false≢true e)

-- a comparison of components, whose result is of a signed type
pub compared_as_promoted : (op : Bin) (s t : IntType) (a b : ℤ) → is_comparison op ≡ true → is_signed s ≡ true →
    wrap_of s (unary_of uns.Minus types.Int (binary_of op (promoted t) a b)) ≡ neg_ℤ (binary_of op t a b)
compared_as_promoted op s t a b e h =
    let r = answers op a b e in ap (λ z. wrap_of s (unary_of uns.Minus types.Int z)) (r.1 (promoted t)) ∙
    negated s r.0 h ∙ ap neg_ℤ (sym (r.1 t))

-- a result is a value of its type
answer_value : (op : Bin) (t : IntType) (a b : ℤ) → is_comparison op ≡ true → IsValue types.Int (binary_of op t a b)
answer_value op t a b e = let r = answers op a b e in
    subst (IsValue types.Int) (number_wraps types.Int r.0 ∙ sym (r.1 t)) (IsValue-wrap types.Int (number_of r.0))

pub joined_value_of : (op : Bin) (t : IntType) (a b : ℤ) → IsValue (binary_type op t) (binary_of op t a b)
unfolding binary_of
joined_value_of bins.Add t a b = IsValue-wrap t (binary_exact bins.Add t a b)
joined_value_of bins.Sub t a b = IsValue-wrap t (binary_exact bins.Sub t a b)
joined_value_of bins.Mul t a b = IsValue-wrap t (binary_exact bins.Mul t a b)
joined_value_of bins.Div t a b = IsValue-wrap t (binary_exact bins.Div t a b)
joined_value_of bins.Rem t a b = IsValue-wrap t (binary_exact bins.Rem t a b)
joined_value_of bins.Shl t a b = IsValue-wrap t (binary_exact bins.Shl t a b)
joined_value_of bins.Shr t a b = IsValue-wrap t (binary_exact bins.Shr t a b)
joined_value_of bins.And t a b = IsValue-wrap t (binary_exact bins.And t a b)
joined_value_of bins.Or t a b = IsValue-wrap t (binary_exact bins.Or t a b)
joined_value_of bins.Xor t a b = IsValue-wrap t (binary_exact bins.Xor t a b)
joined_value_of bins.Eq t a b = answer_value bins.Eq t a b refl
joined_value_of bins.Ne t a b = answer_value bins.Ne t a b refl
joined_value_of bins.Lt t a b = answer_value bins.Lt t a b refl
joined_value_of bins.Le t a b = answer_value bins.Le t a b refl
joined_value_of bins.Gt t a b = answer_value bins.Gt t a b refl
joined_value_of bins.Ge t a b = answer_value bins.Ge t a b refl

pub alone_value_of : (op : Un) (t : IntType) (a : ℤ) → IsValue (unary_type op t) (unary_of op t a)
unfolding unary_of
alone_value_of uns.Plus t a = IsValue-wrap t (unary_exact uns.Plus a)
alone_value_of uns.Minus t a = IsValue-wrap t (unary_exact uns.Minus a)
alone_value_of uns.Flip t a = IsValue-wrap t (unary_exact uns.Flip a)
alone_value_of uns.Not t a = subst (IsValue types.Int)
    (number_wraps types.Int (int_eq a (pos 0)) ∙ sym (number_wraps t (int_eq a (pos 0))))
    (IsValue-wrap types.Int (number_of (int_eq a (pos 0))))

-- the mask of an amount is a value of each type but bool
pub mask_wraps : (to t : IntType) → is_bool to ≡ false → wrap_of to (pos (width_bits t - 1)) ≡ pos (width_bits t - 1)
unfolding half modulus
mask_wraps to t e = wrap_value to (pos (width_bits t - 1)) (by to e (width_bits t - 1) (few t))
  where
    few : (t : IntType) → width_bits t - 1 < 64
    few types.Bool = omega arith
    few types.Char = omega arith
    few types.Uchar = omega arith
    few types.Short = omega arith
    few types.Ushort = omega arith
    few types.Int = omega arith
    few types.Uint = omega arith
    few types.Long = omega arith
    few types.Ulong = omega arith

    by : (to : IntType) → is_bool to ≡ false → (n : ℕ) → n < 64 → IsValue to (pos n)
    by types.Bool e n h = absurd (false≢true (sym e))
    by types.Char e n h = record { low = omega (arith, ints); high = omega (arith, ints) }
    by types.Uchar e n h = record { low = omega (arith, ints); high = omega (arith, ints) }
    by types.Short e n h = record { low = omega (arith, ints); high = omega (arith, ints) }
    by types.Ushort e n h = record { low = omega (arith, ints); high = omega (arith, ints) }
    by types.Int e n h = record { low = omega (arith, ints); high = omega (arith, ints) }
    by types.Uint e n h = record { low = omega (arith, ints); high = omega (arith, ints) }
    by types.Long e n h = record { low = omega (arith, ints); high = omega (arith, ints) }
    by types.Ulong e n h = record { low = omega (arith, ints); high = omega (arith, ints) }
