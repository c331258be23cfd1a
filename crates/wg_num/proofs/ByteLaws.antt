-- Laws of the bytes of a value, and of the low half of its pattern.
use Rattle.std.proofs.Common.{◌≡◌, ℕ, zero, suc, ◌+◌, ◌*◌, ◌/◌, ◌%◌, ◌^◌, ◌<◌, ◌≤◌, refl, sym, ap, ◌∙◌, arith, true}
use Rattle.std.proofs.Common.{false, mod-eq_of_lt, div-add-mod', length, ⊎_elim}
use Rattle.std.proofs.Common.{ℤ, pos}
use Rattle.std.proofs.Math.Nat.{mod-one, pow-succ'}
use Rattle.std.proofs.Math.Arith.{mod-mul}
use Rattle.std.proofs.lemmas.Int.{ints}
use Rattle.std.specs.Simd.Lanes.{digits_l, number_l}
use Rattle.wg_num.specs.declared.types.IntType.{IntType}
use Rattle.wg_num.specs.declared.types.IntType.TheVariants.{Bool as BoolType, Char, Uchar, Short, Ushort, Int, Uint}
use Rattle.wg_num.specs.declared.types.IntType.TheVariants.{Long, Ulong}
use Rattle.wg_num.specs.Wrap.{IsCongruent, IsValue, wrap_of, modulus, is_bool, width_bits, bits_of, value_of}
use Rattle.wg_num.specs.Bytes.{size_of, bytes_of, value_of_bytes}
use Rattle.wg_num.proofs.WrapLaws.{congruent_trans, congruent_divides, bits_congruent, bits_small, wrap_same}
use Rattle.wg_num.proofs.WrapLaws.{wrap_value, value_bool, either_type, modulus_divides}

some_power : (n : ℕ) → 0 < 256 ^ n
some_power zero = omega arith
some_power (suc n) = omega (arith, some_power n, pow-succ' 256 n)

-- the n low bytes stand for the number without its high ones
pub number-digits : (n x : ℕ) → number_l 256 (digits_l 256 n x) ≡ x % 256 ^ n
number-digits zero x = sym (mod-one x)
number-digits (suc n) x =
    let rest = number-digits n (x / 256) in
    let split : x % (256 ^ n * 256) ≡ (x / 256 % 256 ^ n) * 256 + x % 256 = mod-mul x (some_power n) (omega arith) in
    let power : 256 ^ suc n ≡ 256 ^ n * 256 = omega (arith, pow-succ' 256 n) in
    omega (arith, rest) ∙ sym split ∙ ap (λ m. x % m) (sym power)

pub length-digits : (n x : ℕ) → length (digits_l 256 n x) ≡ n
length-digits zero x = refl
length-digits (suc n) x = ap suc (length-digits n (x / 256))

-- two to the width is 256 to the number of bytes
pub size_is : (t : IntType) → 256 ^ size_of t ≡ modulus t
unfolding modulus
size_is BoolType = refl
size_is Char = refl
size_is Uchar = refl
size_is Short = refl
size_is Ushort = refl
size_is Int = refl
size_is Uint = refl
size_is Long = refl
size_is Ulong = refl

some_values : (t : IntType) → 2 ≤ modulus t
unfolding modulus
some_values BoolType = omega arith
some_values Char = omega arith
some_values Uchar = omega arith
some_values Short = omega arith
some_values Ushort = omega arith
some_values Int = omega arith
some_values Uint = omega arith
some_values Long = omega arith
some_values Ulong = omega arith

-- ---- a value from the low part of its pattern

-- how often a width of at most 32 bits goes into 32
narrow_divides : (t : IntType) → width_bits t ≤ 32 → (k : ℕ) × (2 ^ 32 ≡ k * modulus t)
unfolding modulus
narrow_divides BoolType h = (2 ^ 24, refl)
narrow_divides Char h = (2 ^ 24, refl)
narrow_divides Uchar h = (2 ^ 24, refl)
narrow_divides Short h = (2 ^ 16, refl)
narrow_divides Ushort h = (2 ^ 16, refl)
narrow_divides Int h = (1, refl)
narrow_divides Uint h = (1, refl)
narrow_divides Long h = absurd (omega arith)
narrow_divides Ulong h = absurd (omega arith)

-- a value comes back from each number that is congruent to its pattern
from_low : (t : IntType) (b q : ℕ) (z : ℤ) → IsValue t z → bits_of z ≡ b + q * modulus t →
    (is_bool t ≡ true → pos b ≡ z) → value_of t b ≡ z
unfolding value_of
from_low t b q z v e bool = ⊎_elim
    (λ is. ap (wrap_of t) (bool is) ∙ wrap_value t z v)
    (λ is. wrap_same t (pos b) z is (low is) ∙ wrap_value t z v)
    (either_type t)
  where
    low : is_bool t ≡ false → IsCongruent (modulus t) (pos b) z
    low is = congruent_trans
        (record { more = q; less = 0; same = omega (arith, ints, e) })
        (let d = modulus_divides t in congruent_divides (modulus t) d.0 d.1 (bits_congruent z))

-- the low part of its pattern decides a value, where the width of the type goes into that part
pub value-low : (t : IntType) (m k : ℕ) (z : ℤ) → m ≡ k * modulus t → 2 ≤ m → IsValue t z →
    value_of t (bits_of z % m) ≡ z
value-low t m k z e big v =
    let split : bits_of z / m * m + bits_of z % m ≡ bits_of z = div-add-mod' (bits_of z) m in
    let lined : bits_of z ≡ bits_of z % m + (bits_of z / m * k) * modulus t =
    sym split ∙ omega (arith, ap (λ x. bits_of z / m * x) e) in
    from_low t (bits_of z % m) (bits_of z / m * k) z v lined truth
  where
    truth : is_bool t ≡ true → pos (bits_of z % m) ≡ z
    truth is =
        let r = value_bool t z is v in
        let small : pos (bits_of z) ≡ z = bits_small z r.0 r.1 in
        let below : bits_of z < m = omega (arith, ints, small, r.1) in
        ap pos (mod-eq_of_lt below) ∙ small

pub value-bytes : (t : IntType) (z : ℤ) → IsValue t z → value_of_bytes t (bytes_of t z) ≡ z
value-bytes t z v =
    ap (value_of t) (number-digits (size_of t) (bits_of z) ∙ ap (λ m. bits_of z % m) (size_is t))
    ∙ value-low t (modulus t) 1 z (omega arith) (some_values t) v

pub length-bytes : (t : IntType) (z : ℤ) → length (bytes_of t z) ≡ size_of t
length-bytes t z = length-digits (size_of t) (bits_of z)

pub value-low_half : (t : IntType) (z : ℤ) → width_bits t ≤ 32 → IsValue t z → value_of t (bits_of z % 2 ^ 32) ≡ z
value-low_half t z h v = let d = narrow_divides t h in value-low t (2 ^ 32) d.0 z d.1 (omega arith) v
