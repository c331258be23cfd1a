-- The laws of values that the layers above rest on.
use Rattle.std.specs.Prelude.{ℕ, ◌≡◌, ◌≤◌, ◌%◌, ◌^◌, ℤ, length}
use Rattle.std.specs.Prelude.{false}
use Rattle.wg_num.specs.declared.types.IntType.{IntType}
use Rattle.wg_num.specs.declared.types.Un.{Un}
use Rattle.wg_num.specs.declared.types.Bin.{Bin}
use Rattle.wg_num.specs.declared.types.Fun.{Fun}
use Rattle.wg_num.specs.Wrap.{IsValue, IsWrapped, wrap_of, bits_of, value_of, is_bool, width_bits}
use Rattle.wg_num.specs.Operators.{unary_of, binary_of}
use Rattle.wg_num.specs.Builtins.{builtin_of, result_type}
use Rattle.wg_num.specs.Bytes.{size_of, bytes_of, value_of_bytes}

-- what `wrap` gives is the one value of the type that is congruent to the number, or its truth
abbrev pub WrapIsTheValue : Type 0
WrapIsTheValue = (t : IntType) (z r : ℤ) → IsWrapped t z r → wrap_of t z ≡ r

abbrev pub WrapIsAValue : Type 0
WrapIsAValue = (t : IntType) (z : ℤ) → IsWrapped t z (wrap_of t z)

-- a value stays as it is
abbrev pub WrapKeepsValues : Type 0
WrapKeepsValues = (t : IntType) (z : ℤ) → IsValue t z → wrap_of t z ≡ z

-- sums, differences and products may be wrapped late: what is wrapped before does not show
pub record WrapsLate (op : ℤ → ℤ → ℤ) : Type 0 where
  pub late : (t : IntType) (a b : ℤ) → is_bool t ≡ false →
      wrap_of t (op (wrap_of t a) (wrap_of t b)) ≡ wrap_of t (op a b)

-- the result of an operator is a value of its type
abbrev pub UnaryGivesValues : Type 0
UnaryGivesValues = (op : Un) (t : IntType) (a : ℤ) → IsValue t (unary_of op t a)

abbrev pub BinaryGivesValues : Type 0
BinaryGivesValues = (op : Bin) (t : IntType) (a b : ℤ) → IsValue t (binary_of op t a b)

abbrev pub BuiltinGivesValues : Type 0
BuiltinGivesValues = (f : Fun) (t : IntType) (a b c : ℤ) → IsValue (result_type f t) (builtin_of f t a b c)

-- patterns and values stand for one another
abbrev pub PatternGivesValue : Type 0
PatternGivesValue = (t : IntType) (z : ℤ) → IsValue t z → value_of t (bits_of z) ≡ z

abbrev pub ValueGivesPattern : Type 0
ValueGivesPattern = (t : IntType) (b : ℕ) (z : ℤ) → IsValue t z → b ≡ bits_of z → bits_of (value_of t b) ≡ b

-- the bytes of a value give it back, and are as many as the type has
abbrev pub BytesGiveValue : Type 0
BytesGiveValue = (t : IntType) (z : ℤ) → IsValue t z → value_of_bytes t (bytes_of t z) ≡ z

abbrev pub BytesAreSize : Type 0
BytesAreSize = (t : IntType) (z : ℤ) → length (bytes_of t z) ≡ size_of t

-- the low 32 bits of its pattern decide a value of at most 32 bits
abbrev pub LowHalfDecides : Type 0
LowHalfDecides = (t : IntType) (z : ℤ) → width_bits t ≤ 32 → IsValue t z → value_of t (bits_of z % 2 ^ 32) ≡ z
