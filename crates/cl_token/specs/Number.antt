-- Integer constants: their spelling, their value and their type (C99, 6.4.4.1).
use Rattle.std.specs.Prelude.{ℕ, List, [], ◌∷◌, ◌++◌, length, Bool, true, false, ◌≡◌, ◌+◌, ◌-◌, ◌*◌, ◌^◌, ◌||◌, ◌==◌}
use Rattle.std.specs.Prelude.{nat_le, if◌then◌else◌, Option, None, Some, pos, int_le}
use Rattle.std.specs.List.{list_all, find}
use Rattle.wg_num.specs.declared.types.IntType.{IntType}
use Rattle.wg_num.specs.declared.types.IntType.TheVariants.{Int, Uint, Long, Ulong}
use Rattle.wg_num.specs.Wrap.{highest}
use Rattle.cl_token.specs.Bytes.{is_digit, is_octal_digit, is_hexadecimal_digit, is_nonzero_digit, IsRun}
use Rattle.cl_token.specs.declared.number.Base.{Base}
use Rattle.cl_token.specs.declared.number.Base.TheVariants.{Decimal, Octal, Hexadecimal}

-- what a digit stands for
abbrev pub digit_value : ℕ → ℕ
digit_value b = if is_digit b then b - 48 else (if nat_le 97 b then b - 87 else b - 55)

-- what digits stand for in a base, each weighed by its place
abbrev pub number_in : ℕ → List ℕ → ℕ
number_in base [] = 0
number_in base (d ∷ ds) = digit_value d * base ^ length ds + number_in base ds

abbrev pub is_x : ℕ → Bool
is_x b = b == 120 || b == 88

abbrev pub is_u : ℕ → Bool
is_u b = b == 117 || b == 85

abbrev pub is_l : ℕ → Bool
is_l b = b == 108 || b == 76

-- The bytes are a constant without a suffix, of this base and value.
pub data IsConstant : Base → List ℕ → ℕ → Type 0 where
  decimal : (ds : List ℕ) → IsRun is_nonzero_digit is_digit ds → IsConstant Decimal ds (number_in 10 ds)
  octal : (ds : List ℕ) → list_all is_octal_digit ds ≡ true → IsConstant Octal (48 ∷ ds) (number_in 8 ds)
  hexadecimal : (x : ℕ) (ds : List ℕ) → is_x x ≡ true → IsRun is_hexadecimal_digit is_hexadecimal_digit ds →
      IsConstant Hexadecimal (48 ∷ x ∷ ds) (number_in 16 ds)

-- The bytes are a suffix, with `u` where the first answer is true and `l` where the second is.
pub data IsSuffix : List ℕ → Bool → Bool → Type 0 where
  no_suffix : IsSuffix [] false false
  only_u : (b : ℕ) → is_u b ≡ true → IsSuffix (b ∷ []) true false
  only_l : (b : ℕ) → is_l b ≡ true → IsSuffix (b ∷ []) false true
  u_then_l : (b c : ℕ) → is_u b ≡ true → is_l c ≡ true → IsSuffix (b ∷ c ∷ []) true true
  l_then_u : (b c : ℕ) → is_l b ≡ true → is_u c ≡ true → IsSuffix (b ∷ c ∷ []) true true

-- how a number is written
pub record Form : Type 0 where
  pub base : Base
  pub unsigned : Bool
  pub long : Bool

-- The bytes spell a number, written so and with this value.
pub record SpellsNumber (word : List ℕ) (form : Form) (value : ℕ) : Type 0 where
  pub constant : List ℕ
  pub suffix : List ℕ
  pub whole : word ≡ constant ++ suffix
  pub digits : IsConstant form.base constant value
  pub ending : IsSuffix suffix form.unsigned form.long

-- the types of a number written so, of which the first that holds the value is taken
abbrev pub types_in : Base → Bool → Bool → List IntType
types_in Decimal false false = Int ∷ Long ∷ []
types_in Decimal false true = Long ∷ []
types_in Octal false false = Int ∷ Uint ∷ Long ∷ Ulong ∷ []
types_in Octal false true = Long ∷ Ulong ∷ []
types_in Hexadecimal false false = Int ∷ Uint ∷ Long ∷ Ulong ∷ []
types_in Hexadecimal false true = Long ∷ Ulong ∷ []
types_in base true false = Uint ∷ Ulong ∷ []
types_in base true true = Ulong ∷ []

abbrev pub holds : ℕ → IntType → Bool
holds value t = int_le (pos value) (highest t)

-- the type of a number, if one holds its value
abbrev pub type_of : Form → ℕ → Option IntType
type_of form value = find (holds value) (types_in form.base form.unsigned form.long)

-- The bytes spell a number that has this type and this value.
pub record IsLiteral (word : List ℕ) (t : IntType) (value : ℕ) : Type 0 where
  pub form : Form
  pub spelled : SpellsNumber word form value
  pub typed : type_of form value ≡ Some t

-- The bytes spell no number.
abbrev pub IsMalformed : List ℕ → Type 0
IsMalformed word = (form : Form) (value : ℕ) → SpellsNumber word form value → ⊥

-- The bytes spell a number that none of its types holds.
pub record IsTooLarge (word : List ℕ) : Type 0 where
  pub form : Form
  pub value : ℕ
  pub spelled : SpellsNumber word form value
  pub typed : type_of form value ≡ None
