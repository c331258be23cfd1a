-- Reading an integer constant from left to right, as a function of its bytes.
use Rattle.std.specs.Prelude.{ℕ, List, [], ◌∷◌, Bool, true, false, ◌&&◌, ◌||◌, ◌==◌, if◌then◌else◌, take, drop}
use Rattle.std.specs.Prelude.{Option, None, Some, Result, Ok, Err, slice_index}
use Rattle.std.specs.List.{prefix_len}
use Rattle.wg_num.specs.declared.types.IntType.{IntType}
use Rattle.cl_token.specs.Bytes.{is_digit, is_octal_digit, is_hexadecimal_digit}
use Rattle.cl_token.specs.Number.{number_in, is_x, is_u, is_l, Form, type_of}
use Rattle.cl_token.specs.declared.number.Base.{Base}
use Rattle.cl_token.specs.declared.number.Base.TheVariants.{Decimal, Octal, Hexadecimal}
use Rattle.cl_token.specs.declared.number.Literal.{Literal}
use Rattle.cl_token.specs.declared.number.LiteralError.{LiteralError}
use Rattle.cl_token.specs.declared.number.LiteralError.TheVariants.{Malformed, TooLarge}

abbrev pub base_of : List ℕ → Base
base_of word = if slice_index word 0 == 48 then (if is_x (slice_index word 1) then Hexadecimal else Octal) else Decimal

-- how many bytes stand before the digits
abbrev pub prefix_length : Base → ℕ
prefix_length Decimal = 0
prefix_length Octal = 1
prefix_length Hexadecimal = 2

abbrev pub radix : Base → ℕ
radix Decimal = 10
radix Octal = 8
radix Hexadecimal = 16

abbrev pub digit_in : Base → ℕ → Bool
digit_in Decimal = is_digit
digit_in Octal = is_octal_digit
digit_in Hexadecimal = is_hexadecimal_digit

abbrev pub needs_digits : Base → Bool
needs_digits Decimal = true
needs_digits Octal = false
needs_digits Hexadecimal = true

abbrev pub suffix_of : List ℕ → Option (Bool × Bool)
suffix_of [] = Some (false, false)
suffix_of (b ∷ []) = if is_u b then Some (true, false) else (if is_l b then Some (false, true) else None)
suffix_of (b ∷ c ∷ []) = if (is_u b && is_l c) || (is_l b && is_u c) then Some (true, true) else None
suffix_of (b ∷ c ∷ d ∷ bs) = None

-- a number in its form, with its digits
pub record Parts : Type 0 where
  pub form : Form
  pub digits : List ℕ

abbrev pub with_suffix : Base → List ℕ → Option (Bool × Bool) → Option Parts
with_suffix base digits None = None
with_suffix base digits (Some s) =
    Some (record { form = record { base = base; unsigned = s.0; long = s.1 }; digits = digits })

abbrev pub split_body : Base → ℕ → List ℕ → Option Parts
split_body base n body =
    if needs_digits base && n == 0 then None else with_suffix base (take n body) (suffix_of (drop n body))

abbrev pub parts_in : Base → List ℕ → Option Parts
parts_in base body = split_body base (prefix_len (digit_in base) body) body

unfoldable pub parts_of : List ℕ → Option Parts
parts_of word = parts_in (base_of word) (drop (prefix_length (base_of word)) word)

abbrev pub value_in : Parts → ℕ
value_in p = number_in (radix p.form.base) p.digits

abbrev pub typed : ℕ → Option IntType → Result Literal LiteralError
typed value None = Err TooLarge
typed value (Some t) = Ok (record { of = t; value = value })

abbrev pub outcome_with : Option Parts → Result Literal LiteralError
outcome_with None = Err Malformed
outcome_with (Some p) = typed (value_in p) (type_of p.form (value_in p))

-- the literal that the bytes spell, or what is wrong with them
unfoldable pub outcome_of : List ℕ → Result Literal LiteralError
outcome_of word = outcome_with (parts_of word)
