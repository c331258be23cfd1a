-- A number below 2 ^ 63, written in decimal digits, has a type and a value.
use Rattle.std.proofs.Common.{◌≡◌, ℕ, zero, suc, ◌+◌, ◌-◌, ◌*◌, ◌^◌, ◌<◌, ◌≤◌, nat_le, List, [], ◌∷◌, ◌++◌, length}
use Rattle.std.proofs.Common.{Bool, true, false, ◌&&◌, if◌then◌else◌, None, Some, refl, ap, sym, ◌∙◌, subst, arith}
use Rattle.std.proofs.Common.{get_or}
use Rattle.std.specs.List.{list_all}
use Rattle.std.specs.Fmt.{decimal}
use Rattle.std.proofs.lemmas.Bool.Decides.{nat_tests}
use Rattle.std.proofs.lemmas.Fmt.{digits_decimal, digits_value-decimal, first_decimal, decimal_digit}
use Rattle.std.proofs.lemmas.Str.Parse.{IsDigitsTest, WeighsDigits, IsNumeralModel, numerals_by_weight}
use Rattle.wg_num.specs.declared.types.IntType.{IntType}
use Rattle.wg_num.specs.declared.types.IntType.TheVariants as types
use Rattle.wg_num.specs.Wrap as wraps
use Rattle.cl_token.specs.Bytes.{is_digit}
use Rattle.cl_token.specs.declared.number.Base.TheVariants as bases
use Rattle.cl_token.specs.declared.token.Kind.TheVariants as kinds
use Rattle.cl_token.specs.Number as numbers
use Rattle.cl_token.specs.Number.{number_in, type_of}
use Rattle.cl_token.specs.Spelling.{HasValue}
use Rattle.cl_check_sound.proofs.Assigning.{both_true}

digit_yes : (c : ℕ) → 48 ≤ c → c ≤ 57 → is_digit c ≡ true
digit_yes c h k = grind (arith, nat_tests)

digit_no : (c : ℕ) → is_digit c ≡ true → (48 ≤ c) × (c ≤ 57)
digit_no c e = let p = both_true (nat_le 48 c) (nat_le c 57) e in (grind (arith, nat_tests), grind (arith, nat_tests))

tests : IsDigitsTest (λ ds. list_all is_digit ds ≡ true)
tests = record {
  empty = refl;
  parts = λ c cs e. let p = both_true (is_digit c) (list_all is_digit cs) e in (digit_no c p.0, p.1);
  more = λ c cs k e. ap (λ b. b && list_all is_digit cs) (digit_yes c k.0 k.1) ∙ e;
}

weighs : WeighsDigits (number_in 10)
weighs = record {
  empty = refl;
  more = λ c cs k. ap (λ b. (if b then c - 48 else (if nat_le 97 c then c - 87 else c - 55)) * 10 ^ length cs +
      number_in 10 cs) (digit_yes c k.0 k.1);
}

model : IsNumeralModel (λ ds. list_all is_digit ds ≡ true) (number_in 10)
model = numerals_by_weight (λ ds. list_all is_digit ds ≡ true) tests (number_in 10) weighs

run : (ds : List ℕ) → list_all is_digit ds ≡ true → 48 < get_or ds 0 0 →
    numbers.IsConstant bases.Decimal ds (number_in 10 ds)
run [] h k = absurd (omega arith)
run (b ∷ bs) h k =
    let p = both_true (is_digit b) (list_all is_digit bs) h in
    let d = digit_no b p.0 in
    numbers.decimal (b ∷ bs) (grind (arith, nat_tests), p.1)

append_none : (ds : List ℕ) → ds ≡ ds ++ []
append_none [] = refl
append_none (d ∷ ds) = ap (λ z. d ∷ z) (append_none ds)

typed : (n : ℕ) → n < 2 ^ 63 →
    (t : IntType) × (type_of (record { base = bases.Decimal; unsigned = false; long = false }) n ≡ Some t)
unfolding wraps.modulus wraps.half
typed n h = by (nat_le n 2147483647) refl
  where
    by : (b : Bool) → nat_le n 2147483647 ≡ b →
        (t : IntType) × (type_of (record { base = bases.Decimal; unsigned = false; long = false }) n ≡ Some t)
    by true e = (
      types.Int,
      ap (λ b. if b then Some types.Int else (if nat_le n 9223372036854775807 then Some types.Long else
          None)) e,
    )
    by false e =
        let l : nat_le n 9223372036854775807 ≡ true = grind (arith, nat_tests) in (
          types.Long,
          ap (λ b. if b then Some types.Int else (if nat_le n 9223372036854775807 then Some types.Long else
              None)) e ∙ ap (λ b. if b then Some types.Long else None) l,
        )

above : (n : ℕ) → 0 < n → n < 2 ^ 63 → HasValue kinds.Number (decimal n)
above n z h =
    let t = typed n h in
    let w : n < 2 ^ 64 = omega arith in (
      t.0,
      n,
      record {
        form = record { base = bases.Decimal; unsigned = false; long = false };
        spelled = record {
          constant = decimal n;
          suffix = [];
          whole = append_none (decimal n);
          digits = subst (numbers.IsConstant bases.Decimal (decimal n)) (digits_value-decimal model n w)
              (run (decimal n) (digits_decimal model n w) (first_decimal n z w));
          ending = numbers.no_suffix;
        };
        typed = t.1;
      },
    )

none : HasValue kinds.Number (48 ∷ [])
unfolding wraps.modulus wraps.half
none = (
  types.Int,
  0,
  record {
    form = record { base = bases.Octal; unsigned = false; long = false };
    spelled = record {
      constant = 48 ∷ [];
      suffix = [];
      whole = refl;
      digits = numbers.octal [] refl;
      ending = numbers.no_suffix;
    };
    typed = refl;
  },
)

-- C99, section 6.4.4.1: a decimal number without a suffix is an `int` or else a `long`
pub decimal_read : (n : ℕ) → n < 2 ^ 63 → HasValue kinds.Number (decimal n)
decimal_read zero h = subst (HasValue kinds.Number) (sym (decimal_digit 0 (omega arith))) none
decimal_read (suc n) h = above (suc n) (omega arith) h
