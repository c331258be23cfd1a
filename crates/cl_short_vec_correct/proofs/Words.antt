-- The words of new nodes say something.
use Rattle.std.proofs.Common.{◌≡◌, ℕ, zero, suc, ◌≤◌, ◌<◌, ◌^◌, nat_eq, List, ◌++◌, Option, Some}
use Rattle.std.proofs.Common.{Bool, true, false, ◌&&◌, refl, ap, ◌∙◌, arith}
use Rattle.std.proofs.lemmas.Bool.Decides.{nat_tests}
use Rattle.std.specs.Prelude.{codes, decimal, ◌-◌}
use Rattle.std.specs.Fmt.{digits}
use lib.Pointwise.{pointwise}
use Rattle.wg_num.specs.declared.types.IntType.{IntType}
use Rattle.wg_num.specs.declared.types.IntType.TheVariants as types
use Rattle.wg_num.specs.declared.types.Bin.{Bin}
use Rattle.wg_num.specs.declared.types.Bin.TheVariants as bins
use Rattle.wg_num.specs.Wrap.{width_bits, modulus, half}
use Rattle.cl_token.specs.NumberReading.{outcome_of, parts_of}
use Rattle.cl_meaning.specs.declared.operators.Prefix.{Prefix}
use Rattle.cl_meaning.specs.declared.operators.Prefix.TheVariants as prefixes
use Rattle.cl_meaning.specs.declared.operators.Postfix.{Postfix}
use Rattle.cl_meaning.specs.declared.operators.Postfix.TheVariants as postfixes
use Rattle.cl_meaning.specs.Types.{base_in, names_outside}
use Rattle.cl_meaning.specs.Operators.{binary_in, setting_in, prefix_in, postfix_in}
use Rattle.cl_meaning.specs.Operators as operators
use Rattle.cl_meaning.specs.Literals.{literal_in}
use Rattle.cl_meaning.specs.Kinds.{is_some}
use Rattle.cl_meaning.proofs.Numbers.{literal_is}
use Rattle.cl_check_sound.proofs.Assigning.{both_true}
use Rattle.cl_check_sound.proofs.Decimals.{decimal_read}
use Rattle.cl_short_vec.proofs.Rows.{found}
use Rattle.cl_short_vec.specs.Nodes.{constant_word, operator_word, setting_word}

-- ---- types and operators

pub typed_word : (constant : Bool) (of : IntType) → is_some (base_in (constant_word constant of)) ≡ true
unfolding base_in names_outside
typed_word true types.Bool = refl
typed_word true types.Char = refl
typed_word true types.Uchar = refl
typed_word true types.Short = refl
typed_word true types.Ushort = refl
typed_word true types.Int = refl
typed_word true types.Uint = refl
typed_word true types.Long = refl
typed_word true types.Ulong = refl
typed_word false types.Bool = refl
typed_word false types.Char = refl
typed_word false types.Uchar = refl
typed_word false types.Short = refl
typed_word false types.Ushort = refl
typed_word false types.Int = refl
typed_word false types.Uint = refl
typed_word false types.Long = refl
typed_word false types.Ulong = refl

pub joined_word : (op : Bin) → is_some (binary_in (operator_word op)) ≡ true
unfolding binary_in
joined_word bins.Mul = refl
joined_word bins.Div = refl
joined_word bins.Rem = refl
joined_word bins.Add = refl
joined_word bins.Sub = refl
joined_word bins.Shl = refl
joined_word bins.Shr = refl
joined_word bins.And = refl
joined_word bins.Xor = refl
joined_word bins.Or = refl
joined_word bins.Eq = refl
joined_word bins.Ne = refl
joined_word bins.Lt = refl
joined_word bins.Le = refl
joined_word bins.Gt = refl
joined_word bins.Ge = refl

-- an operator that counts up or down also assigns
abbrev pub Counts : Bin → Type 0
Counts op = is_some (setting_in (setting_word op)) ≡ true

abbrev pub CountsBefore : Option Prefix → Type 0
CountsBefore (Some (prefixes.Step op)) = Counts op
CountsBefore o = Unit {0}

abbrev pub CountsBehind : Option Postfix → Type 0
CountsBehind (Some (postfixes.Step op)) = Counts op
CountsBehind o = Unit {0}

pub prefix_counts : (w : List ℕ) → CountsBefore (prefix_in w)
unfolding prefix_in setting_in
prefix_counts w = found CountsBefore (pointwise nat_eq w) operators.prefixes tt
    (refl, (refl, (tt, (tt, (tt, (tt, (tt, (tt, (tt, tt)))))))))

pub postfix_counts : (w : List ℕ) → CountsBehind (postfix_in w)
unfolding postfix_in setting_in
postfix_counts w = found CountsBehind (pointwise nat_eq w) operators.postfixes tt (tt, (refl, (refl, tt)))

-- ---- numbers

long_test : ℕ → Bool
unfolding literal_in
long_test n = is_some (literal_in (decimal n ++ codes "L"))

all_below : ℕ → Bool
all_below zero = true
all_below (suc n) = long_test n && all_below n

some_below : (n c : ℕ) → all_below n ≡ true → c < n → long_test c ≡ true
unfolding all_below
some_below zero c h k = absurd (omega arith)
some_below (suc n) c h k =
    by (nat_eq c n) refl (λ less. some_below n c (both_true (long_test n) (all_below n) h).1 less)
  where
    by : (b : Bool) → nat_eq c n ≡ b → (c < n → long_test c ≡ true) → long_test c ≡ true
    by true e g = let same : c ≡ n = grind (arith, nat_tests) in
        ap long_test same ∙ (both_true (long_test n) (all_below n) h).0
    by false e g = let less : c < n = grind (arith, nat_tests) in g less

pub long_word : (n : ℕ) → n ≤ 16 → is_some (literal_in (decimal n ++ codes "L")) ≡ true
unfolding long_test all_below literal_in outcome_of parts_of digits modulus half
long_word n h = some_below 17 n refl (omega arith)

pub int_word : (n : ℕ) → n < 2 ^ 63 → is_some (literal_in (decimal n)) ≡ true
int_word n h = let v = decimal_read n h in ap is_some (literal_is (decimal n) v.0 v.1 v.2)

pub bits_word : (of : IntType) → is_some (literal_in (decimal (width_bits of - 1))) ≡ true
unfolding literal_in outcome_of parts_of digits modulus half
bits_word types.Bool = refl
bits_word types.Char = refl
bits_word types.Uchar = refl
bits_word types.Short = refl
bits_word types.Ushort = refl
bits_word types.Int = refl
bits_word types.Uint = refl
bits_word types.Long = refl
bits_word types.Ulong = refl
