-- The value of digits, digit by digit.
use Rattle.std.proofs.Common.{ℕ, List, [], ◌∷◌, ◌++◌, length, get_or, take, drop, ◌≡◌, ◌+◌, ◌*◌, ◌^◌, ◌<◌, ◌≤◌, refl}
use Rattle.std.proofs.Common.{ap, ◌∙◌, arith, append_assoc, take-append-drop, add-one}
use Rattle.std.proofs.lemmas.List.{take_more, length_push, append-nil}
use Rattle.std.proofs.Math.Nat.{pow-suc, pow-zero, le-mul_of_pos_right}
use Rattle.std.proofs.Common.{false, None, Some, Err}
use Rattle.std.proofs.lemmas.Bool.Decides.{nat_tests}
use Rattle.std.specs.List.{find}
use Rattle.wg_num.specs.declared.types.IntType.{IntType}
use Rattle.wg_num.specs.declared.types.IntType.TheVariants.{Bool, Char, Uchar, Short, Ushort, Int, Uint, Long, Ulong}
use Rattle.wg_num.specs.Wrap.{half, modulus}
use Rattle.cl_token.specs.declared.number.LiteralError.TheVariants.{TooLarge}
use Rattle.cl_token.specs.Number.{digit_value, number_in, holds, types_in}
use Rattle.cl_token.specs.NumberReading.{radix, Parts, parts_of, value_in, outcome_of}
use Rattle.cl_token.specs.declared.number.Base.{Base}
use Rattle.cl_token.specs.declared.number.Base.TheVariants.{Decimal, Octal, Hexadecimal}

power_more : (r n : ℕ) → r ^ (n + 1) ≡ r ^ n * r
power_more r n = ap (λ (m : ℕ). r ^ m) (add-one n) ∙ pow-suc r n

regroup : (d p r v w : ℕ) → d * (p * r) + (v * r + w) ≡ (d * p + v) * r + w
regroup d p r v w = grind arith

single : (d r : ℕ) → d * r ^ 0 + 0 ≡ 0 * r + d
single d r = rw (pow-zero r) (omega arith)

pub number_in-push : (r : ℕ) (ds : List ℕ) (d : ℕ) → number_in r (ds ++ d ∷ []) ≡ number_in r ds * r + digit_value d
number_in-push r [] d = single (digit_value d) r
number_in-push r (x ∷ xs) d =
    rw (
      number_in-push r xs d,
      length_push xs d,
      power_more r (length xs),
    ) (regroup (digit_value x) (r ^ length xs) r (number_in r xs) (digit_value d))

pub number_in-grows : (r : ℕ) → 0 < r → (xs ys : List ℕ) → number_in r xs ≤ number_in r (xs ++ ys)
number_in-grows r h xs [] = rw (append-nil xs) (omega arith)
number_in-grows r h xs (y ∷ ys) =
    let further : number_in r (xs ++ y ∷ []) ≤ number_in r ((xs ++ y ∷ []) ++ ys) =
    number_in-grows r h (xs ++ y ∷ []) ys in
    let same : number_in r ((xs ++ y ∷ []) ++ ys) ≡ number_in r (xs ++ y ∷ ys) =
    ap (number_in r) (append_assoc xs (y ∷ []) ys) in
    omega (arith, number_in-push r xs y, le-mul_of_pos_right (number_in r xs) h)

radix_positive : (base : Base) → 0 < radix base
radix_positive Decimal = omega arith
radix_positive Octal = omega arith
radix_positive Hexadecimal = omega arith

-- one digit more
pub number_in-more : (base : Base) (ds : List ℕ) (i : ℕ) → i < length ds →
    number_in (radix base) (take (i + 1) ds) ≡ number_in (radix base) (take i ds) * radix base +
    digit_value (get_or ds i 0)
number_in-more base ds i h =
    ap (number_in (radix base)) (take_more ds i 0 h) ∙ number_in-push (radix base) (take i ds) (get_or ds i 0)

-- the first digits stand for no more than all
pub number_in-front : (base : Base) (ds : List ℕ) (i : ℕ) →
    number_in (radix base) (take i ds) ≤ number_in (radix base) ds
number_in-front base ds i =
    let whole : number_in (radix base) (take i ds ++ drop i ds) ≡ number_in (radix base) ds =
    ap (number_in (radix base)) (take-append-drop i ds) in
    omega (arith, number_in-grows (radix base) (radix_positive base) (take i ds) (drop i ds))

-- where one digit more is too much, all digits are
pub number_in-over : (base : Base) (ds : List ℕ) (i v m : ℕ) → v ≡ number_in (radix base) (take i ds) →
    i < length ds → (v * radix base + digit_value (get_or ds i 0) < m → ⊥) → number_in (radix base) ds < m → ⊥
number_in-over base ds i v m so_far h over fits =
    let more : number_in (radix base) (take (i + 1) ds) ≡ v * radix base + digit_value (get_or ds i 0) =
    rw so_far (number_in-more base ds i h) in
    over (omega (arith, number_in-front base ds (i + 1)))

pub ruleset digits = (number_in-more, number_in-front)

-- ---- a value past every type

holds_not : (v : ℕ) (t : IntType) → (v < 2 ^ 64 → ⊥) → holds v t ≡ false
unfolding half modulus
holds_not v Bool over = grind (arith, nat_tests)
holds_not v Char over = grind (arith, nat_tests)
holds_not v Uchar over = grind (arith, nat_tests)
holds_not v Short over = grind (arith, nat_tests)
holds_not v Ushort over = grind (arith, nat_tests)
holds_not v Int over = grind (arith, nat_tests)
holds_not v Uint over = grind (arith, nat_tests)
holds_not v Long over = grind (arith, nat_tests)
holds_not v Ulong over = grind (arith, nat_tests)

find_none : (v : ℕ) → (v < 2 ^ 64 → ⊥) → (ts : List IntType) → find (holds v) ts ≡ None
find_none v over [] = refl
find_none v over (t ∷ ts) = rw (holds_not v t over) (find_none v over ts)

pub past_all : (word : List ℕ) (p : Parts) → parts_of word ≡ Some p → (value_in p < 2 ^ 64 → ⊥) →
    outcome_of word ≡ Err TooLarge
unfolding outcome_of
past_all word p e over = rw (e, find_none (value_in p) over (types_in p.form.base p.form.unsigned p.form.long)) refl
