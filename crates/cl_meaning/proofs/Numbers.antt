-- The literal of a word is what its reading gives, and is a value of its type.
use Rattle.std.proofs.Common.{ℕ, List, [], ◌∷◌, Bool, true, false, ◌⊎◌, inl, inr, ◌≡◌, refl, sym, ap, ◌∙◌, arith}
use Rattle.std.proofs.Common.{None, Some}
use Rattle.std.specs.Prelude.{pos}
use Rattle.std.proofs.lemmas.Bool.Decides.{nat_tests}
use Rattle.std.specs.List.{find}
use Rattle.wg_num.specs.declared.types.IntType.{IntType}
use Rattle.wg_num.specs.declared.types.IntType.TheVariants as types
use Rattle.wg_num.specs.Wrap.{IsValue, half, modulus}
use Rattle.std.proofs.Common.{Ok, Err, subst}
use Rattle.std.specs.Prelude.{Result}
use Rattle.cl_token.specs.declared.number.Literal.{Literal}
use Rattle.cl_token.specs.declared.number.LiteralError.{LiteralError}
use Rattle.cl_token.specs.NumberReading.{outcome_of}
use Rattle.cl_token.specs.Number.{IsLiteral, IsMalformed, IsTooLarge, holds, types_in}
use Rattle.cl_token.proofs.Literals.{literal_sound, literal_complete, malformed_complete, large_complete}
use Rattle.cl_meaning.specs.Literals.{literal_from, literal_in}

pub literal_is : (w : List ℕ) (t : IntType) (v : ℕ) → IsLiteral w t v → literal_in w ≡ Some (t, v)
unfolding literal_in
literal_is w t v h = ap literal_from (literal_complete w t v h)

pub malformed_none : (w : List ℕ) → IsMalformed w → literal_in w ≡ None
unfolding literal_in
malformed_none w h = ap literal_from (malformed_complete w h)

pub large_none : (w : List ℕ) → IsTooLarge w → literal_in w ≡ None
unfolding literal_in
large_none w h = ap literal_from (large_complete w h)

test_is : (b : Bool) → (b ≡ true) ⊎ (b ≡ false)
test_is true = inl refl
test_is false = inr refl

found_passes : (v : ℕ) (ts : List IntType) (t : IntType) → find (holds v) ts ≡ Some t → holds v t ≡ true
found_passes v [] t h = absurd cc
found_passes v (u ∷ ts) t h = elim (test_is (holds v u)) [
  | inl e ↦ (let k : Some u ≡ Some t = rw e at h in let same : u ≡ t = cc in ap (holds v) (sym same) ∙ e)
  | inr e ↦ (let k : find (holds v) ts ≡ Some t = rw e at h in found_passes v ts t k)
]

is_value : (t : IntType) (v : ℕ) → holds v t ≡ true → IsValue t (pos v)
unfolding half modulus
is_value types.Bool v h = grind (arith, nat_tests)
is_value types.Char v h = grind (arith, nat_tests)
is_value types.Uchar v h = grind (arith, nat_tests)
is_value types.Short v h = grind (arith, nat_tests)
is_value types.Ushort v h = grind (arith, nat_tests)
is_value types.Int v h = grind (arith, nat_tests)
is_value types.Uint v h = grind (arith, nat_tests)
is_value types.Long v h = grind (arith, nat_tests)
is_value types.Ulong v h = grind (arith, nat_tests)

pub literal_value : (w : List ℕ) (t : IntType) (v : ℕ) → IsLiteral w t v → IsValue t (pos v)
literal_value w t v h = is_value t v (found_passes v (types_in h.form.base h.form.unsigned h.form.long) t h.typed)

-- what is a literal is a value of its type
pub literal_in_value : (w : List ℕ) (l : IntType × ℕ) → literal_in w ≡ Some l → IsValue l.0 (pos l.1)
unfolding literal_in
literal_in_value w l e = found (outcome_of w) refl e
  where
    found : (r : Result Literal LiteralError) → outcome_of w ≡ r → literal_from r ≡ Some l → IsValue l.0 (pos l.1)
    found (Ok a) k h = (let same : (a.of, a.value) ≡ l = cc in
        subst (λ (x : IntType × ℕ). IsValue x.0 (pos x.1)) same (literal_value w a.of a.value (literal_sound w a k)))
    found (Err e) k h = absurd cc

pub ruleset numbers = (literal_is, malformed_none, large_none, literal_value)
