-- What the tests of a lowered switch compute.
use Rattle.std.proofs.Common.{◌≡◌, ℕ, zero, suc, ℤ, pos, negsuc, refl, sym, ap, ◌∙◌, arith, inl, inr}
use Rattle.std.proofs.Common.{true, false}
use Rattle.std.specs.Prelude.{bit_and}
use Rattle.std.specs.Ordering.{int_eq}
use Rattle.std.proofs.lemmas.Nat.{and_le_r}
use Rattle.std.proofs.lemmas.Bool.Decides.{Decides-int_eq}
use Rattle.wg_num.specs.declared.types.IntType.TheVariants.{Int}
use Rattle.wg_num.specs.declared.types.Un.TheVariants.{Not}
use Rattle.wg_num.specs.declared.types.Bin.TheVariants.{And, Or, Eq}
use Rattle.wg_num.specs.Wrap.{wrap_of, half, modulus, bits_of}
use Rattle.wg_num.specs.Operators.{unary_of, binary_of, number_of}
use Rattle.cl_model.specs.Values.{is_zero}
use Rattle.kir_uniform.proofs.Living.{true_or_false}

-- a value that is 0
pub zero_is : (z : ℤ) → is_zero z ≡ true → z ≡ pos 0
zero_is (pos zero) e = refl
zero_is (pos (suc n)) e = cc
zero_is (negsuc n) e = cc

wrap_zero : wrap_of Int (pos 0) ≡ pos 0
unfolding wrap_of half modulus
wrap_zero = refl

bits_zero : bits_of (pos 0) ≡ 0
unfolding bits_of
bits_zero = refl

pub no_bits : binary_of Or Int (pos 0) (pos 0) ≡ pos 0
unfolding binary_of wrap_of half modulus bits_of
no_bits = refl

and_zero : (n : ℕ) → bit_and n 0 ≡ 0
and_zero n = let l = and_le_r n 0 in omega (arith, l)

pub and_none : (z : ℤ) → binary_of And Int z (pos 0) ≡ pos 0
unfolding binary_of
and_none z = ap (λ n. wrap_of Int (pos (bit_and (bits_of z) n))) bits_zero ∙
    (ap (λ n. wrap_of Int (pos n)) (and_zero (bits_of z)) ∙ wrap_zero)

pub none_and : (z : ℤ) → binary_of And Int (pos 0) z ≡ pos 0
unfolding binary_of
none_and z = ap (λ n. wrap_of Int (pos (bit_and n (bits_of z)))) bits_zero ∙ wrap_zero

pub eq_is : (a b : ℤ) → is_zero (binary_of Eq Int a b) ≡ false → a ≡ b
unfolding binary_of
eq_is a b h = elim (true_or_false (int_eq a b)) [
  | inl e ↦ (Decides-int_eq a b).0 e
  | inr e ↦ absurd (let z : is_zero (wrap_of Int (number_of (int_eq a b))) ≡
      true = ap (λ t. is_zero (wrap_of Int (number_of t))) e ∙ ap is_zero wrap_zero in
      let q : true ≡ false = sym z ∙ h in cc)
]

pub not_some : (z : ℤ) → is_zero z ≡ false → unary_of Not Int z ≡ pos 0
unfolding unary_of
not_some z h = elim (true_or_false (int_eq z (pos 0))) [
  | inl e ↦ absurd (let s = (Decides-int_eq z (pos 0)).0 e in let t : is_zero z ≡ true = ap is_zero s in
      let q : true ≡ false = sym t ∙ h in cc)
  | inr e ↦ ap (λ t. wrap_of Int (number_of t)) e ∙ wrap_zero
]
