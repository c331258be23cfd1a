-- Numbers that stand still at the end of their type, against limits below it.
use Rattle.std.proofs.Common.{◌≡◌, ℕ, ◌*◌, ◌<◌, ◌≤◌, [], ◌∷◌, min, inl, inr, sym, ◌∙◌, ap, arith}
use Rattle.std.specs.Prelude.{nat_lt}
use Rattle.std.proofs.lemmas.Bool.{cases_lt, lt-ltb}
use native.Mathlib.Nat.{mul-le-mul_left, mul_assoc}
use Rattle.cl_model.specs.Sizes.{product}

-- a number that stands still above a limit
below_end : (n limit last : ℕ) → limit < last → nat_lt limit (min n last) ≡ nat_lt limit n
below_end n limit last small = elim (cases_lt limit n) [
  | inl more ↦ lt-ltb limit (min n last) (omega arith) ∙ sym (lt-ltb limit n more)
  | inr less ↦ let same : min n last ≡ n = omega arith in ap (nat_lt limit) same
]

-- a number that is at least the last one
min_is : (n last : ℕ) → last ≤ n → min n last ≡ last
min_is n last more = omega arith

-- the product of three
product_is : (x y z : ℕ) → product (x ∷ y ∷ z ∷ []) ≡ x * y * z
product_is x y z = let one : z * 1 ≡ z = omega arith in ap (λ t. x * (y * t)) one ∙ sym (mul_assoc x y z)

pub product_below_end : (x y z limit last : ℕ) → limit < last → 1 ≤ z →
    nat_lt limit (min (min (x * y) last * z) last) ≡ nat_lt limit (product (x ∷ y ∷ z ∷ []))
product_below_end x y z limit last small some = elim (cases_lt last (x * y)) [
  | inl more ↦
      let still : min (x * y) last ≡ last = omega arith in
      let up : last ≤ last * z = omega (arith, mul-le-mul_left {m = 1} {n = z} last some) in
      let top : min (min (x * y) last * z) last ≡ last = ap (λ t. min (t * z) last) still ∙ min_is (last * z) last up in
      let beyond : x * y ≤ x * y * z = omega (arith, mul-le-mul_left {m = 1} {n = z} (x * y) some) in
      lt-ltb limit _ (omega (arith, top)) ∙
      sym (lt-ltb limit (product (x ∷ y ∷ z ∷ [])) (omega (arith, product_is x y z)))
  | inr less ↦
      let same : min (x * y) last ≡ x * y = omega arith in
      ap (λ t. nat_lt limit (min (t * z) last)) same ∙
      (below_end (x * y * z) limit last small ∙ ap (nat_lt limit) (sym (product_is x y z)))
]
