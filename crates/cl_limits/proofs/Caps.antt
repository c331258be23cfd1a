-- Sums and products that stop at a cap.
use Rattle.std.proofs.Common.{◌≡◌, ℕ, zero, suc, ◌+◌, ◌*◌, ◌≤◌, ◌<◌, min, List, length, get_or, drop, drop-cons}
use Rattle.std.proofs.Common.{add-one, ap, sym, ◌∙◌, inl, inr, arith}
use Rattle.std.proofs.Math.Nat.{mul-le-mul_left}
use Rattle.std.proofs.lemmas.Bool.{cases_lt}
use Rattle.cl_model.specs.Sizes.{product}

many : (x c m : ℕ) → m ≤ x → m ≤ x * suc c
many x c m h = omega (arith, mul-le-mul_left x (let k : 1 ≤ suc c = omega arith in k))

pub capped_factor : (x c m : ℕ) → min (min x m * c) m ≡ min (x * c) m
capped_factor x zero m = omega arith
capped_factor x (suc c) m = elim (cases_lt x m) [
  | inl h ↦ (let e : min x m ≡ x = omega arith in ap (λ y. min (y * suc c) m) e)
  | inr h ↦ (let e : min x m ≡ m = omega arith in ap (λ y. min (y * suc c) m) e ∙
      (let a : m ≤ m * suc c = many m c m (omega arith) in let b : m ≤ x * suc c = many x c m h in omega arith))
]

pub capped_factors : (a b m : ℕ) → min (a * min b m) m ≡ min (a * b) m
capped_factors a b m = let e : a * min b m ≡ min b m * a = omega arith in let f : b * a ≡ a * b =
    omega arith in ap (λ n. min n m) e ∙ (capped_factor b a m ∙ ap (λ n. min n m) f)

product_at : (xs : List ℕ) (i : ℕ) → i < length xs → product (drop i xs) ≡ get_or xs i 0 * product (drop (i + 1) xs)
product_at xs i h = rw (add-one, drop-cons xs i 0)

regroup : (a b c : ℕ) → (a * b) * c ≡ a * (b * c)
regroup a b c = omega arith

pub product_step : (xs : List ℕ) (i n m : ℕ) → i < length xs →
    min (min (n * get_or xs i 0) m * product (drop (i + 1) xs)) m ≡ min (n * product (drop i xs)) m
product_step xs i n m h =
    capped_factor (n * get_or xs i 0) (product (drop (i + 1) xs)) m
    ∙ ap (λ k. min k m) (regroup n (get_or xs i 0) (product (drop (i + 1) xs)) ∙
    ap (λ k. n * k) (sym (product_at xs i h)))
