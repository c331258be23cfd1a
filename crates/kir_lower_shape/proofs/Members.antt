-- What is one of the elements of a list, and how often a number is one.
use Rattle.std.proofs.Common.{◌≡◌, ℕ, zero, suc, ◌+◌, ◌<◌, ◌≤◌, List, [], ◌∷◌, ◌++◌, refl, sym, ap, subst, arith}
use Rattle.std.proofs.Common.{true, false, ◌⊎◌, inl, inr, ⊎_elim, eq-eqb, if◌then◌else◌}
use Rattle.std.proofs.Common.{Bool as Test}
use Rattle.std.specs.Prelude.{nat_eq}
use Rattle.std.proofs.lemmas.Bool.{eqb-true}
use Rattle.cl_model.specs.Lists.{IsOneOf, AllDiffer}

pub one_left : {A : Type 0} (xs ys : List A) (x : A) → IsOneOf xs x → IsOneOf (xs ++ ys) x
one_left [] ys x h = absurd h
one_left (y ∷ xs) ys x (inl e) = inl e
one_left (y ∷ xs) ys x (inr h) = inr (one_left xs ys x h)

pub one_right : {A : Type 0} (xs ys : List A) (x : A) → IsOneOf ys x → IsOneOf (xs ++ ys) x
one_right [] ys x h = h
one_right (y ∷ xs) ys x h = inr (one_right xs ys x h)

pub one_split : {A : Type 0} (xs ys : List A) (x : A) → IsOneOf (xs ++ ys) x → IsOneOf xs x ⊎ IsOneOf ys x
one_split [] ys x h = inr h
one_split (y ∷ xs) ys x (inl e) = inl (inl e)
one_split (y ∷ xs) ys x (inr h) = ⊎_elim (λ k. inl (inr k)) (λ k. inr k) (one_split xs ys x h)

-- ---- how often

-- 1 where two numbers are one
abbrev pub once : ℕ → ℕ → ℕ
once n x = if nat_eq x n then 1 else 0

-- how often a number is one of the elements
abbrev pub times : ℕ → List ℕ → ℕ
times n [] = 0
times n (x ∷ xs) = once n x + times n xs

pub times_append : (n : ℕ) (xs ys : List ℕ) → times n (xs ++ ys) ≡ times n xs + times n ys
times_append n [] ys = omega arith
times_append n (x ∷ xs) ys = let p = times_append n xs ys in omega arith

pub once_same : (n : ℕ) → once n n ≡ 1
once_same n = ap (λ b. if b then 1 else 0) (eq-eqb n n refl)

-- an element is one at least once
pub times_of : (n : ℕ) (xs : List ℕ) → IsOneOf xs n → 0 < times n xs
times_of n [] h = absurd h
times_of n (x ∷ xs) (inl e) =
    let k : once n x ≡ 1 = subst (λ z. once n z ≡ 1) (sym e) (once_same n) in
    omega (arith, k)
times_of n (x ∷ xs) (inr h) = let k = times_of n xs h in omega arith

-- what is there is an element
pub of_times : (n : ℕ) (xs : List ℕ) → 0 < times n xs → IsOneOf xs n
of_times n [] h = absurd (omega (arith, h))
of_times n (x ∷ xs) h = by_test (nat_eq x n) refl (λ k. of_times n xs k)
  where
    by_test : (b : Test) → nat_eq x n ≡ b → (0 < times n xs → IsOneOf xs n) → IsOneOf (x ∷ xs) n
    by_test true e more = inl (eqb-true x n e)
    by_test false e more =
        let z : once n x ≡ 0 = ap (λ b. if b then 1 else 0) e in
        inr (more (omega (arith, h, z)))

at_most_one : (m k : ℕ) → (0 < m → ⊥) → k ≡ 1 → k + m ≤ 1
at_most_one zero k h o = omega (arith, o)
at_most_one (suc m) k h o = absurd (h (omega arith))

-- where all differ, none is one twice
pub at_most_once : (n : ℕ) (xs : List ℕ) → AllDiffer xs → times n xs ≤ 1
at_most_once n [] h = omega arith
at_most_once n (x ∷ xs) h = by_test (nat_eq x n) refl (at_most_once n xs h.1)
  where
    by_test : (b : Test) → nat_eq x n ≡ b → times n xs ≤ 1 → times n (x ∷ xs) ≤ 1
    by_test true e k =
        let same : x ≡ n = eqb-true x n e in
        let one : once n x ≡ 1 = ap (λ b. if b then 1 else 0) e in
        at_most_one (times n xs) (once n x) (λ k. h.0 (subst (λ z. IsOneOf xs z) (sym same) (of_times n xs k))) one
    by_test false e k =
        let z : once n x ≡ 0 = ap (λ b. if b then 1 else 0) e in
        omega (arith, z, k)
