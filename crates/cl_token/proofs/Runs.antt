-- Tests, and the bytes at the head of a list that pass one.
use Rattle.std.proofs.Common.{ℕ, suc, List, [], ◌∷◌, ◌++◌, length, take, drop, Bool, true, false, cond, ◌&&◌, ◌⊎◌}
use Rattle.std.proofs.Common.{inl, inr, ◌≡◌, ◌+◌, ◌≤◌, refl, arith}
use Rattle.std.specs.List.{list_all, prefix_len}

-- which way a test went
pub chosen : {A : Type 0} (b : Bool) (x y z : A) → cond b x y ≡ z → ((b ≡ true) × (x ≡ z)) ⊎ ((b ≡ false) × (y ≡ z))
chosen true x y z h = inl (refl, h)
chosen false x y z h = inr (refl, h)

pub both : (a b : Bool) → (a && b) ≡ true → (a ≡ true) × (b ≡ true)
both true true h = (refl, refl)
both true false h = absurd (cc)
both false b h = absurd (cc)

pub and_true : (a b : Bool) → a ≡ true → b ≡ true → (a && b) ≡ true
and_true true true h k = refl
and_true true false h k = k
and_true false b h k = h

pub test_is : (b : Bool) → (b ≡ true) ⊎ (b ≡ false)
test_is true = inl refl
test_is false = inr refl

one_more : (n : ℕ) → 1 + n ≡ suc n
one_more n = omega arith

module _ (p : ℕ → Bool) where
  -- the bytes end, or one that fails the test is next
  abbrev pub Stops : List ℕ → Type 0
  Stops [] = Unit {0}
  Stops (b ∷ bs) = p b ≡ false

  pub head_passes : (xs : List ℕ) → list_all p (take (prefix_len p xs) xs) ≡ true
  head_passes [] = refl
  head_passes (x ∷ xs) = elim (test_is (p x)) [
    | inl h ↦ rw (h, one_more (prefix_len p xs), h) (head_passes xs)
    | inr h ↦ rw h refl
  ]

  pub rest_stops : (xs : List ℕ) → Stops (drop (prefix_len p xs) xs)
  rest_stops [] = tt
  rest_stops (x ∷ xs) = elim (test_is (p x)) [
    | inl h ↦ rw (h, one_more (prefix_len p xs)) (rest_stops xs)
    | inr h ↦ rw h h
  ]

  pub head_within : (xs : List ℕ) → prefix_len p xs ≤ length xs
  head_within [] = omega arith
  head_within (x ∷ xs) = elim (test_is (p x)) [
    | inl h ↦ rw h (omega (arith, head_within xs))
    | inr h ↦ rw h (omega arith)
  ]

  pub head_is : (xs ys : List ℕ) → list_all p xs ≡ true → Stops ys → prefix_len p (xs ++ ys) ≡ length xs
  head_is [] [] h s = refl
  head_is [] (y ∷ ys) h s = rw s refl
  head_is (x ∷ xs) ys h s =
      let k = both (p x) (list_all p xs) h in
      rw (k.0, head_is xs ys k.1 s) (omega arith)

  pub head_reaches : (xs ys : List ℕ) → list_all p xs ≡ true → length xs ≤ prefix_len p (xs ++ ys)
  head_reaches [] ys h = omega arith
  head_reaches (x ∷ xs) ys h =
      let k = both (p x) (list_all p xs) h in
      rw k.0 (omega (arith, head_reaches xs ys k.1))
