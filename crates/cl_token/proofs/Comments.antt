-- Where a block comment ends.
use Rattle.std.proofs.Common.{ℕ, zero, suc, List, [], ◌∷◌, ◌++◌, length, get_or, true, false, ◌&&◌, ◌==◌, inl, inr}
use Rattle.std.proofs.Common.{◌≡◌, ◌+◌, ◌<◌, ◌≤◌, refl, sym, ap, ◌∙◌, arith, add-one, Option, None, Some}
use Rattle.std.specs.Prelude.{option_map, slice_index}
use Rattle.std.proofs.lemmas.Bool.{eqb-true, eq-eqb}
use Rattle.cl_token.specs.Spelling.{ClosesAt}
use Rattle.cl_token.specs.Reading.{close_of}
use Rattle.cl_token.proofs.Runs.{both, and_true, test_is, chosen}

-- the test at a place, as a fact
pub test_closes : (a b : ℕ) → (a == 42 && b == 47) ≡ true → (a ≡ 42) × (b ≡ 47)
test_closes a b h = let k = both (a == 42) (b == 47) h in (eqb-true a 42 k.0, eqb-true b 47 k.1)

pub closes_test : (a b : ℕ) → a ≡ 42 → b ≡ 47 → (a == 42 && b == 47) ≡ true
closes_test a b h k = and_true (a == 42) (b == 47) (eq-eqb a 42 h) (eq-eqb b 47 k)

pub not_closes_test : (a b : ℕ) → (a ≡ 42 → b ≡ 47 → ⊥) → (a == 42 && b == 47) ≡ false
not_closes_test a b h = elim (test_is (a == 42 && b == 47)) [
  | inl t ↦ (let k = test_closes a b t in absurd (h k.0 k.1))
  | inr f ↦ f
]

pub close_none : (s : List ℕ) → ((k : ℕ) → ClosesAt s k → ⊥) → close_of s ≡ None
unfolding close_of
close_none [] h = refl
close_none (b ∷ bs) h =
    rw (not_closes_test b (slice_index bs 0) (λ p q. h 0 (p, q)), close_none bs (λ k c. h (suc k) c)) refl

pub close_first : (s : List ℕ) (k : ℕ) → ClosesAt s k → ((j : ℕ) → j < k → ClosesAt s j → ⊥) → close_of s ≡ Some k
unfolding close_of
close_first [] k c h = absurd (cc)
close_first (b ∷ bs) zero c h = rw (closes_test b (slice_index bs 0) c.0 c.1) refl
close_first (b ∷ bs) (suc k) c h =
    rw (
      not_closes_test b (slice_index bs 0) (λ p q. h 0 (omega arith) (p, q)),
      close_first bs k c (λ j l d. h (suc j) (omega arith) d),
    ) refl

pub closes_at : (s : List ℕ) (k : ℕ) → get_or s k 0 ≡ 42 → get_or s (k + 1) 0 ≡ 47 → ClosesAt s k
closes_at s k h g = (h, ap (λ (j : ℕ). get_or s j 0) (sym (add-one k)) ∙ g)

-- past the end nothing stands
pub closes_before : (s : List ℕ) (k : ℕ) → ClosesAt s k → k < length s
closes_before [] k c = absurd (cc)
closes_before (b ∷ bs) zero c = omega arith
closes_before (b ∷ bs) (suc k) c = omega (arith, closes_before bs k c)

pub none_closes : (s : List ℕ) (n : ℕ) → ((k : ℕ) → k < n → ClosesAt s k → ⊥) → length s ≤ n → (k : ℕ) →
    ClosesAt s k → ⊥
none_closes s n h l k c = h k (omega (arith, closes_before s k c)) c

-- What is found is the first place: text, and behind it the two bytes.
pub record FirstClose (s : List ℕ) (k : ℕ) : Type 0 where
  pub text : List ℕ
  pub rest : List ℕ
  pub whole : s ≡ text ++ (42 ∷ 47 ∷ rest)
  pub size : length text ≡ k
  pub first : (j : ℕ) → j < k → ClosesAt (text ++ (42 ∷ 47 ∷ [])) j → ⊥

-- the byte at a place of a text, and in the two bytes behind it, does not depend on what follows
same_byte : (text rest : List ℕ) (j : ℕ) → j ≤ suc (length text) →
    get_or (text ++ (42 ∷ 47 ∷ rest)) j 0 ≡ get_or (text ++ (42 ∷ 47 ∷ [])) j 0
same_byte [] rest zero h = refl
same_byte [] rest (suc zero) h = refl
same_byte [] rest (suc (suc j)) h = absurd (omega arith)
same_byte (b ∷ text) rest zero h = refl
same_byte (b ∷ text) rest (suc j) h = same_byte text rest j (omega arith)

-- a place in a text closes whatever follows
pub closes_with : (text rest : List ℕ) (j : ℕ) → j ≤ length text → ClosesAt (text ++ (42 ∷ 47 ∷ rest)) j →
    ClosesAt (text ++ (42 ∷ 47 ∷ [])) j
closes_with text rest j h c =
    (sym (same_byte text rest j (omega arith)) ∙ c.0, sym (same_byte text rest (suc j) (omega arith)) ∙ c.1)

pub closes_itself : (text rest : List ℕ) → ClosesAt (text ++ (42 ∷ 47 ∷ rest)) (length text)
closes_itself [] rest = (refl, refl)
closes_itself (b ∷ text) rest = closes_itself text rest

-- the first place of a text that ends there
pub close_of_text : (text rest : List ℕ) → ((j : ℕ) → j < length text → ClosesAt (text ++ (42 ∷ 47 ∷ [])) j → ⊥) →
    close_of (text ++ (42 ∷ 47 ∷ rest)) ≡ Some (length text)
close_of_text text rest h =
    close_first (text ++ (42 ∷ 47 ∷ rest)) (length text) (closes_itself text rest)
    (λ j l c. h j l (closes_with text rest j (omega arith) c))

some_suc : (o : Option ℕ) (k : ℕ) → option_map suc o ≡ Some k → (j : ℕ) × (o ≡ Some j) × (k ≡ suc j)
some_suc None k h = absurd (cc)
some_suc (Some j) k h = (j, refl, cc)

some_is : (a b : ℕ) → Some a ≡ Some b → a ≡ b
some_is a b h = cc

here : (b : ℕ) (bs : List ℕ) (k : ℕ) → b ≡ 42 → slice_index bs 0 ≡ 47 → 0 ≡ k → FirstClose (b ∷ bs) k
here b [] k h g e = absurd (cc)
here b (c ∷ cs) k h g e = record {
  text = [];
  rest = cs;
  whole = rw (h, g) refl;
  size = e;
  first = λ j l d. absurd (omega arith);
}

later : (b : ℕ) (bs : List ℕ) (j k : ℕ) → (b == 42 && slice_index bs 0 == 47) ≡ false → k ≡ suc j → FirstClose bs j →
    FirstClose (b ∷ bs) k
later b bs j k other e f = record {
  text = b ∷ f.text;
  rest = f.rest;
  whole = ap (λ (x : List ℕ). b ∷ x) f.whole;
  size = ap suc f.size ∙ sym e;
  first = earlier;
}
  where
    earlier : (i : ℕ) → i < k → ClosesAt (b ∷ (f.text ++ (42 ∷ 47 ∷ []))) i → ⊥
    earlier zero l c =
        let next : slice_index bs 0 ≡ 47 =
        ap (λ (x : List ℕ). slice_index x 0) f.whole ∙ same_byte f.text f.rest 0 (omega arith) ∙ c.1 in
        let yes = closes_test b (slice_index bs 0) c.0 next in
        cc
    earlier (suc i) l c = f.first i (omega arith) c

pub close_found : (s : List ℕ) (k : ℕ) → close_of s ≡ Some k → FirstClose s k
unfolding close_of
close_found [] k h = absurd (cc)
close_found (b ∷ bs) k h =
    elim (chosen (b == 42 && slice_index bs 0 == 47) (Some 0) (option_map suc (close_of bs)) (Some k) h) [
      | inl w ↦ (let t = test_closes b (slice_index bs 0) w.0 in here b bs k t.0 t.1 (some_is 0 k w.1))
      | inr w ↦ (let (j, e, q) = some_suc (close_of bs) k w.1 in later b bs j k w.0 q (close_found bs j e))
    ]

none_suc : (o : Option ℕ) → option_map suc o ≡ None → o ≡ None
none_suc None h = refl
none_suc (Some j) h = absurd (cc)

-- where no place is found there is none
pub close_missing : (s : List ℕ) → close_of s ≡ None → (k : ℕ) → ClosesAt s k → ⊥
unfolding close_of
close_missing [] h k c = absurd (cc)
close_missing (b ∷ bs) h k c =
    elim (chosen (b == 42 && slice_index bs 0 == 47) (Some 0) (option_map suc (close_of bs)) None h) [
      | inl w ↦ absurd (cc)
      | inr w ↦ missing b bs k w.0 (λ j d. close_missing bs (none_suc (close_of bs) w.1) j d) c
    ]
  where
    missing : (b : ℕ) (bs : List ℕ) (k : ℕ) → (b == 42 && slice_index bs 0 == 47) ≡ false →
        ((j : ℕ) → ClosesAt bs j → ⊥) → ClosesAt (b ∷ bs) k → ⊥
    missing b bs zero other below c = let yes = closes_test b (slice_index bs 0) c.0 c.1 in cc
    missing b bs (suc k) other below c = below k c
