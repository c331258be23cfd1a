-- Cutting a word at its blanks.
use Rattle.std.proofs.Common.{ℕ, List, [], ◌∷◌, ◌++◌, length, Bool, true, false, ◌⊎◌, inl, inr, ◌≡◌, ◌+◌, ◌<◌, ◌≤◌}
use Rattle.std.proofs.Common.{refl, ◌∙◌, arith, length-drop}
use Rattle.std.specs.List.{filter, slice_split, before_first, after_first, position_or_len}
use Rattle.std.proofs.lemmas.List.{take_all, drop_all}
use Rattle.std.proofs.lemmas.List.Splits.{slice_split_first}
use Rattle.std.proofs.lemmas.Bool.{cases_lt}
use Rattle.cl_meaning.specs.OwnWords.{is_blank, has_bytes, pieces}

test_is : (b : Bool) → (b ≡ true) ⊎ (b ≡ false)
test_is true = inl refl
test_is false = inr refl

module _ (p : ℕ → Bool) where
  -- a list without a place to cut is one part
  one_part : (w : List ℕ) → length w ≤ position_or_len p w → slice_split p w ≡ w ∷ []
  one_part [] h = refl
  one_part (b ∷ bs) h = elim (test_is (p b)) [
    | inl e ↦ absurd (omega (arith, rw e at h))
    | inr e ↦ rw (e, one_part bs (omega (arith, rw e at h))) refl
  ]

  last_empty : (w : List ℕ) → length w ≤ position_or_len p w → after_first p w ≡ []
  last_empty w h = drop_all (position_or_len p w + 1) w (omega arith)

  joined : (x : List ℕ) (xs : List (List ℕ)) → filter has_bytes (x ∷ xs) ≡ filter has_bytes (x ∷ []) ++
      filter has_bytes xs
  joined [] xs = refl
  joined (b ∷ bs) xs = refl

  no_more : (xs : List (List ℕ)) → xs ++ [] ≡ xs ++ filter has_bytes ([] ∷ [])
  no_more xs = refl

  -- the part up to the first cut, and the parts behind it
  first_and_rest : (w : List ℕ) → filter has_bytes (slice_split p w) ≡ filter has_bytes (before_first p w ∷ []) ++
      filter has_bytes (slice_split p (after_first p w))
  first_and_rest w = elim (cases_lt (position_or_len p w) (length w)) [
    | inl h ↦ rw (slice_split_first p w 0 h) (joined (before_first p w) (slice_split p (after_first p w)))
    | inr h ↦ rw (one_part w h, last_empty w h, take_all (position_or_len p w) w h) (joined w [] ∙
        no_more (filter has_bytes (w ∷ [])))
  ]

-- a word without its first part
pub pieces_behind : (w : List ℕ) → has_bytes (before_first is_blank w) ≡ false →
    pieces w ≡ pieces (after_first is_blank w)
pieces_behind w h = rw (first_and_rest is_blank w, h) refl

pub pieces_first : (w : List ℕ) → has_bytes (before_first is_blank w) ≡ true →
    pieces w ≡ before_first is_blank w ∷ pieces (after_first is_blank w)
pieces_first w h = rw (first_and_rest is_blank w, h) refl

pub behind_shorter : (w : List ℕ) → 0 < length w → length (after_first is_blank w) < length w
behind_shorter w h = omega (arith, length-drop (position_or_len is_blank w + 1) w)

pub ruleset cuts = (pieces_behind, pieces_first, behind_shorter)
