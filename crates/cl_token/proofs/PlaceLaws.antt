-- Places, byte by byte.
use Rattle.std.proofs.Common.{ℕ, List, [], ◌∷◌, ◌++◌, length, get_or, take, reverse, Bool, not, cond, ◌≡◌, ◌+◌, ◌-◌}
use Rattle.std.proofs.Common.{◌<◌, ◌≤◌, inl, inr, refl, sym, ap, ◌∙◌, arith, length-drop}
use Rattle.std.specs.Prelude.{count_by}
use Rattle.std.specs.List.{after_last, suffix_len, prefix_len}
use Rattle.std.proofs.lemmas.List.Sums.{sum_by_push}
use Rattle.std.proofs.lemmas.List.{take_more, reverse-append, length-reverse}
use Rattle.wg_num.specs.declared.types.Place.{Place}
use Rattle.cl_token.specs.Places.{is_line_end, counted, place_at, place_behind}
use Rattle.cl_token.proofs.Runs.{test_is, head_within}

abbrev other : ℕ → Bool
other b = not (is_line_end b)

suffix_within : (xs : List ℕ) → suffix_len other xs ≤ length xs
suffix_within xs = omega (arith, head_within other (reverse xs), length-reverse xs)

-- how many bytes stand behind the last line end
behind_last : (xs : List ℕ) → length (after_last is_line_end xs) ≡ suffix_len other xs
behind_last xs = omega (arith, length-drop (length xs - suffix_len other xs) xs, suffix_within xs)

suffix_push : (xs : List ℕ) (b : ℕ) → suffix_len other (xs ++ b ∷ []) ≡ cond (other b) (1 + suffix_len other xs) 0
suffix_push xs b = ap (prefix_len other) (reverse-append xs (b ∷ []))

abbrev place_of_counts : ℕ → ℕ → Place
place_of_counts lines bytes = record { line = counted lines; column = counted bytes }

counted_more : (n : ℕ) → counted (n + 1) ≡ counted (counted n)
counted_more n = omega arith

abbrev lines : List ℕ → ℕ
lines xs = count_by is_line_end xs

abbrev columns : List ℕ → ℕ
columns xs = length (after_last is_line_end xs)

columns_push : (xs : List ℕ) (b : ℕ) → columns (xs ++ b ∷ []) ≡ cond (other b) (1 + columns xs) 0
columns_push xs b =
    behind_last (xs ++ b ∷ []) ∙ suffix_push xs b ∙ ap (λ (n : ℕ). cond (other b) (1 + n) 0) (sym (behind_last xs))

counts_push : (xs : List ℕ) (b : ℕ) → place_of_counts (lines (xs ++ b ∷ [])) (columns (xs ++ b ∷ [])) ≡
    place_behind (place_of_counts (lines xs) (columns xs)) b
counts_push xs b = elim (test_is (is_line_end b)) [
  | inl t ↦ (
      let n : lines (xs ++ b ∷ []) ≡ lines xs + 1 = sum_by_push (λ x. cond (is_line_end x) 1 0) xs b ∙ rw t refl in
      let m : columns (xs ++ b ∷ []) ≡ 0 = columns_push xs b ∙ rw t refl in
      ap (λ (k : ℕ). place_of_counts k (columns (xs ++ b ∷ []))) n ∙ ap (place_of_counts (lines xs + 1)) m
      ∙ ap (λ (k : ℕ). record { line = k; column = 1 }) (counted_more (lines xs)) ∙ rw t refl)
  | inr f ↦ (
      let n : lines (xs ++ b ∷ []) ≡ lines xs = sum_by_push (λ x. cond (is_line_end x) 1 0) xs b ∙ rw f (omega arith) in
      let m : columns (xs ++ b ∷ []) ≡ columns xs + 1 = columns_push xs b ∙ rw f (omega arith) in
      ap (λ (k : ℕ). place_of_counts k (columns (xs ++ b ∷ []))) n ∙ ap (place_of_counts (lines xs)) m
      ∙ ap (λ (k : ℕ). record { line = counted (lines xs); column = k }) (counted_more (columns xs)) ∙ rw f refl)
]

pub place_start : (source : List ℕ) → place_at source 0 ≡ record { line = 1; column = 1 }
unfolding place_at
place_start source = refl

pub place_more : (source : List ℕ) (i : ℕ) → i < length source →
    place_at source (i + 1) ≡ place_behind (place_at source i) (get_or source i 0)
unfolding place_at
place_more source i h =
    ap (λ (xs : List ℕ). place_of_counts (lines xs) (columns xs)) (take_more source i 0 h) ∙
    counts_push (take i source) (get_or source i 0)

pub ruleset place_laws = (place_start, place_more)
