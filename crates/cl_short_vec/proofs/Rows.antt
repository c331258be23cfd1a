-- What a table gives a word.
use Rattle.std.proofs.Common.{◌≡◌, ℕ, List, [], ◌∷◌, Option, Some, None, Bool, true, false, ◌&&◌, if◌then◌else◌, refl}
use Rattle.std.proofs.lemmas.Bool.{false≢true}
use Rattle.std.specs.List.{list_all}
use Rattle.cl_model.specs.Lists.{Each}
use Rattle.cl_meaning.specs.OwnWords.{Row, first_row}

-- what a table gives a word is of one of its rows, or nothing
pub found : {A : Type 0} (P : Option A → Type 0) (test : List ℕ → Bool) (rows : List (Row A)) → P None →
    Each (λ (r : Row A). P (Some r.value)) rows → P (first_row test rows)
found P test [] z h = z
found P test (r ∷ rows) z h = by (test r.word) (found P test rows z h.1)
  where
    by : (b : Bool) → P (first_row test rows) → P (if b then Some r.value else first_row test rows)
    by true k = h.0
    by false k = k

-- each row passes a test that all pass
pub rows_pass : {A : Type 0} (test : A → Bool) (rows : List (Row A)) →
    list_all (λ (r : Row A). test r.value) rows ≡ true → Each (λ (r : Row A). test r.value ≡ true) rows
rows_pass test [] h = tt
rows_pass test (r ∷ rows) h =
    let p = both (test r.value) (list_all (λ (r : Row _). test r.value) rows) h in
    (p.0, rows_pass test rows p.1)
  where
    both : (a b : Bool) → a && b ≡ true → (a ≡ true) × (b ≡ true)
    both true b h = (refl, h)
    both false b h = absurd (false≢true h)
