-- The table of what is known: changing one of its rows.
use Rattle.std.proofs.Common.{◌≡◌, ℕ, zero, suc, ◌<◌, ◌≤◌, List, [], ◌∷◌, length, map, get_or, set, refl, ap, ◌∙◌}
use Rattle.std.proofs.Common.{arith}
use Rattle.diverge.specs.declared.known.Row as rust_row
use Rattle.diverge.specs.Known.{Row, row_of, change_row}

-- a row that is replaced by one whose view is the changed view
pub changed_there : (change : Row → Row) (rows : List rust_row.Row) (f : ℕ) (row new : rust_row.Row) →
    f < length rows → row ≡ get_or rows f row → row_of new ≡ change (row_of row)
    → map row_of (set rows f new) ≡ change_row f change (map row_of rows)
changed_there change [] f row new lt is h = absurd (omega arith)
changed_there change (x ∷ rows) zero row new lt is h =
    ap (λ r. r ∷ map row_of rows) (h ∙ ap (λ r. change (row_of r)) is)
changed_there change (x ∷ rows) (suc f) row new lt is h =
    ap (λ l. row_of x ∷ l) (changed_there change rows f row new (omega arith) is h)

-- a row that is not there
pub changed_nowhere : (change : Row → Row) (rows : List rust_row.Row) (f : ℕ) → length rows ≤ f →
    map row_of rows ≡ change_row f change (map row_of rows)
changed_nowhere change [] f lt = refl
changed_nowhere change (x ∷ rows) zero lt = absurd (omega arith)
changed_nowhere change (x ∷ rows) (suc f) lt = ap (λ l. row_of x ∷ l) (changed_nowhere change rows f (omega arith))
