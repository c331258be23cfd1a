-- Which cells a text names on both sides of a cut, for all cells at once.
use Rattle.std.specs.Prelude.{◌≡◌, ℕ, zero, suc, ◌<◌, ◌≤◌, List, [], ◌∷◌, ◌++◌, length, Option, Some, None, slice_get}
use Rattle.std.specs.Prelude.{slice_index_or, nat_lt, ◌||◌, if◌then◌else◌}
use Rattle.std.specs.Prelude.{Bool as Test, false}
use Rattle.kir.specs.Keeps.{Piece, names_cell, names_behind_cut, names_across}
use Rattle.ctx_plan.specs.declared.keeping.Naming.{Naming}

-- for each of so many cells, from the one with this number on, whether the text names it on both sides of a cut
abbrev pub named_from : (first count : ℕ) → List Piece → List Test
named_from first zero pieces = []
named_from first (suc count) pieces = names_across first pieces ∷ named_from (suc first) count pieces

-- what the rest of a text adds to a cell before which so many were named, if it was, where so many were at the last cut
abbrev pub adds_across : ℕ → Option (Option ℕ) → (before : ℕ) → List Piece → Test
adds_across c None before rest = false
adds_across c (Some None) before rest = names_across c rest
adds_across c (Some (Some number)) before rest =
    if nat_lt number before then names_cell c rest else names_behind_cut c rest

-- whether a cell is named on both sides of a cut by the text so far and the rest of it
abbrev pub is_across : Naming → ℕ → List Piece → Test
is_across n c rest = slice_index_or n.across.items c false || adds_across c (slice_get n.first.items c) n.before rest

-- how many cells are named
abbrev pub named_among : List (Option ℕ) → ℕ
named_among [] = 0
named_among (None ∷ cells) = named_among cells
named_among (Some number ∷ cells) = suc (named_among cells)

-- as many are named as are counted, each behind fewer
pub record IsNaming (n : Naming) : Type 0 where
  pub count : n.count ≡ named_among n.first.items
  pub numbers : (c number : ℕ) → slice_get n.first.items c ≡ Some (Some number) → number < n.count
  pub before : n.before ≤ n.count

-- what was named so far: as many cells as before; and of each cell the pieces and the rest say what the rest says
-- behind them
pub record Leads (old new : Naming) (pieces : List Piece) : Type 0 where
  pub first_count : length new.first.items ≡ length old.first.items
  pub across_count : length new.across.items ≡ length old.across.items
  pub naming : IsNaming old → IsNaming new
  pub same : IsNaming old → (c : ℕ) → c < length old.first.items → c < length old.across.items →
      (rest : List Piece) → is_across new c rest ≡ is_across old c (pieces ++ rest)
