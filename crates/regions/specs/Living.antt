-- Which cells are live, for all cells at once: a list says it of each.
use Rattle.std.specs.Prelude.{◌≡◌, ℕ, suc, ◌<◌, List, [], ◌∷◌, length, take, ◌||◌, slice_index_or, cond}
use Rattle.std.specs.Prelude.{Bool as Test, true, false}
use Rattle.kir.specs.declared.line.Atom.{Atom}
use Rattle.kir.specs.Tree.{Lines}
use Rattle.kir.specs.Live.{reads, live_in}

-- the numbers of those that are live, where the first has this number
abbrev pub those : ℕ → List Test → List ℕ
those first [] = []
those first (true ∷ set) = first ∷ those (suc first) set
those first (false ∷ set) = those (suc first) set

-- those of so many cells
abbrev pub those_of : (cells : ℕ) → List Test → List ℕ
those_of cells set = those 0 (take cells set)

-- the list says of each of so many cells whether it passes the test
pub record IsSet (cells : ℕ) (set : List Test) (test : ℕ → Test) : Type 0 where
  pub count : length set ≡ cells
  pub each : (c : ℕ) → c < cells → slice_index_or set c false ≡ test c

-- the entry of each cell comes from its number and its entry before
pub record Becomes (old new : List Test) (entry : ℕ → Test → Test) : Type 0 where
  pub count : length new ≡ length old
  pub each : (c : ℕ) → c < length old → slice_index_or new c false ≡ entry c (slice_index_or old c false)

-- what lines make of a cell that is dead behind them, and of one that is live
pub record IsPassing (cells : ℕ) (lines : Lines) (dead live : List Test) : Type 0 where
  pub of_dead : IsSet cells dead (λ c. live_in c lines false)
  pub of_live : IsSet cells live (λ c. live_in c lines true)

-- a cell through lines of which these lists say it
abbrev pub through : (dead live : List Test) → ℕ → Test → Test
through dead live c after = cond after (slice_index_or live c false) (slice_index_or dead c false)

-- before an if
abbrev pub before_if : Atom → (chosen_dead chosen_live other_dead other_live : List Test) → ℕ → Test → Test
before_if test chosen_dead chosen_live other_dead other_live c after =
    reads c test || (through chosen_dead chosen_live c after || through other_dead other_live c after)

-- at the answer of a loop
abbrev pub before_answer : (test_dead : List Test) → Atom → (body_dead body_live : List Test) → ℕ → Test → Test
before_answer test_dead answer body_dead body_live c after =
    reads c answer || (after || through body_dead body_live c (slice_index_or test_dead c false))

-- before a loop
abbrev pub before_loop : (test_first : Test) → (test_dead test_live : List Test) → Atom →
    (body_dead body_live : List Test) → ℕ → Test → Test
before_loop true test_dead test_live answer body_dead body_live c after =
    through test_dead test_live c (before_answer test_dead answer body_dead body_live c after)
before_loop false test_dead test_live answer body_dead body_live c after =
    through body_dead body_live c (through test_dead test_live c (before_answer test_dead answer body_dead body_live c
    after))

-- a cell at the answer of a loop, where it is said of each cell whether it is live behind the loop
abbrev pub answer_live : (test : Lines) → Atom → (body : Lines) → (ℕ → Test) → ℕ → Test
answer_live test answer body after c = reads c answer || (after c || live_in c body (live_in c test false))
