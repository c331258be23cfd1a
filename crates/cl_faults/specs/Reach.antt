-- Which functions a call leads to, step by step.
use Rattle.std.specs.Prelude.{◌≡◌, ◌+◌, ℕ, suc, nat_lt, Bool, true, not, ◌&&◌, List, [], ◌∷◌, length, slice_index_or}
use Rattle.std.specs.Prelude.{Option, None, Some, if◌then◌else◌}
use Rattle.std.specs.Prelude.{false}
use Rattle.cl_meaning.specs.Faults.{Call, leads}

-- whether the function of that number is marked
abbrev pub marked : List Bool → ℕ → Bool
marked m x = slice_index_or m x false

-- how many are not
abbrev pub unmarked : List Bool → ℕ
unmarked [] = 0
unmarked (true ∷ m) = unmarked m
unmarked (false ∷ m) = suc (unmarked m)

-- the first called function that is not marked and whose caller is
abbrev pub open_in : List Bool → List Call → Option ℕ
open_in m [] = None
open_in m (c ∷ cs) = if marked m c.caller && not (marked m c.called) then Some c.called else open_in m cs

-- the largest number of a called function, or n
abbrev pub most : ℕ → List Call → ℕ
most n [] = n
most n (c ∷ cs) = most (if nat_lt n c.called then c.called else n) cs

-- how many calls are of functions that are marked
abbrev pub count_marked : List Bool → List Call → ℕ
count_marked m [] = 0
count_marked m (c ∷ cs) = if marked m c.called then 1 + count_marked m cs else count_marked m cs

-- the function leads to each that is marked, by at most as many calls as there are of functions that are marked
pub record Sound (calls : List Call) (from : ℕ) (m : List Bool) : Type 0 where
  pub leads : (x : ℕ) → marked m x ≡ true → leads (count_marked m calls) calls from x ≡ true

-- marks that were added along calls
pub record Spreads (calls : List Call) (m m' : List Bool) : Type 0 where
  pub sound : (from : ℕ) → Sound calls from m → Sound calls from m'
  pub stays : (x : ℕ) → marked m x ≡ true → marked m' x ≡ true
  pub within : length m' ≡ length m
