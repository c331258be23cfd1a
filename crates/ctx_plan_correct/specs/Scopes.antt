-- The columns of the variables in whose scope one block stands.
use Rattle.std.specs.Prelude.{◌≡◌, ℕ, ◌+◌, ◌<◌, List, length, true}
use Rattle.std.specs.Prelude.{Bool as Test}
use Rattle.cl_model.specs.Tree.{Program}
use Rattle.cl_model.specs.Calls.{function_at}
use Rattle.cl_model.specs.Lists.{IsOneOf, AllDiffer}
use Rattle.kir.specs.Tree.{Variable}
use Rattle.ctx_plan.specs.Points.{entry}
use Rattle.ctx_plan.specs.Sharing.{Shares, row, both, holding_of, crossing_of}
use Rattle.ctx_plan.specs.Made.{number_at, taken_behind}

-- the variable of a function crosses and varies, by what the plan finds
abbrev pub marked : Program → (varying : List (List Test)) → (f : ℕ) → ℕ → Test
marked program varying f x =
    entry (both 0 (crossing_of (holding_of program.functions) (function_at program f)) (row varying f)) x

-- the column of a variable
abbrev pub column_of : Shares → Variable → ℕ
column_of s v = taken_behind s.taken v.calls + number_at (row s.numbers v.function) v.number

-- so many columns are those of the marked variables of a scope, one each
pub record IsFull (program : Program) (varying : List (List Test)) (s : Shares) (scope : List Variable)
    (count : ℕ) : Type 0 where
  pub below : (v : Variable) → IsOneOf scope v → marked program varying v.function v.number ≡ true →
      column_of s v < count
  pub apart : (v w : Variable) → IsOneOf scope v → IsOneOf scope w →
      marked program varying v.function v.number ≡ true → marked program varying w.function w.number ≡ true →
      column_of s v ≡ column_of s w → v ≡ w
  pub some : List Variable
  pub differ : AllDiffer some
  pub each : (v : Variable) → IsOneOf some v → IsOneOf scope v × (marked program varying v.function v.number ≡ true)
  pub many : length some ≡ count
