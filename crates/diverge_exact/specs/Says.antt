-- What it means that lists say which variables vary.
use Rattle.std.specs.Prelude.{◌≡◌, ℕ, List, [], Some, slice_get, unwrap_or, true}
use Rattle.std.specs.Prelude.{Bool as Test}
use Rattle.cl_model.specs.Tree.{Program}
use Rattle.cl_model.specs.Varying.{AVariable, Varies}

-- one list for each function, one entry for each of its variables: marked are those that vary, and they alone
abbrev pub SaysVarying : Program → List (List Test) → Type 0
SaysVarying program varying =
    (f x : ℕ) → (slice_get (unwrap_or (slice_get varying f) []) x ≡ Some true → Varies program (AVariable f x)) ×
    (Varies program (AVariable f x) → slice_get (unwrap_or (slice_get varying f) []) x ≡ Some true)
