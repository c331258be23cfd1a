-- Agreement at the ends of histories is agreement in runs.
use Rattle.std.specs.Prelude.{ℕ, List}
use Rattle.cl_model.specs.Tree.{Program}
use Rattle.cl_model.specs.Sizes.{Launch}
use Rattle.cl_model.specs.Agreement.{Owned, Agrees, AgreesInRuns}

-- a variable that agrees, agrees in every run of the launch
abbrev pub CarriesToRuns : Program → Launch → List (List ℕ) → Type 0
CarriesToRuns program launch buffers =
    (v : Owned) → Agrees program launch buffers v → AgreesInRuns program launch buffers v
