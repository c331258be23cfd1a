-- What does not vary agrees.
use Rattle.std.specs.Prelude.{ℕ, List}
use Rattle.cl_model.specs.Tree.{Program}
use Rattle.cl_model.specs.Sizes.{Launch}
use Rattle.cl_model.specs.Varying.{AVariable, Varies}
use Rattle.cl_model.specs.Agreement.{Owned, Agrees, AgreesInRuns}

-- each variable that does not vary agrees: whenever two histories of items of one group end at one point in its scope
-- it has equal values
abbrev pub AgreeUnlessVarying : Program → Launch → List (List ℕ) → Type 0
AgreeUnlessVarying program launch buffers =
    (v : Owned) → (¬ Varies program (AVariable v.function v.variable)) → Agrees program launch buffers v

-- and so in every run
abbrev pub AgreeInRunsUnlessVarying : Program → Launch → List (List ℕ) → Type 0
AgreeInRunsUnlessVarying program launch buffers =
    (v : Owned) → (¬ Varies program (AVariable v.function v.variable)) → AgreesInRuns program launch buffers v
