-- Names for the variables of a program's functions.
use Rattle.std.specs.Prelude.{◌≡◌, ℕ, List, length}
use Rattle.cl_model.specs.Tree.{Program}
use Rattle.cl_model.specs.Calls.{function_at}
use Rattle.kir.specs.Lowering.{Named}
use Rattle.kir_lower.specs.Whole.{names_at}

-- each function has as many names as variables
abbrev pub AreNamed : Program → List (List Named) → Type 0
AreNamed program names = (f : ℕ) → length (names_at names f) ≡ length (function_at program f).variables
