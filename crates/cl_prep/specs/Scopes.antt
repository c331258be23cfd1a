-- A scope, as a contract sees it.
use Rattle.std.specs.Prelude.{ℕ, List, [], ◌∷◌, ◌+◌, ◌≡◌, if◌then◌else◌, Option, None, Some, Result, Ok, Err}
use Rattle.cl_prep.specs.declared.directive.Conditional.{Conditional}
use Rattle.cl_prep.specs.declared.prep.PrepError.{PrepError}
use Rattle.cl_prep.specs.declared.prep.PrepError.TheVariants as errors
use Rattle.cl_prep.specs.Directives.{Scope, Outcome}
use Rattle.cl_prep.specs.Names.{Names}

-- how many conditionals are not taken
abbrev pub idle_of : List Conditional → ℕ
idle_of [] = 0
idle_of (c ∷ cs) = if c.taken then idle_of cs else 1 + idle_of cs

-- an error that was answered is the one of an outcome, or memory ran out
abbrev pub IsErrOf : PrepError → Outcome → Type 0
IsErrOf errors.Memory outcome = Unit {0}
IsErrOf e outcome = outcome ≡ Err e

-- What was answered, with the scope that was left, follows an outcome.
abbrev pub Follows : Outcome → Result (Unit {0}) PrepError → Scope → Type 0
Follows outcome (Ok u) s = outcome ≡ Ok s
Follows outcome (Err e) s = IsErrOf e outcome

-- What was answered, with the names that were left, is what defining gives.
abbrev pub Adds : Option Names → Result (Unit {0}) PrepError → Names → Type 0
Adds o (Ok u) names = o ≡ Some names
Adds o (Err errors.Memory) names = Unit {0}
Adds o (Err (errors.Redefined at)) names = (at ≡ 0) × (o ≡ None)
Adds o (Err _) names = ⊥

-- The number is that of the `#` of the innermost conditional.
abbrev pub IsInnermost : List Conditional → ℕ → Type 0
IsInnermost [] at = ⊥
IsInnermost (c ∷ cs) at = at ≡ c.token
