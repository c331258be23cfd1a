-- How many conditionals are not taken.
use Rattle.std.proofs.Common.{ℕ, suc, List, [], ◌∷◌, length, Bool, true, false, cond, ◌&&◌, ◌==◌, ◌≡◌, ◌+◌, ◌≤◌, refl}
use Rattle.std.proofs.Common.{arith}
use Rattle.std.proofs.lemmas.Bool.Decides.{nat_tests}
use Rattle.cl_prep.specs.declared.directive.Conditional.{Conditional}
use Rattle.cl_prep.specs.Scopes.{idle_of}
use Rattle.cl_prep.specs.Directives.{is_active}

by_taken : (b : Bool) (n m : ℕ) → n ≤ m → cond b n (1 + n) ≤ suc m
by_taken true n m h = omega arith
by_taken false n m h = omega arith

pub idle_within : (cs : List Conditional) → idle_of cs ≤ length cs
idle_within [] = omega arith
idle_within (c ∷ cs) = by_taken c.taken (idle_of cs) (length cs) (idle_within cs)

none_idle : (b : Bool) (n : ℕ) (active : Bool) → (n == 0) ≡ active → (cond b n (1 + n) == 0) ≡ (b && active)
none_idle true n active h = h
none_idle false n active h = grind (arith, nat_tests)

pub active_is : (cs : List Conditional) → (idle_of cs == 0) ≡ is_active cs
active_is [] = refl
active_is (c ∷ cs) = none_idle c.taken (idle_of cs) (is_active cs) (active_is cs)
