-- The kinds of a function's first variables.
use Rattle.std.proofs.Common.{◌≡◌, ℕ, zero, suc, List, [], ◌∷◌, map, take, refl, ap}
use Rattle.cl_model.specs.declared.program.Var.{Var}
use Rattle.cl_meaning.specs.View.{variable_of}

pub first_kinds : (n : ℕ) (vars : List Var) →
    map (λ v. v.kind) (take n vars) ≡ take n (map (λ v. v.kind) (map variable_of vars))
first_kinds zero vars = refl
first_kinds (suc n) [] = refl
first_kinds (suc n) (v ∷ vars) = ap (λ ks. v.kind ∷ ks) (first_kinds n vars)
