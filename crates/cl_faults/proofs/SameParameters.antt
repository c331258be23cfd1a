-- A list of parameters that ends before another one is not the same.
use Rattle.std.proofs.Common.{ℕ, zero, suc, ◌<◌, List, [], ◌∷◌, length, drop, false, ◌≡◌, refl, arith}
use Rattle.cl_meaning.specs.declared.kind.Parameter.{Parameter}
use Rattle.cl_meaning.specs.Faults.{same_parameters}

pub ends_before : (ps qs : List Parameter) (i : ℕ) → i < length ps → length qs < 1 →
    same_parameters (drop i ps) qs ≡ false
ends_before [] qs i h g = absurd (omega arith)
ends_before (p ∷ ps) (q ∷ qs) i h g = absurd (omega arith)
ends_before (p ∷ ps) [] zero h g = refl
ends_before (p ∷ ps) [] (suc i) h g = ends_before ps [] i (omega arith) (omega arith)
