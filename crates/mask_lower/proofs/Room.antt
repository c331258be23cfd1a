-- A table with entries more at its end: what it has at each place stays, where the entries are what stands for one that
-- is not there.
use Rattle.std.proofs.Common.{◌≡◌, ℕ, zero, suc, List, [], ◌∷◌, ◌++◌, get_or, refl, ap, ◌∙◌}

default_more : {A : Type 0} (xs : List A) (d : A) (c : ℕ) → get_or (xs ++ d ∷ []) c d ≡ get_or xs c d
default_more [] d zero = refl
default_more [] d (suc c) = refl
default_more (x ∷ xs) d zero = refl
default_more (x ∷ xs) d (suc c) = default_more xs d c

pub default_step : {A : Type 0} (old mid new : List A) (d : A) → new ≡ mid ++ d ∷ [] →
    ((c : ℕ) → get_or mid c d ≡ get_or old c d) → (c : ℕ) → get_or new c d ≡ get_or old c d
default_step old mid new d e h c = ap (λ xs. get_or xs c d) e ∙ (default_more mid d c ∙ h c)
