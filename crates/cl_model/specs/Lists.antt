-- Words on lists, by recursion.
use Rattle.std.specs.Prelude.{◌≡◌, List, [], ◌∷◌, ◌⊎◌}

-- something holds of each element
abbrev pub Each : {A : Type 0} → (A → Type 0) → List A → Type 0
Each P [] = Unit {0}
Each P (x ∷ xs) = P x × Each P xs

-- x is one of the elements
abbrev pub IsOneOf : {A : Type 0} → List A → A → Type 0
IsOneOf [] x = ⊥
IsOneOf (y ∷ ys) x = (y ≡ x) ⊎ IsOneOf ys x

-- no element comes twice
abbrev pub AllDiffer : {A : Type 0} → List A → Type 0
AllDiffer [] = Unit {0}
AllDiffer (x ∷ xs) = (IsOneOf xs x → ⊥) × AllDiffer xs
