-- The words of a type.
use Rattle.std.proofs.Common.{List, ◌∷◌, Option, Some, None, ℕ}

-- a word that was found, in front of others
abbrev pub behind_found : Option (List ℕ) → List (List ℕ) → List (List ℕ)
behind_found None ps = ps
behind_found (Some p) ps = p ∷ ps
