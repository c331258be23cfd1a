-- Replacements that are being read, of which the innermost comes first.
use Rattle.std.specs.Prelude.{ℕ, List, [], ◌∷◌, ◌++◌, ◌+◌, ◌≡◌, Bool, false, ◌||◌, None}
use Rattle.std.specs.Str.{bytes_eq}
use Rattle.cl_token.specs.Lexeme.{Lexeme}
use Rattle.cl_prep.specs.Names.{Names, with_name, Gives}

-- a name whose replacement is being read, and what is left of it
pub record Pending : Type 0 where
  pub name : List ℕ
  pub left : List Lexeme

-- the names in force inside these replacements
abbrev pub inside : Names → List Pending → Names
inside names [] = names
inside names (p ∷ ps) = with_name (inside names ps) p.name None

-- whether a name is being replaced
abbrev pub is_member : List ℕ → List Pending → Bool
is_member word [] = false
is_member word (p ∷ ps) = bytes_eq p.name word || is_member word ps

-- what is left gives these tokens, and so many names are replaced
abbrev pub Waits : Names → List Pending → List Lexeme → ℕ → Type 0
Waits names [] zs m = (zs ≡ []) × (m ≡ 0)
Waits names (p ∷ ps) zs m = (a b : List Lexeme) × (i j : ℕ) × Gives (inside names (p ∷ ps)) p.left a i ×
    Waits names ps b j × (zs ≡ a ++ b) × (m ≡ i + j)
