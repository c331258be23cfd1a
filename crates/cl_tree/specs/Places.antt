-- Where a list of tokens can no longer become a unit.
use Rattle.std.specs.Prelude.{◌≡◌, ℕ, ◌+◌, ◌<◌, ◌≤◌, List, ◌++◌, length, take, ◌⊎◌}
use Rattle.cl_token.specs.declared.token.Token.{Token}
use Rattle.cl_tree.specs.Syntax.{Syntax, nesting}
use Rattle.cl_tree.specs.Grammar.{SpellsUnit}

-- The list begins with the tokens up to and including the place. At the end only the tokens themselves continue it.
abbrev pub Continues : List Token → ℕ → List Token → Type 0
Continues tokens place ys = ((more : List Token) × (place < length tokens) × (ys ≡ take (place + 1) tokens ++ more)) ⊎
    ((length tokens ≤ place) × (ys ≡ tokens))

-- No unit is spelled by a list that continues the place.
abbrev pub NoUnit : List Token → ℕ → Type 0
NoUnit tokens place = (ys : List Token) (t : Syntax) → Continues tokens place ys → SpellsUnit t ys → ⊥

-- No unit that nests no deeper than n is.
abbrev pub NoUnitWithin : ℕ → List Token → ℕ → Type 0
NoUnitWithin n tokens place =
    (ys : List Token) (t : Syntax) → Continues tokens place ys → SpellsUnit t ys → nesting t ≤ n → ⊥

-- Some unit is.
abbrev pub SomeUnit : List Token → ℕ → Type 0
SomeUnit tokens place = (ys : List Token) × (t : Syntax) × Continues tokens place ys × SpellsUnit t ys

-- Some unit that nests deeper than n is.
abbrev pub DeeperUnit : ℕ → List Token → ℕ → Type 0
DeeperUnit n tokens place =
    (ys : List Token) × (t : Syntax) × Continues tokens place ys × SpellsUnit t ys × (n < nesting t)
