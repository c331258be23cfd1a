-- Tokens at their places.
use Rattle.std.specs.Prelude.{ℕ, suc, List, [], ◌∷◌}
use Rattle.cl_token.specs.declared.token.Token.{Token}
use Rattle.cl_tree.specs.declared.terminal.Leaf.{Leaf}
use Rattle.cl_tree.specs.Words.{terminal_of}

-- tokens with their numbers, from a first number on
abbrev pub leaves_of : ℕ → List Token → List Leaf
leaves_of n [] = []
leaves_of n (t ∷ ts) = record { number = n; terminal = terminal_of t.kind t.word; word = t.word } ∷ leaves_of (suc n) ts
