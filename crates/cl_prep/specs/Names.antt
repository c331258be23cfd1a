-- The names in force, and what a name is replaced by (C99, section 6.10.3).
use Rattle.std.specs.Prelude.{ℕ, suc, List, [], ◌∷◌, ◌++◌, ◌+◌, Bool, true, false, ◌&&◌, ◌≡◌, Option, None, Some, map}
use Rattle.std.specs.Prelude.{if◌then◌else◌}
use Rattle.std.specs.Str.{bytes_eq}
use Rattle.cl_token.specs.Lexeme.{Lexeme}
use Rattle.cl_token.specs.declared.token.Kind.{Kind}
use Rattle.cl_token.specs.declared.token.Kind.TheVariants.{Name, Number, Mark, Hash}

-- from each name in force to the tokens that replace it
abbrev pub Names : Type 0
Names = List ℕ → Option (List Lexeme)

abbrev pub no_names : Names
no_names name = None

-- the names, with this replacement, or none, at one of them
abbrev pub with_name : Names → List ℕ → Option (List Lexeme) → Names
with_name names name o q = if bytes_eq name q then o else names q

-- what a token is replaced by, if it is a name in force
abbrev pub replacement : Names → Lexeme → Option (List Lexeme)
replacement names x = of_kind x.kind
  where
    of_kind : Kind → Option (List Lexeme)
    of_kind Name = names x.word
    of_kind Number = None
    of_kind Mark = None
    of_kind Hash = None

abbrev pub words_of : List Lexeme → List (List ℕ)
words_of xs = map (λ x. x.word) xs

-- whether two lists have the same words
abbrev pub same_words : List (List ℕ) → List (List ℕ) → Bool
same_words [] [] = true
same_words [] (y ∷ ys) = false
same_words (x ∷ xs) [] = false
same_words (x ∷ xs) (y ∷ ys) = bytes_eq x y && same_words xs ys

abbrev pub redefined : Names → List ℕ → List Lexeme → Option (List Lexeme) → Option Names
redefined names name body None = Some (with_name names name (Some body))
redefined names name body (Some old) = if same_words (words_of old) (words_of body) then Some names else None

-- The names after a definition. A name that has a replacement keeps it, and may be defined again with the same words
-- alone.
abbrev pub defined : Names → List ℕ → List Lexeme → Option Names
defined names name body = redefined names name body (names name)

-- Tokens give these tokens, and so many names are replaced. In the replacement of a name that name is not in force.
pub data Gives : Names → List Lexeme → List Lexeme → ℕ → Type 0 where
  none : {names : Names} → Gives names [] [] 0
  kept : {names : Names} {xs zs : List Lexeme} {m : ℕ} (x : Lexeme) → replacement names x ≡ None →
      Gives names xs zs m → Gives names (x ∷ xs) (x ∷ zs) m
  replaced : {names : Names} {xs ys zs : List Lexeme} {k m : ℕ} (x : Lexeme) (body : List Lexeme) →
      replacement names x ≡ Some body
      → Gives (with_name names x.word None) body ys k → Gives names xs zs m →
      Gives names (x ∷ xs) (ys ++ zs) (suc (k + m))
