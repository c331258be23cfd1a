-- A token as a grammar sees it.
use Rattle.std.specs.Prelude.{ℕ, List, map}
use Rattle.cl_token.specs.declared.token.Kind.{Kind}
use Rattle.cl_token.specs.declared.token.Token.{Token}

-- the kind of a token and the bytes of its spelling
pub record Lexeme : Type 0 where
  pub kind : Kind
  pub word : List ℕ

abbrev pub lexeme_of : Token → Lexeme
lexeme_of t = record { kind = t.kind; word = t.word }

-- a list of tokens without their places
abbrev pub lexemes_of : List Token → List Lexeme
lexemes_of ts = map lexeme_of ts
