-- How a source is cut into tokens, and the places at which it can't be.
use Rattle.std.specs.Prelude.{ℕ, List, [], ◌∷◌, ◌++◌, length, Bool, true, false, ◌≡◌, ◌+◌, ◌<◌, ◌≤◌, codes}
use Rattle.cl_token.specs.Number.{IsMalformed, IsTooLarge}
use Rattle.cl_token.specs.Spelling.{Spells, IsOneOf, blanks, OpensComment, ClosesAt, IsSkipped, IsNext, HasValue}
use Rattle.cl_token.specs.declared.token.Kind.{Kind}
use Rattle.cl_token.specs.declared.token.Kind.TheVariants as kinds
use Rattle.cl_token.specs.declared.token.Token.{Token}
use Rattle.cl_token.specs.declared.token.LexError.{LexError}
use Rattle.cl_token.specs.declared.token.LexError.TheVariants.{NoToken, OpenComment, BadNumber, LargeNumber, TooLong}
use Rattle.cl_token.specs.declared.token.LexError.TheVariants.{Memory}

-- The first `at` bytes of the source are blanks, comments and these tokens, in order, and `rest` is what follows.
-- `first` says that no token stands before `rest` in its line.
pub data CutsTo (source : List ℕ) : ℕ → Bool → List ℕ → List Token → Type 0 where
  start : CutsTo source 0 true source []
  skip : {at : ℕ} {first : Bool} {ts : List Token} (piece rest : List ℕ)
      → CutsTo source at first (piece ++ rest) ts → IsSkipped piece rest →
      CutsTo source (at + length piece) first rest ts
  line_end : {at : ℕ} {first : Bool} {ts : List Token} (rest : List ℕ)
      → CutsTo source at first (10 ∷ rest) ts → CutsTo source (at + 1) true rest ts
  token : {at : ℕ} {first : Bool} {ts : List Token} (kind : Kind) (word rest : List ℕ)
      → CutsTo source at first (word ++ rest) ts → IsNext kind word rest → HasValue kind word
      → CutsTo source (at + length word) false rest (ts ++ record {
        kind = kind;
        word = word;
        start = at;
        end = at + length word;
        first = first;
      } ∷ [])

-- Blanks and comments aside, the source is these tokens.
pub record Cuts (source : List ℕ) (ts : List Token) : Type 0 where
  pub at : ℕ
  pub first : Bool
  pub whole : CutsTo source at first [] ts

-- What comes before the place is cut into tokens, and what follows it is at fault.
pub record FailsAt (fault : List ℕ → Type 0) (source : List ℕ) (at : ℕ) : Type 0 where
  pub first : Bool
  pub rest : List ℕ
  pub before : List Token
  pub cut : CutsTo source at first rest before
  pub wrong : fault rest

-- There are more bytes, and they begin with no token, blank, comment or line end.
pub record BeginsNothing (bytes : List ℕ) : Type 0 where
  pub some : 0 < length bytes
  pub no_token : (kind : Kind) (word rest : List ℕ) → bytes ≡ word ++ rest → Spells kind word → ⊥
  pub no_blank : (blank rest : List ℕ) → bytes ≡ blank ++ rest → IsOneOf blanks blank → ⊥
  pub no_comment : OpensComment bytes → ⊥
  pub no_line_end : (rest : List ℕ) → bytes ≡ 10 ∷ rest → ⊥

-- A block comment opens and doesn't end.
pub record OpensEndless (bytes : List ℕ) : Type 0 where
  pub text : List ℕ
  pub opens : bytes ≡ codes "/*" ++ text
  pub endless : (place : ℕ) → ClosesAt text place → ⊥

-- A number is next that is not spelled as an integer constant.
pub record BeginsMalformed (bytes : List ℕ) : Type 0 where
  pub word : List ℕ
  pub rest : List ℕ
  pub whole : bytes ≡ word ++ rest
  pub number : IsNext kinds.Number word rest
  pub malformed : IsMalformed word

-- A number is next that is too large for its types.
pub record BeginsTooLarge (bytes : List ℕ) : Type 0 where
  pub word : List ℕ
  pub rest : List ℕ
  pub whole : bytes ≡ word ++ rest
  pub number : IsNext kinds.Number word rest
  pub large : IsTooLarge word

abbrev pub limit : ℕ
limit = 262144

-- The source is refused with this error.
abbrev pub IsRefused : List ℕ → LexError → Type 0
IsRefused source TooLong = limit < length source
IsRefused source (NoToken at) = (length source ≤ limit) × FailsAt BeginsNothing source at
IsRefused source (OpenComment at) = (length source ≤ limit) × FailsAt OpensEndless source at
IsRefused source (BadNumber at) = (length source ≤ limit) × FailsAt BeginsMalformed source at
IsRefused source (LargeNumber at) = (length source ≤ limit) × FailsAt BeginsTooLarge source at
IsRefused source Memory = ⊥
