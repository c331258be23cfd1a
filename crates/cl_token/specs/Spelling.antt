-- How tokens, blanks and comments are spelled (OpenCL 1.2, section 6; C99, sections 5.1.1.2 and 6.4).
use Rattle.std.specs.Prelude.{ℕ, suc, List, [], ◌∷◌, ◌++◌, length, true, not, ◌≡◌, ◌<◌, ◌≤◌, ◌==◌, ◌⊎◌, codes}
use Rattle.std.specs.Prelude.{slice_index}
use Rattle.std.specs.List.{list_all}
use Rattle.wg_num.specs.declared.types.IntType.{IntType}
use Rattle.cl_token.specs.Bytes.{is_digit, is_name_start, is_name_byte, is_number_byte, IsRun}
use Rattle.cl_token.specs.Number.{IsLiteral}
use Rattle.cl_token.specs.declared.token.Kind.{Kind}
use Rattle.cl_token.specs.declared.token.Kind.TheVariants.{Name, Number, Mark, Hash}

-- x is an element of the list
abbrev pub IsOneOf : List (List ℕ) → List ℕ → Type 0
IsOneOf [] x = ⊥
IsOneOf (y ∷ ys) x = (x ≡ y) ⊎ IsOneOf ys x

abbrev pub marks : List (List ℕ)
marks =
    codes "{" ∷ codes "}" ∷ codes "(" ∷ codes ")" ∷ codes "[" ∷ codes "]" ∷ codes ";" ∷ codes "," ∷ codes "." ∷
    codes ":" ∷ codes "?" ∷ codes "~"
    ∷ codes "!" ∷ codes "=" ∷ codes "==" ∷ codes "!=" ∷ codes "<" ∷ codes ">" ∷ codes "<=" ∷ codes ">=" ∷ codes "<<" ∷
    codes ">>" ∷ codes "<<=" ∷ codes ">>="
    ∷ codes "+" ∷ codes "-" ∷ codes "*" ∷ codes "/" ∷ codes "%" ∷ codes "&" ∷ codes "|" ∷ codes "^" ∷ codes "&&" ∷
    codes "||" ∷ codes "++" ∷ codes "--"
    ∷ codes "+=" ∷ codes "-=" ∷ codes "*=" ∷ codes "/=" ∷ codes "%=" ∷ codes "&=" ∷ codes "|=" ∷ codes "^=" ∷ []

-- The bytes spell a token of this kind, as far as its length goes.
abbrev pub Spells : Kind → List ℕ → Type 0
Spells Name word = IsRun is_name_start is_name_byte word
Spells Number word = IsRun is_digit is_number_byte word
Spells Mark word = IsOneOf marks word
Spells Hash word = word ≡ codes "#"

-- Every token with which the bytes begin is at most as long as the word.
abbrev pub IsLongest : List ℕ → List ℕ → Type 0
IsLongest word bytes =
    (kind : Kind) (other rest : List ℕ) → bytes ≡ other ++ rest → Spells kind other → length other ≤ length word

-- A comment opens at the head of the bytes.
pub data OpensComment : List ℕ → Type 0 where
  line : (rest : List ℕ) → OpensComment (codes "//" ++ rest)
  block : (rest : List ℕ) → OpensComment (codes "/*" ++ rest)

-- The two bytes that end a block comment stand at the place.
abbrev pub ClosesAt : List ℕ → ℕ → Type 0
ClosesAt bytes place = (slice_index bytes place ≡ 42) × (slice_index bytes (suc place) ≡ 47)

-- The bytes end, or the line does.
abbrev pub EndsLine : List ℕ → Type 0
EndsLine [] = Unit {0}
EndsLine (b ∷ bs) = b ≡ 10

-- space, tab, vertical tab, form feed, carriage return, and a line end behind a backslash
abbrev pub blanks : List (List ℕ)
blanks = codes " " ∷ (9 ∷ []) ∷ (11 ∷ []) ∷ (12 ∷ []) ∷ (13 ∷ []) ∷ (92 ∷ 10 ∷ []) ∷ (92 ∷ 13 ∷ 10 ∷ []) ∷ []

-- The first bytes are a blank or a comment that doesn't end the line, before the others.
pub data IsSkipped : List ℕ → List ℕ → Type 0 where
  blank : (bytes rest : List ℕ) → IsOneOf blanks bytes → IsSkipped bytes rest
  line_comment : (text rest : List ℕ) → list_all (λ b. not (b == 10)) text ≡ true → EndsLine rest →
      IsSkipped (codes "//" ++ text) rest
  block_comment : (text rest : List ℕ) →
      ((place : ℕ) → place < length text → ClosesAt (text ++ codes "*/") place → ⊥) →
      IsSkipped (codes "/*" ++ (text ++ codes "*/")) rest

-- A number has a type and a value; other tokens have none.
abbrev pub HasValue : Kind → List ℕ → Type 0
HasValue Number word = (t : IntType) × (value : ℕ) × IsLiteral word t value
HasValue Name word = Unit {0}
HasValue Mark word = Unit {0}
HasValue Hash word = Unit {0}

-- The bytes are the word of a token and what follows it: no comment opens there, and no token there is longer.
pub record IsNext (kind : Kind) (word rest : List ℕ) : Type 0 where
  pub spelled : Spells kind word
  pub longest : IsLongest word (word ++ rest)
  pub no_comment : OpensComment (word ++ rest) → ⊥
