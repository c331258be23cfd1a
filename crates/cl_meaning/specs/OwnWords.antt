-- The own words of a node: the spellings of its own tokens, with one blank between two of them.
use Rattle.std.specs.Prelude.{ℕ, Bool, true, false, List, [], ◌∷◌, Option, Some, None, if◌then◌else◌, ◌==◌, nat_eq}
use Rattle.std.specs.List.{filter, before_first, slice_split}
use lib.Pointwise.{pointwise}

abbrev pub is_blank : ℕ → Bool
is_blank b = b == 32

abbrev pub has_bytes : List ℕ → Bool
has_bytes [] = false
has_bytes (b ∷ bs) = true

-- what stands between the blanks
abbrev pub pieces : List ℕ → List (List ℕ)
pieces w = filter has_bytes (slice_split is_blank w)

-- the word is this text
abbrev pub is_text : List ℕ → List ℕ → Bool
is_text text w = pointwise nat_eq w text

-- the first of some pieces, if there is one, and those of the word behind it
abbrev pub listed : {A : Type 0} → (List ℕ → List (List ℕ)) → (A → List ℕ) → (A → List ℕ) → Option A → List (List ℕ)
listed list front behind None = []
listed list front behind (Some p) = front p ∷ list (behind p)

-- the front up to the first blank: of a declarator, a function or a call, its name
abbrev pub name_in : List ℕ → List ℕ
name_in w = before_first is_blank w

-- A word of a table, and what it stands for.
pub record Row (A : Type 0) : Type 0 where
  pub word : List ℕ
  pub value : A

-- what the first row that passes stands for
abbrev pub first_row : {A : Type 0} → (List ℕ → Bool) → List (Row A) → Option A
first_row test [] = None
first_row test (r ∷ rows) = if test r.word then Some r.value else first_row test rows

-- what a table gives a word
abbrev pub looked_up : {A : Type 0} → List ℕ → List (Row A) → Option A
looked_up w rows = first_row (pointwise nat_eq w) rows
