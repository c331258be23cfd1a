-- Vector types and the selections of their components (OpenCL 1.2, sections 6.1.2 and 6.1.7).
use Rattle.std.specs.Prelude.{ℕ, zero, suc, ◌+◌, ◌/◌, nat_le, nat_lt, nat_eq, if◌then◌else◌, ◌||◌, ◌&&◌, not}
use Rattle.std.specs.Prelude.{List, [], ◌∷◌, ◌++◌, map, length, take, drop, slice_index, Option, None, Some, codes}
use Rattle.std.specs.Prelude.{Bool as Test, true, false, ◌==◌}
use Rattle.wg_num.specs.declared.types.IntType.{IntType}
use Rattle.wg_num.specs.declared.types.IntType.TheVariants.{Char, Uchar, Short, Ushort, Int, Uint, Long, Ulong}
use Rattle.wg_num.specs.Types.{same_type}
use Rattle.cl_token.specs.Bytes.{is_hexadecimal_digit}
use Rattle.cl_token.specs.Number.{digit_value}
use Rattle.cl_tree.specs.declared.tree.Form.TheVariants as forms
use Rattle.cl_tree.specs.Syntax.{Syntax, node}
use Rattle.cl_meaning.specs.OwnWords.{is_text, Row, looked_up}
use Rattle.cl_meaning.specs.Types.{bare}
use Rattle.cl_short_vec.specs.declared.types.Vector.{Vector}

-- ---- types

abbrev pub vector : IntType → ℕ → Vector
vector t n = record { of = t; count = n }

-- the vectors of 2, 4, 8 and 16 components of the type with this word
abbrev pub vectors_of : List ℕ → IntType → List (Row Vector)
vectors_of text t =
    record { word = text ++ codes "2"; value = vector t 2 } ∷
    record { word = text ++ codes "4"; value = vector t 4 } ∷
    record { word = text ++ codes "8"; value = vector t 8 } ∷
    record { word = text ++ codes "16"; value = vector t 16 } ∷
    []

abbrev pub vectors : List (Row Vector)
vectors =
    vectors_of (codes "char") Char ++
    (vectors_of (codes "uchar") Uchar ++
    (vectors_of (codes "short") Short ++
    (vectors_of (codes "ushort") Ushort ++
    (vectors_of (codes "int") Int ++
    (vectors_of (codes "uint") Uint ++
    (vectors_of (codes "long") Long ++
    vectors_of (codes "ulong") Ulong))))))

-- the one of some words that is there alone
abbrev pub alone : List (List ℕ) → Option (List ℕ)
alone (p ∷ []) = Some p
alone ps = None

abbrev pub named_vector : Option (List ℕ) → Option Vector
named_vector None = None
named_vector (Some p) = looked_up p vectors

-- the vector type that a type's word names, qualifiers aside
unfoldable pub vector_in : List ℕ → Option Vector
vector_in w = named_vector (alone (bare w))

abbrev pub vector_type : Syntax → Option Vector
vector_type (node forms.TypeNode w f l parts) = vector_in w
vector_type t = None

abbrev pub same_vector : Vector → Vector → Test
same_vector v u = same_type v.of u.of && nat_eq v.count u.count

-- the signed type of that width
abbrev pub signed_of : IntType → IntType
signed_of Uchar = Char
signed_of Ushort = Short
signed_of Uint = Int
signed_of Ulong = Long
signed_of t = t

-- ---- selections

-- the name behind the point of a selection, from its own words
unfoldable pub selection_in : List ℕ → Option (List ℕ)
selection_in w = if is_text (codes ". ") (take 2 w) then Some (drop 2 w) else None

-- so many numbers from one on, each so much above the one before
abbrev pub numbers : ℕ → ℕ → ℕ → List ℕ
numbers first by zero = []
numbers first by (suc n) = first ∷ numbers (first + by) by n

abbrev pub letter : ℕ → Option ℕ
letter b = if b == 120 then Some 0 else (if b == 121 then Some 1 else (if b == 122 then Some 2 else
    (if b == 119 then Some 3 else None)))

abbrev pub digit : ℕ → Option ℕ
digit b = if is_hexadecimal_digit b then Some (digit_value b) else None

-- the component that a byte names, as a digit or as a letter
abbrev pub component : (digits : Test) → ℕ → Option ℕ
component true b = digit b
component false b = letter b

abbrev pub with_component : Option ℕ → Option (List ℕ) → Option (List ℕ)
with_component (Some k) (Some ks) = Some (k ∷ ks)
with_component a b = None

-- the component that each byte names, if each names one
abbrev pub named : (digits : Test) → List ℕ → Option (List ℕ)
named digits [] = Some []
named digits (b ∷ bs) = with_component (component digits b) (named digits bs)

-- the letters of a name, which vectors of 2 and 4 alone have; or its digits behind an `s`
abbrev pub spelled_out : ℕ → List ℕ → Option (List ℕ)
spelled_out n [] = None
spelled_out n (b ∷ bs) = if b == 115 then named true bs else (if nat_le n 4 then named false (b ∷ bs) else None)

abbrev pub named_in : ℕ → List ℕ → Option (List ℕ)
named_in n name = if is_text (codes "lo") name then Some (numbers 0 1 (n / 2)) else
    (if is_text (codes "hi") name then Some (numbers (n / 2) 1 (n / 2)) else
    (if is_text (codes "even") name then Some (numbers 0 2 (n / 2)) else
    (if is_text (codes "odd") name then Some (numbers 1 2 (n / 2)) else spelled_out n name)))

abbrev pub all_below : ℕ → List ℕ → Test
all_below n [] = true
all_below n (k ∷ ks) = nat_lt k n && all_below n ks

-- how many components a selection may name
abbrev pub is_width : ℕ → Test
is_width n = nat_eq n 1 || (nat_eq n 2 || (nat_eq n 4 || (nat_eq n 8 || nat_eq n 16)))

abbrev pub allowed : ℕ → Option (List ℕ) → Option (List ℕ)
allowed n None = None
allowed n (Some ks) = if all_below n ks && is_width (length ks) then Some ks else None

-- the components that a name selects in a vector of that many, in order; none where it selects nothing there
unfoldable pub selected : ℕ → List ℕ → Option (List ℕ)
selected n name = allowed n (named_in n name)

-- the components with these numbers among others
abbrev pub picked : List ℕ → List ℕ → List ℕ
picked ks js = map (λ j. slice_index ks j) js

abbrev pub is_one_of : ℕ → List ℕ → Test
is_one_of k [] = false
is_one_of k (j ∷ js) = nat_eq k j || is_one_of k js

-- no number comes twice
abbrev pub all_differ : List ℕ → Test
all_differ [] = true
all_differ (k ∷ ks) = not (is_one_of k ks) && all_differ ks
