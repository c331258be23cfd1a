-- The cells of the variables of one function: its block of cells, and the cell of each variable.
use Rattle.std.proofs.Common.{◌≡◌, ℕ, zero, suc, ◌+◌, ◌<◌, List, [], ◌∷◌, ◌++◌, length, Some, slice_get, refl, ap}
use Rattle.std.proofs.Common.{◌∙◌, arith}
use Rattle.std.proofs.lemmas.Option.{none-some, same_Some}
use Rattle.wg_num.specs.declared.types.Place.{Place}
use Rattle.cl_model.specs.declared.program.VarKind.{VarKind}
use Rattle.cl_model.specs.Valid.{kind_type}
use Rattle.kir.specs.Tree.{OfVariable, Cell}
use Rattle.kir.specs.Lowering.{Named}
use Rattle.kir_lower.specs.Made.{variable_cells}

-- the cell of a variable
abbrev pub cell_named : List ℕ → List Place → ℕ → ℕ → Named → VarKind → Cell
cell_named calls places function x n kind =
    record {
      kind = OfVariable (record { calls = calls; function = function; number = x }) (places ++ n.place ∷ [])
          n.name;
      of = kind_type kind;
    }

-- an element of a list before others
pub get_before : {A : Type 0} (xs ys : List A) (n : ℕ) (x : A) → slice_get xs n ≡ Some x →
    slice_get (xs ++ ys) n ≡ Some x
get_before [] ys n x e = absurd (none-some x e)
get_before (y ∷ xs) ys zero x e = e
get_before (y ∷ xs) ys (suc n) x e = get_before xs ys n x e

-- an element of a list behind others
pub get_behind : {A : Type 0} (xs ys : List A) (n : ℕ) → slice_get (xs ++ ys) (length xs + n) ≡ slice_get ys n
get_behind [] ys n = ap (slice_get ys) (omega arith)
get_behind (x ∷ xs) ys n = let e : length (x ∷ xs) + n ≡ suc (length xs + n) =
    omega arith in ap (slice_get (x ∷ (xs ++ ys))) e ∙ get_behind xs ys n

-- there is an element with each number below the length
pub get_there : {A : Type 0} (xs : List A) (n : ℕ) → n < length xs → (x : A) × (slice_get xs n ≡ Some x)
get_there [] n h = absurd (omega (arith, h))
get_there (x ∷ xs) zero h = (x, refl)
get_there (x ∷ xs) (suc n) h = get_there xs n (omega (arith, h))

-- the cell of each variable
pub variable_at : (calls : List ℕ) (places : List Place) (function x : ℕ) (names : List Named) (kinds : List VarKind)
    (n : ℕ) (name : Named) (kind : VarKind) → slice_get names n ≡ Some name → slice_get kinds n ≡ Some kind
    → slice_get (variable_cells calls places function x names kinds) n ≡
    Some (cell_named calls places function (x + n) name kind)
variable_at calls places function x [] kinds n name kind e k = absurd (none-some name e)
variable_at calls places function x (m ∷ names) [] n name kind e k = absurd (none-some kind k)
variable_at calls places function x (m ∷ names) (l ∷ kinds) zero name kind e k =
    ap (λ z. Some (cell_named calls places function x z l)) (same_Some m name e) ∙
    ap (λ z. Some (cell_named calls places function x name z)) (same_Some l kind k)
    ∙ ap (λ z. Some (cell_named calls places function z name kind)) (omega arith)
variable_at calls places function x (m ∷ names) (l ∷ kinds) (suc n) name kind e k =
    variable_at calls places function (x + 1) names kinds n name kind e k ∙
    ap (λ z. Some (cell_named calls places function z name kind)) (omega arith)

-- there is one for each kind
pub variable_count : (calls : List ℕ) (places : List Place) (function x : ℕ) (names : List Named)
    (kinds : List VarKind) → length names ≡ length kinds →
    length (variable_cells calls places function x names kinds) ≡ length kinds
variable_count calls places function x [] [] e = refl
variable_count calls places function x [] (l ∷ kinds) e = absurd (omega (arith, e))
variable_count calls places function x (m ∷ names) [] e = absurd (omega (arith, e))
variable_count calls places function x (m ∷ names) (l ∷ kinds) e =
    ap suc (variable_count calls places function (x + 1) names kinds (omega (arith, e)))
