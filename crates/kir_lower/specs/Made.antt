-- What a kernel has so far, and where a function's variables, arrays and result stand in it.
use Rattle.std.specs.Prelude.{ℕ, ◌+◌, ℤ, List, [], ◌∷◌, ◌++◌, Option, Some, None, length, map, slice_get, unwrap_or}
use Rattle.wg_num.specs.declared.types.IntType.{IntType}
use Rattle.wg_num.specs.declared.types.IntType.TheVariants.{Int}
use Rattle.wg_num.specs.declared.types.Place.{Place}
use Rattle.cl_model.specs.declared.program.Root.{Root}
use Rattle.cl_model.specs.declared.program.Root.TheVariants.{Param, Constant, Local, Private}
use Rattle.cl_model.specs.declared.program.VarKind.{VarKind}
use Rattle.cl_model.specs.Tree.{Array}
use Rattle.cl_model.specs.Valid.{kind_type}
use Rattle.kir.specs.declared.line.Atom.{Atom}
use Rattle.kir.specs.declared.line.Atom.TheVariants.{Const}
use Rattle.kir.specs.Tree.{CellKind, OfVariable, Cell}
use Rattle.kir.specs.Lowering.{Named}
use Rattle.kir_lower.specs.declared.places.Value.{Value}

-- the cells and arrays that are made so far
pub record Made : Type 0 where
  pub cells : List Cell
  pub arrays : List Array

-- the number of the next cell
abbrev pub next_cell : Made → ℕ
next_cell made = length made.cells

-- with one cell more
abbrev pub with_cell : Made → CellKind → IntType → Made
with_cell made kind of = record { cells = made.cells ++ record { kind = kind; of = of } ∷ []; arrays = made.arrays }

-- a function as it stands in the inlined kernel: the sites of the calls that lead to it and their places, the
-- kernel's root of each parameter, the types of its variables and of the elements of its arrays, the cell of its
-- first variable, its first array, and the cell of its result
pub record Instance : Type 0 where
  pub calls : List ℕ
  pub places : List Place
  pub roots : List Root
  pub types : List IntType
  pub elements : List IntType
  pub base : ℕ
  pub arrays : ℕ
  pub answer : ℕ

-- the type of what a variable holds
abbrev pub type_at : Instance → ℕ → IntType
type_at here x = unwrap_or (slice_get here.types x) Int

-- the type of an array's elements
abbrev pub element_at : Instance → ℕ → IntType
element_at here array = unwrap_or (slice_get here.elements array) Int

-- the kernel's root that a root of the function names
abbrev pub root_in : Instance → Root → Root
root_in here (Param n) = unwrap_or (slice_get here.roots n) (Param n)
root_in here (Constant n) = Constant n
root_in here (Local n) = Local (here.arrays + n)
root_in here (Private n) = Private (here.arrays + n)

-- the kernel's root of an argument; that of a number does not matter
abbrev pub argument_root : Instance → Option Root → Root
argument_root here None = Param 0
argument_root here (Some root) = root_in here root

-- the kernel's roots of arguments
abbrev pub argument_roots : Instance → List (Option Root) → List Root
argument_roots here roots = map (argument_root here) roots

-- a constant of type int
abbrev pub int : ℤ → Atom
int value = Const value Int

-- a constant and its type
abbrev pub constant : ℤ → IntType → Value
constant value of = record { atom = Const value of; of = of }

-- the cells of the variables of a function behind these calls, at these places; the first has this number
abbrev pub variable_cells : List ℕ → List Place → ℕ → ℕ → List Named → List VarKind → List Cell
variable_cells calls places function x [] kinds = []
variable_cells calls places function x (n ∷ names) [] = []
variable_cells calls places function x (n ∷ names) (kind ∷ kinds) =
    record {
      kind = OfVariable (record { calls = calls; function = function; number = x }) (places ++ n.place ∷ [])
          n.name;
      of = kind_type kind;
    }
    ∷ variable_cells calls places function (x + 1) names kinds
