-- Which cells hold values on the way, which cells lines leave as they are, and what holds of the variables' cells.
use Rattle.std.specs.Prelude.{◌≡◌, ℕ, ◌+◌, ◌<◌, ◌≤◌, ℤ, List, [], ◌∷◌, ◌++◌, Option, Some, None, map, slice_get}
use Rattle.std.specs.Prelude.{length, ◌⊎◌}
use Rattle.wg_num.specs.declared.types.IntType.{IntType}
use Rattle.cl_model.specs.Calls.{function_at}
use Rattle.cl_model.specs.Valid.{Scope, Has}
use Rattle.kir.specs.declared.line.Atom.{Atom}
use Rattle.kir.specs.declared.line.Atom.TheVariants.{Const, Cell as CellAtom}
use Rattle.kir.specs.Tree.{CellKind, OfVariable, OfFlag, OfValue, Cell}
use Rattle.kir.specs.Steps.{atom_value}
use Rattle.kir_lower.specs.declared.places.Value.{Value}
use Rattle.kir_lower.specs.Made.{Made}
use Rattle.kir_lower.specs.Actions.{atoms_of}
use Rattle.kir_lower_simulation.specs.Setting.{Setting, Store, Activation}
use Rattle.kir_lower_simulation.specs.Exits.{Exit, pending, given_by}

-- ---- cells that are made

-- what is made so far is made of the kernel, too
pub record Within (S : Setting) (m : Made) : Type 0 where
  pub more : List Cell
  pub same : S.kernel.cells ≡ m.cells ++ more

-- the kind of a flag or a value
abbrev pub IsPassing : CellKind → Type 0
IsPassing (OfVariable variable path name) = ⊥
IsPassing OfFlag = Unit {0}
IsPassing OfValue = Unit {0}

-- the cell with this number is a flag or value of this type
pub record IsMade (S : Setting) (c : ℕ) (of : IntType) : Type 0 where
  pub kind : CellKind
  pub there : slice_get S.kernel.cells c ≡ Some (record { kind = kind; of = of })
  pub passing : IsPassing kind

-- the atom is a constant of the type, or such a cell with a number from low to below high
abbrev pub IsFixedAtom : Setting → (low high : ℕ) → Atom → IntType → Type 0
IsFixedAtom S low high (Const value t) of = t ≡ of
IsFixedAtom S low high (CellAtom c) of = (low ≤ c) × (c < high) × IsMade S c of

-- the same of a value
abbrev pub IsFixed : Setting → (low high : ℕ) → Value → Type 0
IsFixed S low high value = IsFixedAtom S low high value.atom value.of

-- of each value
abbrev pub AreFixed : Setting → (low high : ℕ) → List Value → Type 0
AreFixed S low high [] = Unit {0}
AreFixed S low high (value ∷ values) = IsFixed S low high value × AreFixed S low high values

-- the atoms hold these values
abbrev pub Holding : Store → List Value → List ℤ → Type 0
Holding cells values args = map (atom_value cells) (atoms_of values) ≡ args

-- ---- cells that are left as they are

-- the cell is not that of a way out, if there is one
abbrev pub Apart : Option ℕ → ℕ → Type 0
Apart None c = Unit {0}
Apart (Some exit) c = c ≡ exit → ⊥

-- of the cells below high those below base, and those from low on but for that of the way out, are as before
pub record Kept (base low : ℕ) (exit : Option ℕ) (high : ℕ) (old new : Store) : Type 0 where
  pub each : (c : ℕ) → (c < base) ⊎ ((low ≤ c) × Apart exit c) → c < high → new c ≡ old c

-- ---- variables and ways out

-- the cells of the variables in scope hold what the variables hold
pub record Same (S : Setting) (C : Activation) (scope : Scope) (cells vars : Store) : Type 0 where
  pub each : (x : ℕ) → Has scope x → cells (C.here.base + x) ≡ vars x

-- each variable in scope is one of the function's
abbrev pub IsWithin : Setting → Activation → Scope → Type 0
IsWithin S C scope = (x : ℕ) → Has scope x → x < length (function_at S.program C.function).variables

-- and this way out is pending, with this value of a return
pub record At (S : Setting) (C : Activation) (exit : Option ℕ) (scope : Scope) (o : Option Exit) (v : ℤ)
    (cells vars : Store) : Type 0 where
  pub same : Same S C scope cells vars
  pub exit_is : (c : ℕ) → exit ≡ Some c → cells c ≡ pending o
  pub answer_is : atom_value cells C.answer ≡ given_by o v
