-- What an object is, and which bytes are the text of one.
use Rattle.std.specs.Prelude.{◌≡◌, ℕ, ◌<◌, ◌≤◌, ◌^◌, List, [], ◌∷◌, length, sum, Option, Some, None, true}
use Rattle.wg_num.specs.declared.types.Place.{Place}
use Rattle.cl_model.specs.declared.program.VarKind.{VarKind}
use Rattle.cl_model.specs.declared.program.VarKind.TheVariants.{Scalar as ScalarKind, Pointer}
use Rattle.lane_code.specs.declared.step.Step.{Step}
use Rattle.lane_code.specs.declared.code.Counts.{Counts}
use Rattle.lane_code.specs.declared.operand.Operand.{Operand}
use Rattle.lane_code.specs.declared.operand.Operand.TheVariants as operand
use Rattle.lane_code.specs.declared.operand.Operand.TheVariants.{Register}
use Rattle.lane_code.specs.Rows.{row_of}
use Rattle.lane_code.specs.Fits.{is_code}
use Rattle.lane_code.specs.Program.{PlainCode, Work, Items, Seq, Vote, Loop, Works, idle, then_work, is_group_program}
use Rattle.wg_object.specs.Numbers.{index_of_root}
use Rattle.wg_object.specs.Limits.{local_most, private_most}
use Rattle.wg_object.specs.Plain.{PlainTable, PlainObject, group_in}
use Rattle.wg_object.specs.Text.{count_of_works, object_text}

-- ---- numbers that have a text

-- a byte, a number of 32 bits, and one of 64
abbrev pub IsByte : ℕ → Type 0
IsByte n = n < 256

abbrev pub IsFour : ℕ → Type 0
IsFour n = n < 2 ^ 32

abbrev pub IsEight : ℕ → Type 0
IsEight n = n < 2 ^ 64

-- each of a list
abbrev pub AllFit : {X : Type 0} → (X → Type 0) → List X → Type 0
AllFit P [] = Unit {0}
AllFit P (x ∷ xs) = P x × AllFit P xs

-- a list that 64 bits count, of such items
pub record IsList {X : Type 0} (P : X → Type 0) (xs : List X) : Type 0 where
  pub few : IsEight (length xs)
  pub each : AllFit P xs

-- the number of an operand
abbrev pub IsOperand : Operand → Type 0
IsOperand (Register label role x) = IsFour x.number
IsOperand (operand.Site n) = IsFour n
IsOperand (operand.Array n) = IsFour n
IsOperand (operand.Column n) = IsFour n
IsOperand (operand.Slot n) = IsFour n
IsOperand (operand.Parameter n) = IsFour n
IsOperand (operand.Ahead n) = IsFour n
IsOperand (operand.Back n) = IsFour n
IsOperand (operand.Type label t) = Unit {0}
IsOperand (operand.Value t v) = Unit {0}
IsOperand (operand.Unary op) = Unit {0}
IsOperand (operand.Binary op) = Unit {0}
IsOperand (operand.Function f) = Unit {0}
IsOperand (operand.Query what) = Unit {0}
IsOperand (operand.Read r) = IsFour (index_of_root r)
IsOperand (operand.Written r) = IsFour (index_of_root r)

abbrev pub IsStep : Step → Type 0
IsStep s = AllFit IsOperand (row_of s).operands

pub record AreCounts (c : Counts) : Type 0 where
  pub narrow : IsFour c.narrow
  pub wide : IsFour c.wide
  pub masks : IsFour c.masks
  pub scalars : IsFour c.scalars

-- a code, by the rules for its steps
pub record IsCode (c : PlainCode) : Type 0 where
  pub steps : IsList IsStep c.steps
  pub counts : AreCounts c.counts
  pub code : is_code c.counts c.steps ≡ true

abbrev mutual
  pub IsWork : Work → Type 0
  IsWork (Items code) = IsCode code
  IsWork (Seq works) = IsEight (count_of_works works) × AreWorks works
  IsWork (Vote test agreed refused mixed) = IsCode test × IsWork agreed × IsWork refused × IsCode mixed
  IsWork (Loop test_first test body rest) = IsWork test × IsWork body × IsCode rest

  pub AreWorks : Works → Type 0
  AreWorks idle = Unit {0}
  AreWorks (then_work first others) = IsWork first × AreWorks others

abbrev pub IsPlace : Place → Type 0
IsPlace p = IsFour p.line × IsFour p.column

abbrev pub IsKind : VarKind → Type 0
IsKind (ScalarKind t) = Unit {0}
IsKind (Pointer space element root) = IsFour (index_of_root root)

pub record IsTable (t : PlainTable) : Type 0 where
  pub name : IsList IsByte t.name
  pub dims : IsList IsEight t.dims
  pub place : IsPlace t.place
  pub bytes : IsList IsByte t.bytes

abbrev pub AreSizes : Option (List ℕ) → Type 0
AreSizes None = Unit {0}
AreSizes (Some sizes) = (length sizes ≡ 3) × AllFit IsEight sizes

-- ---- objects

-- the program of a group, its numbers and codes as their types have them, whose local arrays have at most 65,536
-- bytes together, and its private arrays 16,384
pub record IsObject (o : PlainObject) : Type 0 where
  pub kernel : IsList IsByte o.kernel
  pub params : IsList IsKind o.params
  pub tables : IsList IsTable o.tables
  pub locals : IsList IsEight o.locals
  pub privates : IsList IsEight o.privates
  pub columns : IsFour o.columns
  pub slots : IsFour o.slots
  pub sites : IsList IsPlace o.sites
  pub top : IsWork o.top
  pub sizes : AreSizes o.sizes
  pub program : is_group_program (group_in o) ≡ true
  pub local_limit : sum o.locals ≤ local_most
  pub private_limit : sum o.privates ≤ private_most

-- the bytes are the text of this object
pub record IsObjectOf (bytes : List ℕ) (o : PlainObject) : Type 0 where
  pub object : IsObject o
  pub text : bytes ≡ object_text o
