-- What the registers of a region's cells and constants are.
use Rattle.std.specs.Prelude.{◌≡◌, ℕ, ◌<◌, List, [], ◌∷◌, length, Some, None, slice_index_or, true}
use Rattle.kir.specs.declared.line.Atom.{Atom}
use Rattle.kir.specs.declared.line.Atom.TheVariants.{Const, Cell as CellAtom}
use Rattle.kir.specs.Tree.{Kernel}
use Rattle.kir.specs.Live.{some_reads}
use Rattle.kir.specs.CellTypes.{type_of}
use Rattle.lane_values.specs.Lanes.{lane}
use Rattle.lane_code.specs.declared.step.Bank.{Bank}
use Rattle.lane_code.specs.declared.step.Bank.TheVariants.{Narrow, Wide, Mask, Scalar}
use Rattle.lane_code.specs.Fits.{bank_of}
use Rattle.lane_code.specs.Registers.{Registers, bits_in}
use Rattle.mask_lower.specs.declared.registers.Free.{Free}
use Rattle.mask_lower.specs.declared.registers.Operand.{Operand}
use Rattle.mask_lower.specs.Banks.{register_at}
use Rattle.mask_lower.specs.Registers.{Frame, past_atom}
use Rattle.mask_lower_correct.specs.View.{value_at, Differ}

-- the first free register of a bank
abbrev pub number_in : Free → Bank → ℕ
number_in next Narrow = next.narrow
number_in next Wide = next.wide
number_in next Mask = 0
number_in next Scalar = 0

-- a cell's register is of the bank of the cell's type, below those for what is on its way
pub record IsEntry (kernel : Kernel) (f : Frame) (c : ℕ) (op : Operand) : Type 0 where
  pub typed : type_of kernel c ≡ Some op.of
  pub bank : op.at.bank ≡ bank_of op.of
  pub below : op.at.number < number_in f.scratch op.at.bank

-- each cell that one of the atoms names has a register of its own
pub record IsFramed (kernel : Kernel) (f : Frame) (atoms : List Atom) : Type 0 where
  pub entries : (c : ℕ) (op : Operand) → slice_index_or f.cells c None ≡ Some op → IsEntry kernel f c op
  pub apart : (c d : ℕ) (op op' : Operand) → (c ≡ d → ⊥) → slice_index_or f.cells c None ≡ Some op →
      slice_index_or f.cells d None ≡ Some op' → Differ op.at op'.at
  pub named : (c : ℕ) → some_reads c atoms ≡ true → c < length kernel.cells → (op : Operand) ×
      (slice_index_or f.cells c None ≡ Some op)

-- each constant that atoms name is in its register, above those for what is on its way, in all lanes
abbrev pub HeldAt : Frame → (width : ℕ) → Registers → Free → Atom → Type 0
HeldAt f width r next (Const value of) =
    (number_in f.scratch (bank_of of) < (register_at next of).number) ×
    ((l : ℕ) → l < width → value_at r (register_at next of) l ≡ lane (bits_in (bank_of of)) value)
HeldAt f width r next (CellAtom c) = Unit {0}

abbrev pub Held : Frame → (width : ℕ) → Registers → Free → List Atom → Type 0
Held f width r next [] = Unit {0}
Held f width r next (a ∷ atoms) = HeldAt f width r next a × Held f width r (past_atom next a) atoms
