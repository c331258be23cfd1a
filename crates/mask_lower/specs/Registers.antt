-- The registers of a region: first those of the cells that it names, then one of each bank for what is on its way to
-- another bank, then one for each constant that it names.
use Rattle.std.specs.Prelude.{ℕ, ◌+◌, List, [], ◌∷◌, Option, Some, None, length, replicate, unwrap_or, slice_index_or}
use Rattle.std.specs.Prelude.{slice_set, if◌then◌else◌}
use Rattle.std.specs.Prelude.{Bool as Test, true, false}
use Rattle.wg_num.specs.declared.types.IntType.TheVariants.{Int}
use Rattle.cl_model.specs.declared.program.Root.{Root}
use Rattle.cl_model.specs.declared.program.Root.TheVariants.{Param, Constant, Local, Private}
use Rattle.cl_model.specs.Tree.{Array}
use Rattle.cl_model.specs.Objects.{is_local, is_private}
use Rattle.kir.specs.declared.line.Atom.{Atom}
use Rattle.kir.specs.declared.line.Atom.TheVariants.{Const, Cell as CellAtom}
use Rattle.kir.specs.Tree.{Cell, Kernel}
use Rattle.lane_code.specs.declared.step.Bank.TheVariants.{Narrow}
use Rattle.lane_code.specs.declared.step.Step.{Step}
use Rattle.lane_code.specs.declared.step.Step.TheVariants.{Const as ConstStep}
use Rattle.mask_lower.specs.declared.registers.Free.{Free}
use Rattle.mask_lower.specs.declared.registers.Operand.{Operand}
use Rattle.mask_lower.specs.declared.registers.Layout.{Layout}
use Rattle.mask_lower.specs.Banks.{reg, register_at, advanced}

-- the table of cells in which those that the atoms name are marked
abbrev pub marked : List Test → List Atom → List Test
marked marks [] = marks
marked marks (Const value of ∷ atoms) = marked marks atoms
marked marks (CellAtom c ∷ atoms) = marked (slice_set marks c true) atoms

-- the register of each marked cell, where the first cell has this number and these registers are free: dense in each
-- bank, in the order of the cells
abbrev pub cells_from : List Test → Free → (number : ℕ) → List Cell → List (Option Operand)
cells_from marks next number [] = []
cells_from marks next number (cell ∷ cells) =
    (if slice_index_or marks number false
    then Some (record { of = cell.of; at = register_at next cell.of }) ∷ cells_from marks (advanced next cell.of)
    (number + 1) cells
    else None ∷ cells_from marks next (number + 1) cells)

-- the registers that are free behind those of the marked cells
abbrev pub behind_cells : List Test → Free → (number : ℕ) → List Cell → Free
behind_cells marks next number [] = next
behind_cells marks next number (cell ∷ cells) =
    (if slice_index_or marks number false then behind_cells marks (advanced next cell.of) (number + 1) cells else
    behind_cells marks next (number + 1) cells)

-- one more where the test holds
abbrev pub more_if : Test → ℕ → ℕ
more_if b n = if b then n + 1 else n

-- the number of each array among those of its space, behind so many local and private ones
abbrev pub places_from : (locals privates : ℕ) → List Array → List ℕ
places_from locals privates [] = []
places_from locals privates (array ∷ arrays) =
    (if is_local array.space then locals else privates) ∷ places_from (more_if (is_local array.space) locals)
    (more_if (is_private array.space) privates) arrays

-- what the code of a region is made with: the register and type of each cell that it names, the number of each array
-- among those of its space, and the registers for what is on its way to another bank
pub record Frame : Type 0 where
  pub cells : List (Option Operand)
  pub arrays : List ℕ
  pub scratch : Free

-- the plain view of a layout
abbrev pub frame_of : Layout → Frame
frame_of layout = record { cells = layout.cells.items; arrays = layout.arrays.items; scratch = layout.scratch }

-- no register is in use
abbrev pub all_free : Free
all_free = record { narrow = 0; wide = 0 }

-- the cells that the atoms name
abbrev pub marks_of : Kernel → List Atom → List Test
marks_of kernel atoms = marked (replicate (length kernel.cells) false) atoms

-- the frame of a region of the kernel that names these atoms
abbrev pub frame_for : Kernel → List Atom → Frame
frame_for kernel atoms = record {
  cells = cells_from (marks_of kernel atoms) all_free 0 kernel.cells;
  arrays = places_from 0 0 kernel.arrays;
  scratch = behind_cells (marks_of kernel atoms) all_free 0 kernel.cells;
}

-- the first registers of constants
abbrev pub first_constants : Frame → Free
first_constants f = record { narrow = f.scratch.narrow + 1; wide = f.scratch.wide + 1 }

-- what stands for a cell that is not named
abbrev pub nowhere : Operand
nowhere = record { of = Int; at = reg Narrow 0 }

-- the register and type of a cell
abbrev pub cell_at : List (Option Operand) → ℕ → Operand
cell_at cells c = unwrap_or (slice_index_or cells c None) nowhere

-- the register and type of an atom, where these registers are free for constants
abbrev pub operand : List (Option Operand) → Free → Atom → Operand
operand cells next (Const value of) = record { of = of; at = register_at next of }
operand cells next (CellAtom c) = cell_at cells c

-- the registers that are free for constants behind that of an atom
abbrev pub past_atom : Free → Atom → Free
past_atom next (Const value of) = advanced next of
past_atom next (CellAtom c) = next

-- and behind atoms
abbrev pub past : Free → List Atom → Free
past next [] = next
past next (a ∷ atoms) = past (past_atom next a) atoms

-- each constant that atoms name is put into its register
abbrev pub constants : Free → List Atom → List Step
constants next [] = []
constants next (Const value of ∷ atoms) = ConstStep (register_at next of) of value ∷ constants (advanced next of) atoms
constants next (CellAtom c ∷ atoms) = constants next atoms

-- a root of a kernel by the numbers of its arrays: lane code numbers the local arrays and the private arrays each by
-- themselves
abbrev pub root_at : List ℕ → Root → Root
root_at arrays (Param n) = Param n
root_at arrays (Constant n) = Constant n
root_at arrays (Local n) = Local (slice_index_or arrays n 0)
root_at arrays (Private n) = Private (slice_index_or arrays n 0)
