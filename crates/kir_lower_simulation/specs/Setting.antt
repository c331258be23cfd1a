-- What a simulation of a kernel's item by the program's speaks of, and the states of both.
use Rattle.std.specs.Prelude.{ℕ, ◌+◌, ℤ, List, ◌∷◌, length, nat_eq, if◌then◌else◌}
use Rattle.cl_model.specs.Tree.{Program}
use Rattle.cl_model.specs.Sizes.{Launch}
use Rattle.cl_model.specs.Calls.{function_at}
use Rattle.cl_model.specs.Task.{Task, Frame, Item as ProgramItem}
use Rattle.kir.specs.declared.line.Atom.{Atom}
use Rattle.kir.specs.Tree.{Variable, Kernel}
use Rattle.kir.specs.Places.{Tasks}
use Rattle.kir.specs.Steps.{Item}
use Rattle.kir_lower.specs.Made.{Instance}
use Rattle.kir_lower_shape.specs.Marks.{Marks}

-- a program and a kernel with the marks of its lines, a launch on buffers, and the number of an item
pub record Setting : Type 0 where
  pub program : Program
  pub kernel : Kernel
  pub marks : Marks
  pub launch : Launch
  pub buffers : List (List ℕ)
  pub item : ℕ

-- what the variables hold, and what the cells hold
abbrev pub Store : Type 0
Store = ℕ → ℤ

-- with one of them set
abbrev pub updated : Store → ℕ → ℤ → Store
updated held x v y = if nat_eq x y then v else held y

-- the kernel's item
abbrev pub kernel_item : Setting → Store → Tasks → Item
kernel_item S cells k = record { number = S.item; cells = cells; tasks = k }

-- the program's item
abbrev pub program_item : Setting → List Task → List ℤ → List Frame → ProgramItem
program_item S ts vs fs = record { number = S.item; tasks = ts; values = vs; frames = fs }

-- a function under way: its number, where it stands in the kernel, the objects that its parameters name, the frames
-- of the calls around it, how deep calls may nest from here, the atom of its result, and the first cell behind those
-- of its variables and its result
pub record Activation : Type 0 where
  pub function : ℕ
  pub here : Instance
  pub objects : ℕ → ℕ
  pub outer : List Frame
  pub depth : ℕ
  pub answer : Atom
  pub low : ℕ

-- its frame
abbrev pub frame : Activation → Store → Frame
frame C vars = record { function = C.function; path = C.here.calls; objects = C.objects; variables = vars }

-- the program's item in it
abbrev pub inside : Setting → Activation → List Task → List ℤ → Store → ProgramItem
inside S C ts vs vars = program_item S ts vs (frame C vars ∷ C.outer)

-- the first cell behind its variables
abbrev pub behind_variables : Setting → Activation → ℕ
behind_variables S C = C.here.base + length (function_at S.program C.function).variables

-- its variable with this number
abbrev pub own_variable : Activation → ℕ → Variable
own_variable C x = record { calls = C.here.calls; function = C.function; number = x }
