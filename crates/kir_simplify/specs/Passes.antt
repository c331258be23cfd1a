-- The simplification of a kernel: rounds of three passes, until one changes nothing. Each pass is one walk over the
-- lines. The first computes what is computed of constants alone and puts constants in place of cells that stand for
-- them, in loops also of the offsets of pointers that are parameters; it leaves each line where it is. The second puts
-- the branch that a constant chooses in place of its if. The third leaves out values that no line reads.
use Rattle.std.specs.Prelude.{ℕ, zero, suc, ◌+◌, ℤ, pos, List, [], ◌∷◌, Option, Some, None, map, unwrap_or}
use Rattle.std.specs.Prelude.{◌&&◌, ◌||◌, nat_eq, nat_lt, if◌then◌else◌}
use Rattle.std.specs.Prelude.{Bool as Test, false}
use Rattle.wg_num.specs.declared.types.IntType.{IntType}
use Rattle.wg_num.specs.declared.types.IntType.TheVariants.{Int, Long}
use Rattle.wg_num.specs.declared.types.Bin.{Bin}
use Rattle.wg_num.specs.Wrap.{wrap_of}
use Rattle.wg_num.specs.Operators.{unary_of, binary_of}
use Rattle.wg_num.specs.Builtins.{builtin_of, result_type}
use Rattle.cl_model.specs.declared.program.VarKind.{VarKind}
use Rattle.cl_model.specs.Steps.{nth}
use Rattle.cl_model.specs.Valid.{unary_type, binary_type}
use Rattle.cl_model.specs.Values.{is_zero}
use Rattle.kir.specs.declared.line.Atom.{Atom}
use Rattle.kir.specs.declared.line.Atom.TheVariants.{Const, Cell as CellAtom}
use Rattle.kir.specs.Tree.{Work, Unary, Binary, Builtin, Convert, Ask, Argument, Copy, Lines, NoLine, SetThen}
use Rattle.kir.specs.Tree.{LoadThen, StoreThen, ClearThen, IfThen, LoopThen, BarrierThen, joined_to, Kernel}
use Rattle.kir_simplify.specs.Simple.{is_foregone, is_plain, is_decided, is_unread, is_set_once}
use Rattle.kir_simplify.specs.Offsets.{is_long_sum, is_zero_constant, is_offset}
use Rattle.kir_simplify.specs.Faithful.{with_body}

-- ---- constants

-- the atoms that are known to stand for cells
abbrev pub Known : Type 0
Known = ℕ → Option Atom

abbrev pub nothing_known : Known
nothing_known c = None

abbrev pub learned : Known → ℕ → Atom → Known
learned known to a = λ c. if nat_eq c to then Some a else known c

-- what stands for an atom
abbrev pub known_atom : Known → Atom → Atom
known_atom known (Const value of) = Const value of
known_atom known (CellAtom c) = unwrap_or (known c) (CellAtom c)

abbrev pub known_work : Known → Work → Work
known_work known (Unary op of a) = Unary op of (known_atom known a)
known_work known (Binary op of a b) = Binary op of (known_atom known a) (known_atom known b)
known_work known (Builtin f of args) = Builtin f of (map (known_atom known) args)
known_work known (Convert to a) = Convert to (known_atom known a)
known_work known (Ask what dim) = Ask what (known_atom known dim)
known_work known (Argument number) = Argument number
known_work known (Copy a) = Copy (known_atom known a)

-- the value of a constant
abbrev pub constant_value : Atom → ℤ
constant_value (Const value of) = value
constant_value (CellAtom c) = pos 0

-- what is computed of constants alone, and its type
abbrev pub foregone_value : Work → ℤ
foregone_value (Unary op of a) = unary_of op of (constant_value a)
foregone_value (Binary op of a b) = binary_of op of (constant_value a) (constant_value b)
foregone_value (Builtin f of args) =
    builtin_of f of (nth (map constant_value args) 0) (nth (map constant_value args) 1)
    (nth (map constant_value args) 2)
foregone_value (Convert to a) = wrap_of to (constant_value a)
foregone_value (Ask what dim) = pos 0
foregone_value (Argument number) = pos 0
foregone_value (Copy a) = constant_value a

abbrev pub foregone_type : Work → IntType
foregone_type (Unary op of a) = unary_type op of
foregone_type (Binary op of a b) = binary_type op of
foregone_type (Builtin f of args) = result_type f of
foregone_type (Convert to a) = to
foregone_type (Ask what dim) = Int
foregone_type (Argument number) = Int
foregone_type (Copy a) = Int

-- a sum of type long whose left operand is the constant 0, as that of the offset 0 and an index is, is a conversion
abbrev pub reduced_binary : Bin → IntType → Atom → Atom → Work
reduced_binary op of a b = if is_long_sum op of && is_zero_constant a then Convert of b else Binary op of a b

abbrev pub reduced_work : Work → Work
reduced_work (Unary op of a) = Unary op of a
reduced_work (Binary op of a b) = reduced_binary op of a b
reduced_work (Builtin f of args) = Builtin f of args
reduced_work (Convert to a) = Convert to a
reduced_work (Ask what dim) = Ask what dim
reduced_work (Argument number) = Argument number
reduced_work (Copy a) = Copy a

-- it is computed now where it can be
abbrev pub settled_work : Work → Work
settled_work work =
    if is_foregone work then Copy (Const (foregone_value work) (foregone_type work)) else reduced_work work

-- what is copied
abbrev pub copied : Work → Atom
copied (Unary op of a) = Const (pos 0) Int
copied (Binary op of a b) = Const (pos 0) Int
copied (Builtin f of args) = Const (pos 0) Int
copied (Convert to a) = Const (pos 0) Int
copied (Ask what dim) = Const (pos 0) Int
copied (Argument number) = Const (pos 0) Int
copied (Copy a) = a

-- behind a line that sets a cell which no other line sets, to a constant, the constant stands for the cell
abbrev pub learnt : (once : ℕ → Test) → Known → ℕ → Work → Known
learnt once known to work = if once to && is_plain work then learned known to (copied work) else known

-- one line alone sets the cell, to the offset of a pointer that is a parameter, and that line is one of these and stands
-- in none of them: the cell holds 0 from an item's start on
abbrev pub holds_offset : (once : ℕ → Test) → List VarKind → ℕ → Lines → Test
holds_offset once kinds c NoLine = false
holds_offset once kinds c (SetThen to work rest) =
    (nat_eq c to && (once to && is_offset kinds work)) || holds_offset once kinds c rest
holds_offset once kinds c (LoadThen site to element root index rest) = holds_offset once kinds c rest
holds_offset once kinds c (StoreThen site element root index from rest) = holds_offset once kinds c rest
holds_offset once kinds c (ClearThen array rest) = holds_offset once kinds c rest
holds_offset once kinds c (IfThen site test chosen other rest) = holds_offset once kinds c rest
holds_offset once kinds c (LoopThen site test_first test answer body rest) = holds_offset once kinds c rest
holds_offset once kinds c (BarrierThen site rest) = holds_offset once kinds c rest

-- where nothing is known of a cell that holds an offset, it is 0
abbrev pub or_offset : Option Atom → Test → Option Atom
or_offset (Some a) offset = Some a
or_offset None offset = if offset then Some (Const (pos 0) Long) else None

-- what is known in a loop: that these cells hold offsets, too
abbrev pub with_offsets : (ℕ → Test) → Known → Known
with_offsets offsets known c = or_offset (known c) (offsets c)

-- the lines, where these constants are known before them, and where these cells hold offsets
abbrev pub folded : (once offsets : ℕ → Test) → Known → Lines → Lines
folded once offsets known NoLine = NoLine
folded once offsets known (SetThen to work rest) =
    SetThen to (settled_work (known_work known work))
    (folded once offsets (learnt once known to (settled_work (known_work known work))) rest)
folded once offsets known (LoadThen site to element root index rest) =
    LoadThen site to element root (known_atom known index) (folded once offsets known rest)
folded once offsets known (StoreThen site element root index from rest) =
    StoreThen site element root (known_atom known index) (known_atom known from) (folded once offsets known rest)
folded once offsets known (ClearThen array rest) = ClearThen array (folded once offsets known rest)
folded once offsets known (IfThen site test chosen other rest) =
    IfThen site (known_atom known test) (folded once offsets known chosen) (folded once offsets known other)
    (folded once offsets known rest)
folded once offsets known (LoopThen site test_first test answer body rest) =
    LoopThen site test_first (folded once offsets (with_offsets offsets known) test)
    (known_atom (with_offsets offsets known) answer) (folded once offsets (with_offsets offsets known) body)
    (folded once offsets known rest)
folded once offsets known (BarrierThen site rest) = BarrierThen site (folded once offsets known rest)

-- the cells that hold the offsets of a kernel's pointers
abbrev pub offsets_of : Kernel → ℕ → Test
offsets_of kernel c = holds_offset (is_set_once kernel) kernel.params c kernel.body

abbrev pub folded_of : Kernel → Kernel
folded_of kernel = with_body kernel (folded (is_set_once kernel) (offsets_of kernel) nothing_known kernel.body)

-- ---- branches

-- the lines without branches that a constant chooses; those of an if that holds a barrier stay, since items are said
-- to part there
abbrev pub spliced : Lines → Lines
spliced NoLine = NoLine
spliced (SetThen to work rest) = SetThen to work (spliced rest)
spliced (LoadThen site to element root index rest) = LoadThen site to element root index (spliced rest)
spliced (StoreThen site element root index from rest) = StoreThen site element root index from (spliced rest)
spliced (ClearThen array rest) = ClearThen array (spliced rest)
spliced (IfThen site test chosen other rest) =
    if is_decided test chosen other
    then joined_to (if is_zero (constant_value test) then spliced other else spliced chosen) (spliced rest)
    else IfThen site test (spliced chosen) (spliced other) (spliced rest)
spliced (LoopThen site test_first test answer body rest) =
    LoopThen site test_first (spliced test) answer (spliced body) (spliced rest)
spliced (BarrierThen site rest) = BarrierThen site (spliced rest)

abbrev pub spliced_of : Kernel → Kernel
spliced_of kernel = with_body kernel (spliced kernel.body)

-- ---- values that no line reads

abbrev pub swept : (unread : ℕ → Test) → Lines → Lines
swept unread NoLine = NoLine
swept unread (SetThen to work rest) = if unread to then swept unread rest else SetThen to work (swept unread rest)
swept unread (LoadThen site to element root index rest) = LoadThen site to element root index (swept unread rest)
swept unread (StoreThen site element root index from rest) =
    StoreThen site element root index from (swept unread rest)
swept unread (ClearThen array rest) = ClearThen array (swept unread rest)
swept unread (IfThen site test chosen other rest) =
    IfThen site test (swept unread chosen) (swept unread other) (swept unread rest)
swept unread (LoopThen site test_first test answer body rest) =
    LoopThen site test_first (swept unread test) answer (swept unread body) (swept unread rest)
swept unread (BarrierThen site rest) = BarrierThen site (swept unread rest)

abbrev pub swept_of : Kernel → Kernel
swept_of kernel = with_body kernel (swept (is_unread kernel) kernel.body)

-- ---- rounds

-- what a round makes smaller: the cells that are read, the operators, those of two operands twice, and the lines
abbrev pub atom_size : Atom → ℕ
atom_size (Const value of) = 0
atom_size (CellAtom c) = 1

abbrev pub atoms_size : List Atom → ℕ
atoms_size [] = 0
atoms_size (a ∷ atoms) = atom_size a + atoms_size atoms

abbrev pub work_size : Work → ℕ
work_size (Unary op of a) = suc (atom_size a)
work_size (Binary op of a b) = suc (suc (atom_size a + atom_size b))
work_size (Builtin f of args) = suc (atoms_size args)
work_size (Convert to a) = suc (atom_size a)
work_size (Ask what dim) = atom_size dim
work_size (Argument number) = 0
work_size (Copy a) = atom_size a

abbrev pub size_of : Lines → ℕ
size_of NoLine = 0
size_of (SetThen to work rest) = suc (work_size work + size_of rest)
size_of (LoadThen site to element root index rest) = suc (atom_size index + size_of rest)
size_of (StoreThen site element root index from rest) = suc (atom_size index + (atom_size from + size_of rest))
size_of (ClearThen array rest) = suc (size_of rest)
size_of (IfThen site test chosen other rest) =
    suc (atom_size test + (size_of chosen + (size_of other + size_of rest)))
size_of (LoopThen site test_first test answer body rest) =
    suc (size_of test + (atom_size answer + (size_of body + size_of rest)))
size_of (BarrierThen site rest) = suc (size_of rest)

abbrev pub round_of : Kernel → Kernel
round_of kernel = swept_of (spliced_of (folded_of kernel))

-- a round makes the kernel smaller
abbrev pub shrinks : Kernel → Test
shrinks kernel = nat_lt (size_of (round_of kernel).body) (size_of kernel.body)

-- so many rounds at most, while one makes the kernel smaller
abbrev pub rounds : ℕ → Kernel → Kernel
rounds zero kernel = kernel
rounds (suc n) kernel = if shrinks kernel then rounds n (round_of kernel) else kernel

-- the kernel that `simplify` answers
unfoldable pub simplified_of : Kernel → Kernel
simplified_of kernel = rounds (size_of kernel.body) kernel
