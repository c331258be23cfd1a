-- A condition on the text of a kernel alone, under which it is even in these cells: each gets values of such cells
-- only where it is live, and is not set under a test of others.
use Rattle.std.specs.Prelude.{◌≡◌, ℕ, List, [], ◌∷◌, ◌&&◌, ◌||◌, not, nat_eq, nat_lt, length, slice_get}
use Rattle.std.specs.Prelude.{Bool as Test, true, false}
use Rattle.cl_model.specs.declared.program.Root.{Root}
use Rattle.cl_model.specs.declared.program.Root.TheVariants.{Param, Constant, Local, Private}
use Rattle.cl_model.specs.Objects.{is_constant_pointer}
use Rattle.cl_model.specs.Varying.{is_own}
use Rattle.kir.specs.declared.line.Atom.{Atom}
use Rattle.kir.specs.declared.line.Atom.TheVariants.{Const, Cell as CellAtom}
use Rattle.kir.specs.Tree.{Work, Unary, Binary, Builtin, Convert, Ask, Argument, Copy, Lines, NoLine, SetThen}
use Rattle.kir.specs.Tree.{LoadThen, StoreThen, ClearThen, IfThen, LoopThen, BarrierThen, Kernel}
use Rattle.kir.specs.Live.{reads, live_in}

-- an atom, and what a line computes, are made of even cells alone
abbrev pub atom_even : (ℕ → Test) → Atom → Test
atom_even even (Const value of) = true
atom_even even (CellAtom c) = even c

abbrev pub atoms_even : (ℕ → Test) → List Atom → Test
atoms_even even [] = true
atoms_even even (a ∷ atoms) = atom_even even a && atoms_even even atoms

abbrev pub work_even : (ℕ → Test) → Work → Test
work_even even (Unary op of a) = atom_even even a
work_even even (Binary op of a b) = atom_even even a && atom_even even b
work_even even (Builtin f of args) = atoms_even even args
work_even even (Convert to a) = atom_even even a
work_even even (Ask what dim) = not (is_own what) && atom_even even dim
work_even even (Argument number) = true
work_even even (Copy a) = atom_even even a

-- the root leads to constant memory
abbrev pub is_constant_root : Kernel → Root → Test
is_constant_root kernel (Param n) = is_constant_pointer (slice_get kernel.params n)
is_constant_root kernel (Constant n) = nat_lt n (length kernel.tables)
is_constant_root kernel (Local n) = false
is_constant_root kernel (Private n) = false

-- a line of these sets the cell
abbrev pub sets_in : ℕ → Lines → Test
sets_in c NoLine = false
sets_in c (SetThen to work rest) = nat_eq to c || sets_in c rest
sets_in c (LoadThen site to element root index rest) = nat_eq to c || sets_in c rest
sets_in c (StoreThen site element root index from rest) = sets_in c rest
sets_in c (ClearThen array rest) = sets_in c rest
sets_in c (IfThen site test chosen other rest) = (sets_in c chosen || sets_in c other) || sets_in c rest
sets_in c (LoopThen site test_first test answer body rest) = (sets_in c test || sets_in c body) || sets_in c rest
sets_in c (BarrierThen site rest) = sets_in c rest

-- live behind the test of a loop, where `after` says whether the cell is so behind the loop
abbrev pub tested : (test : Lines) → Atom → (body : Lines) → (ℕ → Test) → ℕ → Test
tested test answer body after c = reads c answer || (after c || live_in c body (live_in c test false))

-- the lines are steady, where `out` says which cells are live behind them
abbrev pub IsSteady : Kernel → (even : ℕ → Test) → (out : ℕ → Test) → Lines → Type 0
IsSteady kernel even out NoLine = Unit {0}
IsSteady kernel even out (SetThen to work rest) =
    (live_in to rest (out to) ≡ true → even to ≡ true → work_even even work ≡ true) × IsSteady kernel even out rest
IsSteady kernel even out (LoadThen site to element root index rest) =
    (live_in to rest (out to) ≡ true → even to ≡ true → (is_constant_root kernel root ≡ true) ×
    (atom_even even index ≡ true)) × IsSteady kernel even out rest
IsSteady kernel even out (StoreThen site element root index from rest) = IsSteady kernel even out rest
IsSteady kernel even out (ClearThen array rest) = IsSteady kernel even out rest
IsSteady kernel even out (IfThen site test chosen other rest) =
    (atom_even even test ≡ false → (c : ℕ) → even c ≡ true → live_in c rest (out c) ≡ true →
    (sets_in c chosen || sets_in c other) ≡ false)
    × IsSteady kernel even (λ c. live_in c rest (out c)) chosen ×
    IsSteady kernel even (λ c. live_in c rest (out c)) other × IsSteady kernel even out rest
IsSteady kernel even out (LoopThen site test_first test answer body rest) =
    (atom_even even answer ≡ false → (c : ℕ) → even c ≡ true → live_in c rest (out c) ≡ true →
    (sets_in c test || sets_in c body) ≡ false)
    × IsSteady kernel even (tested test answer body (λ c. live_in c rest (out c))) test
    × IsSteady kernel even (λ c. live_in c test (tested test answer body (λ d. live_in d rest (out d)) c)) body ×
    IsSteady kernel even out rest
IsSteady kernel even out (BarrierThen site rest) = IsSteady kernel even out rest
