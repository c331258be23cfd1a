-- The atoms that lines name, in the order in which their code reads them.
use Rattle.std.specs.Prelude.{List, [], ◌∷◌, ◌++◌, Option, Some, None, if◌then◌else◌}
use Rattle.wg_num.specs.declared.types.IntType.{IntType}
use Rattle.wg_num.specs.declared.types.Bin.{Bin}
use Rattle.wg_num.specs.Operators.{is_shift}
use Rattle.wg_num.specs.Wrap.{wrap_of}
use Rattle.kir.specs.declared.line.Atom.{Atom}
use Rattle.kir.specs.declared.line.Atom.TheVariants.{Const, Cell}
use Rattle.kir.specs.Tree.{Work, Unary, Binary, Builtin, Convert, Ask, Argument, Copy, Lines, NoLine, SetThen}
use Rattle.kir.specs.Tree.{LoadThen, StoreThen, ClearThen, IfThen, LoopThen, BarrierThen}
use Rattle.regions.specs.Tree.{RegionOf}
use Rattle.mask_lower.specs.Banks.{crosses, amount_type}

-- what is read for the amount of a shift: a constant for the other bank is one of this bank
abbrev pub amount_atom : IntType → Atom → Atom
amount_atom of (Const value was) =
    if crosses of was then Const (wrap_of (amount_type of) value) (amount_type of) else Const value was
amount_atom of (Cell c) = Cell c

-- what is read for a right operand
abbrev pub right_atom : Bin → IntType → Atom → Atom
right_atom op of b = if is_shift op then amount_atom of b else b

-- what is read for what a line computes
abbrev pub atoms_of : Work → List Atom
atoms_of (Unary op of a) = a ∷ []
atoms_of (Binary op of a b) = a ∷ right_atom op of b ∷ []
atoms_of (Builtin g of args) = args
atoms_of (Convert to a) = a ∷ []
atoms_of (Ask what dim) = dim ∷ []
atoms_of (Argument number) = []
atoms_of (Copy a) = a ∷ []

-- what lines name: a loop's body stands before its test
abbrev pub atoms_in : Lines → List Atom
atoms_in NoLine = []
atoms_in (SetThen to work rest) = Cell to ∷ (atoms_of work ++ atoms_in rest)
atoms_in (LoadThen site to element root index rest) = Cell to ∷ index ∷ atoms_in rest
atoms_in (StoreThen site element root index from rest) = index ∷ from ∷ atoms_in rest
atoms_in (ClearThen array rest) = atoms_in rest
atoms_in (IfThen site test chosen other rest) = test ∷ (atoms_in chosen ++ (atoms_in other ++ atoms_in rest))
atoms_in (LoopThen site test_first test answer body rest) = atoms_in body ++ (atoms_in test ++ (answer ∷ atoms_in rest))
atoms_in (BarrierThen site rest) = atoms_in rest

-- the atom of a vote, if there is one
abbrev pub atoms_voted : Option Atom → List Atom
atoms_voted None = []
atoms_voted (Some answer) = answer ∷ []

-- what a region names: its lines and its answer
abbrev pub region_atoms : RegionOf → List Atom
region_atoms region = atoms_in region.lines ++ atoms_voted region.answer
