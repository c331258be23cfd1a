-- When what lines compute of constants may be computed beforehand: each constant is a value of the type in which it is
-- computed.
use Rattle.std.specs.Prelude.{ℕ, List, [], ◌∷◌}
use Rattle.std.specs.Prelude.{Bool as Test}
use Rattle.wg_num.specs.declared.types.IntType.{IntType}
use Rattle.wg_num.specs.declared.types.Bin.{Bin}
use Rattle.wg_num.specs.Wrap.{IsValue}
use Rattle.wg_num.specs.Operators.{IsOperand}
use Rattle.kir.specs.declared.line.Atom.{Atom}
use Rattle.kir.specs.declared.line.Atom.TheVariants.{Const, Cell as CellAtom}
use Rattle.kir.specs.Tree.{Work, Unary, Binary, Builtin, Convert, Ask, Argument, Copy, Lines, NoLine, SetThen}
use Rattle.kir.specs.Tree.{LoadThen, StoreThen, ClearThen, IfThen, LoopThen, BarrierThen}
use Rattle.kir_simplify.specs.Passes.{Known, known_work, settled_work, learnt, with_offsets}

-- a constant is a value of the type
abbrev pub IsValueOf : IntType → Atom → Type 0
IsValueOf t (Const value of) = IsValue t value
IsValueOf t (CellAtom c) = Unit {0}

-- all constants are
abbrev pub AreValuesOf : IntType → List Atom → Type 0
AreValuesOf t [] = Unit {0}
AreValuesOf t (a ∷ atoms) = IsValueOf t a × AreValuesOf t atoms

-- a constant may be the operator's right operand
abbrev pub IsRightOf : Bin → IntType → Atom → Type 0
IsRightOf op t (Const value of) = IsOperand op t value
IsRightOf op t (CellAtom c) = Unit {0}

-- the work's constants are values of the type in which it is computed
abbrev pub IsComputable : Work → Type 0
IsComputable (Unary op of a) = IsValueOf of a
IsComputable (Binary op of a b) = IsValueOf of a × IsRightOf op of b
IsComputable (Builtin f of args) = AreValuesOf of args
IsComputable (Convert to a) = Unit {0}
IsComputable (Ask what dim) = Unit {0}
IsComputable (Argument number) = Unit {0}
IsComputable (Copy a) = Unit {0}

-- so are those of each line, where these constants are known before the lines, and where these cells hold offsets
abbrev pub AreComputable : (once offsets : ℕ → Test) → Known → Lines → Type 0
AreComputable once offsets known NoLine = Unit {0}
AreComputable once offsets known (SetThen to work rest) =
    IsComputable (known_work known work) ×
    AreComputable once offsets (learnt once known to (settled_work (known_work known work))) rest
AreComputable once offsets known (LoadThen site to element root index rest) = AreComputable once offsets known rest
AreComputable once offsets known (StoreThen site element root index from rest) = AreComputable once offsets known rest
AreComputable once offsets known (ClearThen array rest) = AreComputable once offsets known rest
AreComputable once offsets known (IfThen site test chosen other rest) =
    AreComputable once offsets known chosen × AreComputable once offsets known other ×
    AreComputable once offsets known rest
AreComputable once offsets known (LoopThen site test_first test answer body rest) =
    AreComputable once offsets (with_offsets offsets known) test ×
    AreComputable once offsets (with_offsets offsets known) body × AreComputable once offsets known rest
AreComputable once offsets known (BarrierThen site rest) = AreComputable once offsets known rest
