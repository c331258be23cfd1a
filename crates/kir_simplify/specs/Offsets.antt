-- What is known of pointers that are parameters: a launch binds the offset 0 to each, and the sum of it and an index is
-- the index.
use Rattle.std.specs.Prelude.{List, slice_get, ◌&&◌}
use Rattle.std.specs.Prelude.{Bool as Test, true, false}
use Rattle.wg_num.specs.declared.types.IntType.{IntType}
use Rattle.wg_num.specs.declared.types.IntType.TheVariants.{Long}
use Rattle.wg_num.specs.declared.types.Bin.{Bin}
use Rattle.wg_num.specs.declared.types.Bin.TheVariants as bin
use Rattle.wg_num.specs.Types.{same_type}
use Rattle.cl_model.specs.declared.program.VarKind.{VarKind}
use Rattle.cl_model.specs.Valid.{is_pointer}
use Rattle.cl_model.specs.Values.{is_zero}
use Rattle.kir.specs.declared.line.Atom.{Atom}
use Rattle.kir.specs.declared.line.Atom.TheVariants.{Const, Cell as CellAtom}
use Rattle.kir.specs.Tree.{Work, Unary, Binary, Builtin, Convert, Ask, Argument, Copy}

-- what is computed is the offset of a pointer that is a parameter of these kinds
abbrev pub is_offset : List VarKind → Work → Test
is_offset kinds (Unary op of a) = false
is_offset kinds (Binary op of a b) = false
is_offset kinds (Builtin f of args) = false
is_offset kinds (Convert to a) = false
is_offset kinds (Ask what dim) = false
is_offset kinds (Argument number) = is_pointer (slice_get kinds number)
is_offset kinds (Copy a) = false

-- the operator adds
abbrev pub is_add : Bin → Test
is_add bin.Add = true
is_add bin.Sub = false
is_add bin.Mul = false
is_add bin.Div = false
is_add bin.Rem = false
is_add bin.Shl = false
is_add bin.Shr = false
is_add bin.And = false
is_add bin.Or = false
is_add bin.Xor = false
is_add bin.Eq = false
is_add bin.Ne = false
is_add bin.Lt = false
is_add bin.Le = false
is_add bin.Gt = false
is_add bin.Ge = false

-- in the type of offsets and indices
abbrev pub is_long_sum : Bin → IntType → Test
is_long_sum op of = is_add op && same_type Long of

-- the atom is the constant 0
abbrev pub is_zero_constant : Atom → Test
is_zero_constant (Const value of) = is_zero value
is_zero_constant (CellAtom c) = false
