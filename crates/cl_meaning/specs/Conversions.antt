-- The types in which operators compute (C99, sections 6.3.1.1, 6.3.1.8 and 6.5; OpenCL 1.2, section 6.2.6).
use Rattle.std.specs.Prelude.{nat_lt, ◌==◌, if◌then◌else◌}
use Rattle.std.specs.Prelude.{Bool as Test, true, false}
use Rattle.wg_num.specs.declared.types.IntType.{IntType}
use Rattle.wg_num.specs.declared.types.Bin.{Bin}
use Rattle.wg_num.specs.declared.types.Bin.TheVariants.{Add, Sub, Mul, Div, Rem, Shl, Shr, And, Or, Xor, Eq, Ne, Lt}
use Rattle.wg_num.specs.declared.types.Bin.TheVariants.{Le, Gt, Ge}
use Rattle.wg_num.specs.Wrap.{width_bits, is_signed}
use Rattle.wg_num.specs.Operators.{is_shift}
pub use Rattle.cl_model.specs.Valid.{promoted, unary_type, binary_type}

-- of two promoted types the wider one, or of one width the unsigned one
abbrev pub common_promoted : IntType → IntType → IntType
common_promoted a b = if width_bits a == width_bits b then (if is_signed a then b else a) else
    (if nat_lt (width_bits a) (width_bits b) then b else a)

-- the common type of two operands
abbrev pub common : IntType → IntType → IntType
common a b = common_promoted (promoted a) (promoted b)

abbrev pub is_comparison : Bin → Test
is_comparison Add = false
is_comparison Sub = false
is_comparison Mul = false
is_comparison Div = false
is_comparison Rem = false
is_comparison Shl = false
is_comparison Shr = false
is_comparison And = false
is_comparison Or = false
is_comparison Xor = false
is_comparison Eq = true
is_comparison Ne = true
is_comparison Lt = true
is_comparison Le = true
is_comparison Gt = true
is_comparison Ge = true

-- the type in which an operator on two operands computes, and to which it converts the left one
abbrev pub operand_type : Bin → IntType → IntType → IntType
operand_type op a b = if is_shift op then promoted a else common a b

-- the type to which it converts the right one
abbrev pub right_type : Bin → IntType → IntType → IntType
right_type op a b = if is_shift op then promoted b else common a b
