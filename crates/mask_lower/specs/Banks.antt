-- The two banks of lanes: values up to 32 bits, and values of 64 bits.
use Rattle.std.specs.Prelude.{ℕ, ◌+◌, not, if◌then◌else◌}
use Rattle.std.specs.Prelude.{Bool as Test, true, false}
use Rattle.wg_num.specs.declared.types.IntType.{IntType}
use Rattle.wg_num.specs.declared.types.IntType.TheVariants as type
use Rattle.lane_code.specs.declared.step.Bank.{Bank}
use Rattle.lane_code.specs.declared.step.Bank.TheVariants.{Narrow, Wide, Mask, Scalar}
use Rattle.lane_code.specs.declared.step.Reg.{Reg}
use Rattle.mask_lower.specs.declared.registers.Free.{Free}

-- values of the type have 64 bits
abbrev pub is_wide : IntType → Test
is_wide type.Bool = false
is_wide type.Char = false
is_wide type.Uchar = false
is_wide type.Short = false
is_wide type.Ushort = false
is_wide type.Int = false
is_wide type.Uint = false
is_wide type.Long = true
is_wide type.Ulong = true

-- the types have different banks
abbrev pub crosses : (of kind : IntType) → Test
crosses of kind = if is_wide of then not (is_wide kind) else is_wide kind

-- the type in which an operator of this type takes the amount of a shift
abbrev pub amount_type : IntType → IntType
amount_type of = if is_wide of then type.Long else type.Uint

-- a register by its bank and number
abbrev pub reg : Bank → ℕ → Reg
reg bank number = record { bank = bank; number = number }

-- the mask with this number
abbrev pub mask_reg : ℕ → Reg
mask_reg number = reg Mask number

-- the scalar register by which slots are read and written
abbrev pub slot_reg : Reg
slot_reg = reg Scalar 0

-- the first free register of the bank of a type
abbrev pub register_at : Free → IntType → Reg
register_at next of = if is_wide of then reg Wide next.wide else reg Narrow next.narrow

-- the registers that are free behind it
abbrev pub advanced : Free → IntType → Free
advanced next of = if is_wide of then record next { wide = next.wide + 1 } else record next { narrow = next.narrow + 1 }
