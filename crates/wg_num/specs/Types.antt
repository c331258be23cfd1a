-- Whether two types are one, and whether a number is a value of a type, as tests.
use Rattle.std.specs.Prelude.{ℤ, ◌&&◌, int_le}
use Rattle.std.specs.Prelude.{Bool as Test, true, false}
use Rattle.wg_num.specs.declared.types.IntType.{IntType}
use Rattle.wg_num.specs.declared.types.IntType.TheVariants as types
use Rattle.wg_num.specs.Wrap.{lowest, highest}

abbrev pub same_type : IntType → IntType → Test
same_type types.Bool types.Bool = true
same_type types.Char types.Char = true
same_type types.Uchar types.Uchar = true
same_type types.Short types.Short = true
same_type types.Ushort types.Ushort = true
same_type types.Int types.Int = true
same_type types.Uint types.Uint = true
same_type types.Long types.Long = true
same_type types.Ulong types.Ulong = true
same_type _ _ = false

abbrev pub is_value : IntType → ℤ → Test
is_value t z = int_le (lowest t) z && int_le z (highest t)
