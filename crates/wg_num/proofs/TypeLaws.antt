-- Types that the test finds to be one are equal.
use Rattle.std.proofs.Common.{◌≡◌, true, refl}
use Rattle.std.proofs.lemmas.Bool.{false≢true}
use Rattle.wg_num.specs.declared.types.IntType.{IntType}
use Rattle.wg_num.specs.declared.types.IntType.TheVariants as types
use Rattle.wg_num.specs.Types.{same_type}

pub same_type_is : (t u : IntType) → same_type t u ≡ true → t ≡ u
same_type_is types.Bool types.Bool h = refl
same_type_is types.Char types.Char h = refl
same_type_is types.Uchar types.Uchar h = refl
same_type_is types.Short types.Short h = refl
same_type_is types.Ushort types.Ushort h = refl
same_type_is types.Int types.Int h = refl
same_type_is types.Uint types.Uint h = refl
same_type_is types.Long types.Long h = refl
same_type_is types.Ulong types.Ulong h = refl
same_type_is _ _ h = absurd (false≢true h)
