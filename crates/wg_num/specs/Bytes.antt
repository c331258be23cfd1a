-- A value in memory: its bytes in two's complement, lowest byte first.
use Rattle.std.specs.Prelude.{ℕ, ◌/◌, List, ℤ}
use Rattle.std.specs.Simd.Lanes.{digits_l, number_l}
use Rattle.wg_num.specs.declared.types.IntType.{IntType}
use Rattle.wg_num.specs.Wrap.{width_bits, bits_of, value_of}

-- how many bytes a value of the type takes
abbrev pub size_of : IntType → ℕ
size_of t = width_bits t / 8

-- the bytes of the value z
abbrev pub bytes_of : IntType → ℤ → List ℕ
bytes_of t z = digits_l 256 (size_of t) (bits_of z)

-- the value of the type that these bytes stand for; as bool, 0 where all are 0 and else 1
abbrev pub value_of_bytes : IntType → List ℕ → ℤ
value_of_bytes t bytes = value_of t (number_l 256 bytes)
