-- What the vector operations do in a lane of W bits, as the code writes them.
use Rattle.std.specs.Prelude.{ℕ, ◌+◌, ◌-◌, ◌*◌, ◌/◌, ◌%◌, ◌^◌, ◌≡◌, ◌⊎◌, if◌then◌else◌, nat_lt, nat_le, nat_eq}
use Rattle.std.specs.Prelude.{Bool, List, ◌&&◌, bit_and, min, max}
use Rattle.std.specs.Int.{from_bool}
use Rattle.std.specs.List.{list_all}
use Rattle.std.specs.Simd.Lanes.{number_l, chunk}
use Rattle.wg_num.specs.declared.types.IntType.{IntType}
use Rattle.wg_num.specs.declared.types.IntType.TheVariants.{Long, Ulong}
use Rattle.wg_num.specs.declared.types.Fun.{Fun}
use Rattle.wg_num.specs.Wrap.{is_signed, width_bits, modulus, half}
use Rattle.lane_values.specs.Lanes.{builtin_lane, extended}
use Rattle.lane_values.specs.Access.{is_within}

-- two to the width less one for a signed type: added to a lane it makes the order of values that of numbers
abbrev pub bias_of : ℕ → IntType → ℕ
bias_of W t = if is_signed t then 2 ^ (W - 1) else 0

abbrev pub raised : ℕ → ℕ → ℕ → ℕ
raised W bias p = (p + bias) % 2 ^ W

-- x, or its two's complement where s stands for a negative number
abbrev pub signed_by : ℕ → ℕ → ℕ → ℕ → ℕ
signed_by W bias s x = if nat_lt (raised W bias s) bias then (0 + (2 ^ W - x)) % 2 ^ W else x

-- the magnitude of q, or 1 for 0
abbrev pub divisor_of : ℕ → ℕ → ℕ → ℕ
divisor_of W bias q = if nat_eq (signed_by W bias q q) 0 then 1 else signed_by W bias q q

abbrev pub quotient_lane : ℕ → ℕ → ℕ → ℕ → ℕ
quotient_lane W bias p q =
    if nat_eq q 0 then 0 else signed_by W bias q (signed_by W bias p (signed_by W bias p p / divisor_of W bias q))

abbrev pub rest_lane : ℕ → ℕ → ℕ → ℕ → ℕ
rest_lane W bias p q = if nat_eq q 0 then p else signed_by W bias p (signed_by W bias p p % divisor_of W bias q)

abbrev pub shl_lane : ℕ → ℕ → ℕ → ℕ → ℕ
shl_lane W width p q = p * 2 ^ (q % width) % 2 ^ W

abbrev pub moved_lane : ℕ → ℕ → ℕ → ℕ → ℕ
moved_lane W bias p k = (raised W bias p / 2 ^ k + (2 ^ W - bias / 2 ^ k)) % 2 ^ W

abbrev pub shr_lane : ℕ → ℕ → ℕ → ℕ → ℕ → ℕ
shr_lane W bias width p q = moved_lane W bias p (q % width)

abbrev pub less_lane : ℕ → ℕ → ℕ → ℕ → ℕ
less_lane W bias p q = from_bool (nat_lt (raised W bias p) (raised W bias q))

abbrev pub at_most_lane : ℕ → ℕ → ℕ → ℕ → ℕ
at_most_lane W bias p q = from_bool (nat_le (raised W bias p) (raised W bias q))

-- how many bytes a value may have
pub record IsSize (size : ℕ) : Type 0 where
  pub small : (size ≡ 1) ⊎ ((size ≡ 2) ⊎ ((size ≡ 4) ⊎ (size ≡ 8)))

-- and a value of at most 32 bits
pub record IsNarrowSize (size : ℕ) : Type 0 where
  pub small : (size ≡ 1) ⊎ ((size ≡ 2) ⊎ (size ≡ 4))

-- the number whose bytes stand at an element, lowest first, and 0 for a lane that is inactive
abbrev pub number_from : ℕ → List ℕ → Bool → ℕ → ℕ
number_from size bytes on at = if on then number_l 256 (chunk (at * size) size bytes) else 0

-- every lane is active, and every place that of an element within so many bytes
abbrev pub are_within : ℕ → ℕ → List Bool → List ℕ → Bool
are_within size len mask places = list_all (λ on. on) mask && list_all (is_within size len) places

-- of two lanes that hold values, the one with the lesser value, and the one with the greater
abbrev pub lesser_lane : ℕ → ℕ → ℕ → ℕ → ℕ
lesser_lane W bias p q = if nat_lt (raised W bias q) (raised W bias p) then q else p

abbrev pub greater_lane : ℕ → ℕ → ℕ → ℕ → ℕ
greater_lane W bias p q = if nat_lt (raised W bias q) (raised W bias p) then p else q

-- the low bits of a lane, as many as the type has
abbrev pub held_bits : IntType → ℕ → ℕ
held_bits t p = bit_and p (modulus t - 1)

-- these bits rotated left by k, by a shift to either side; the bits above the type's are any
abbrev pub turned_lane : ℕ → IntType → ℕ → ℕ → ℕ
turned_lane W t p k =
    (held_bits t p * 2 ^ k % 2 ^ W + held_bits t p / 2 ^ ((width_bits t - 1 + (2 ^ W - k)) % 2 ^ W) / 2 ^ 1) % 2 ^ W

-- a built-in function of one lane, and of two: what it does not take is 0
abbrev pub one_lane : ℕ → Fun → IntType → ℕ → ℕ
one_lane W f t p = builtin_lane W f t p 0 0

abbrev pub pair_lane : ℕ → Fun → IntType → ℕ → ℕ → ℕ
pair_lane W f t p q = builtin_lane W f t p q 0

-- the number of a lane that is read as a value of the type, raised by the bias; and what it stands for, as a lane
abbrev pub raised_value : ℕ → IntType → ℕ → ℕ
raised_value W t p = raised W (bias_of W t) (extended W t p)

abbrev pub lowered_lane : ℕ → IntType → ℕ → ℕ
lowered_lane W t m = (m + (2 ^ W - bias_of W t)) % 2 ^ W

-- a raised number held between the ends of the type
abbrev pub held_raised : ℕ → IntType → ℕ → ℕ → ℕ
held_raised W t top m = max (min m (bias_of W t + top)) (bias_of W t - half t)

-- how far apart two numbers are
abbrev pub apart : ℕ → ℕ → ℕ
apart p q = (p - q) + (q - p)

-- a sum that stops at the greatest number of W bits
abbrev pub sum_below : ℕ → ℕ → ℕ → ℕ
sum_below W p q = min (p + q) (2 ^ W - 1)

-- what two raised numbers add up to, and the first without the second, raised as they are
abbrev pub raised_sum : ℕ → ℕ → ℕ → ℕ → ℕ
raised_sum W bias p q = sum_below W p (q - bias) - (bias - q)

abbrev pub raised_rest : ℕ → ℕ → ℕ → ℕ → ℕ
raised_rest W bias p q = sum_below W p (bias - q) - (q - bias)

-- the type of 64 bits that has the products of values of a type of at most 32
abbrev pub wide_of : IntType → IntType
wide_of t = if is_signed t then Long else Ulong

-- the high half of a product of 64 bits, from products of halves, each cut to 64 bits
abbrev pub cut : ℕ → ℕ
cut x = x % 2 ^ 64

abbrev pub middle_lane : ℕ → ℕ → ℕ
middle_lane p q =
    cut (cut (cut ((p % 2 ^ 32) * (q % 2 ^ 32)) / 2 ^ 32 + cut ((p / 2 ^ 32) * (q % 2 ^ 32)) % 2 ^ 32) +
    cut ((p % 2 ^ 32) * (q / 2 ^ 32)) % 2 ^ 32)

abbrev pub high_product_lane : ℕ → ℕ → ℕ
high_product_lane p q =
    cut (cut (cut (cut ((p / 2 ^ 32) * (q / 2 ^ 32)) + cut ((p / 2 ^ 32) * (q % 2 ^ 32)) / 2 ^ 32) +
    cut ((p % 2 ^ 32) * (q / 2 ^ 32)) / 2 ^ 32) + middle_lane p q / 2 ^ 32)

-- q where p stands for a negative number, and else 0
abbrev pub negative_part : ℕ → ℕ → ℕ → ℕ
negative_part bias p q = if nat_lt (raised 64 bias p) bias then q else 0
