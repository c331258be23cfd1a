-- Tests on values.
use Rattle.std.specs.Prelude.{zero, suc, ℤ, pos, negsuc}
use Rattle.std.specs.Prelude.{Bool as Test, true, false}

-- the value is 0
abbrev pub is_zero : ℤ → Test
is_zero (pos zero) = true
is_zero (pos (suc n)) = false
is_zero (negsuc n) = false

-- 1 for yes, 0 for no
abbrev pub number_of : Test → ℤ
number_of true = pos 1
number_of false = pos 0
