-- The classes of the bytes of a source (C99, 5.2.1), and the runs that they form.
use Rattle.std.specs.Prelude.{ℕ, List, [], ◌∷◌, Bool, true, ◌≡◌, ◌&&◌, ◌||◌, ◌==◌, nat_le}
use Rattle.std.specs.List.{list_all}

abbrev pub is_digit : ℕ → Bool
is_digit b = nat_le 48 b && nat_le b 57

abbrev pub is_octal_digit : ℕ → Bool
is_octal_digit b = nat_le 48 b && nat_le b 55

abbrev pub is_hexadecimal_digit : ℕ → Bool
is_hexadecimal_digit b = is_digit b || ((nat_le 97 b && nat_le b 102) || (nat_le 65 b && nat_le b 70))

abbrev pub is_nonzero_digit : ℕ → Bool
is_nonzero_digit b = nat_le 49 b && nat_le b 57

-- a letter or the underscore
abbrev pub is_name_start : ℕ → Bool
is_name_start b = (nat_le 97 b && nat_le b 122) || ((nat_le 65 b && nat_le b 90) || b == 95)

-- a letter, a digit or the underscore
abbrev pub is_name_byte : ℕ → Bool
is_name_byte b = is_name_start b || is_digit b

-- a letter, a digit, the underscore or the point
abbrev pub is_number_byte : ℕ → Bool
is_number_byte b = is_name_byte b || b == 46

-- a byte that passes the first test, followed by bytes that pass the other
abbrev pub IsRun : (ℕ → Bool) → (ℕ → Bool) → List ℕ → Type 0
IsRun first other [] = ⊥
IsRun first other (b ∷ bs) = (first b ≡ true) × (list_all other bs ≡ true)
