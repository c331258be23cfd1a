-- Facts about single bytes, and about tables of words.
use Rattle.std.proofs.Common.{ℕ, List, [], ◌∷◌, Bool, true, false, ◌&&◌, ◌||◌, ◌==◌, ◌⊎◌, inl, inr, ◌≡◌, refl, sym}
use Rattle.std.proofs.Common.{ap, ◌∙◌, arith}
use Rattle.std.specs.List.{list_all, list_any}
use Rattle.std.specs.Str.{bytes_eq}
use Rattle.std.proofs.lemmas.Bool.{eqb-true}
use Rattle.std.proofs.lemmas.Bool.Decides.{nat_tests}
use Rattle.std.proofs.lemmas.Slice.Eq.{bytes_eq-Decides}
use Rattle.cl_token.specs.Bytes.{is_digit, is_name_start, is_name_byte, is_number_byte}
use Rattle.cl_token.specs.Spelling.{IsOneOf}
use Rattle.cl_token.specs.Reading.{is_among, spaces}
use Rattle.cl_token.proofs.Runs.{both}

pub either : (a b : Bool) → (a || b) ≡ true → (a ≡ true) ⊎ (b ≡ true)
either true b h = inl refl
either false b h = inr h

pub or_left : (a b : Bool) → a ≡ true → (a || b) ≡ true
or_left a b h = rw h refl

pub or_right : (a b : Bool) → b ≡ true → (a || b) ≡ true
or_right true b h = refl
or_right false b h = h

pub and_false_left : (a b : Bool) → a ≡ false → (a && b) ≡ false
and_false_left a b h = rw h refl

-- what each word of a table passes, a word of it passes
pub of_table : (p : List ℕ → Bool) (table : List (List ℕ)) (w : List ℕ) → list_all p table ≡ true → IsOneOf table w →
    p w ≡ true
of_table p [] w all h = absurd h
of_table p (x ∷ xs) w all h = let k = both (p x) (list_all p xs) all in elim h [
  | inl e ↦ ap p e ∙ k.0
  | inr i ↦ of_table p xs w k.1 i
]

-- whether a word is in a table
abbrev pub is_in : List (List ℕ) → List ℕ → Bool
is_in table w = list_any (bytes_eq w) table

pub in_table : (table : List (List ℕ)) (w : List ℕ) → is_in table w ≡ true → IsOneOf table w
in_table [] w h = absurd (cc)
in_table (x ∷ xs) w h = elim (either (bytes_eq w x) (is_in xs w) h) [
  | inl e ↦ inl ((bytes_eq-Decides w x).0 e)
  | inr i ↦ inr (in_table xs w i)
]

-- what each byte of a list passes, a byte among them passes
pub of_bytes : (p : ℕ → Bool) (bytes : List ℕ) (b : ℕ) → list_all p bytes ≡ true → is_among bytes b ≡ true → p b ≡ true
of_bytes p [] b all h = absurd (cc)
of_bytes p (x ∷ xs) b all h = let k = both (p x) (list_all p xs) all in elim (either (x == b) (is_among xs b) h) [
  | inl e ↦ ap p (sym (eqb-true x b e)) ∙ k.0
  | inr i ↦ of_bytes p xs b k.1 i
]

pub start_is_name_byte : (b : ℕ) → is_name_start b ≡ true → is_name_byte b ≡ true
start_is_name_byte b h = or_left (is_name_start b) (is_digit b) h

pub digit_is_number_byte : (b : ℕ) → is_digit b ≡ true → is_number_byte b ≡ true
digit_is_number_byte b h = or_left (is_name_byte b) (b == 46) (or_right (is_name_start b) (is_digit b) h)

pub start_not_digit : (b : ℕ) → is_digit b ≡ true → is_name_start b ≡ false
start_not_digit b h = grind (arith, nat_tests)

-- a byte that may begin a name or a number begins nothing else
pub record Solid (b : ℕ) : Type 0 where
  pub line : (b == 10) ≡ false
  pub space : is_among spaces b ≡ false
  pub backslash : (b == 92) ≡ false
  pub slash : (b == 47) ≡ false

pub start_solid : (b : ℕ) → is_name_start b ≡ true → Solid b
start_solid b h = record {
  line = grind (arith, nat_tests);
  space = grind (arith, nat_tests);
  backslash = grind (arith, nat_tests);
  slash = grind (arith, nat_tests);
}

pub digit_solid : (b : ℕ) → is_digit b ≡ true → Solid b
digit_solid b h = record {
  line = grind (arith, nat_tests);
  space = grind (arith, nat_tests);
  backslash = grind (arith, nat_tests);
  slash = grind (arith, nat_tests);
}
