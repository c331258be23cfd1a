-- A vector that a type names has 2, 4, 8 or 16 components.
use Rattle.std.proofs.Common.{◌≡◌, ℕ, ◌≤◌, nat_eq, List, Option, Some, None, Bool, true, false, ◌||◌, refl, sym}
use Rattle.std.proofs.Common.{subst, arith, inl, inr, ◌⊎◌}
use Rattle.std.proofs.lemmas.Bool.{false≢true}
use Rattle.std.proofs.lemmas.Bool.Decides.{nat_tests}
use Rattle.std.specs.Prelude.{decimal}
use Rattle.std.specs.Fmt.{digits}
use lib.Pointwise.{pointwise}
use Rattle.wg_num.specs.declared.types.IntType.TheVariants as types
use Rattle.wg_num.specs.Wrap.{modulus, half}
use Rattle.cl_token.specs.NumberReading.{outcome_of, parts_of}
use Rattle.cl_tree.specs.declared.tree.Form.TheVariants as forms
use Rattle.cl_tree.specs.Syntax.{Syntax, node}
use Rattle.cl_meaning.specs.Types.{bare}
use Rattle.cl_meaning.specs.Literals.{literal_in}
use Rattle.cl_short_vec.specs.declared.types.Vector.{Vector}
use Rattle.cl_short_vec.specs.Types.{alone, named_vector, vectors, vector_in, vector_type}
use Rattle.cl_short_vec.proofs.Rows.{found, rows_pass}

-- it has so many components
abbrev counts : Vector → Bool
counts v = nat_eq v.count 2 || (nat_eq v.count 4 || (nat_eq v.count 8 || nat_eq v.count 16))

abbrev Passes : Option Vector → Type 0
Passes None = Unit {0}
Passes (Some v) = counts v ≡ true

word_passes : (w : List ℕ) → Passes (vector_in w)
unfolding vector_in
word_passes w = by (alone (bare w))
  where
    by : (o : Option (List ℕ)) → Passes (named_vector o)
    by None = tt
    by (Some p) = found Passes (pointwise nat_eq p) vectors tt (rows_pass counts vectors refl)

type_passes : (t : Syntax) → Passes (vector_type t)
type_passes (node forms.TypeNode w f l parts) = word_passes w
type_passes t = tt

-- the number of a vector's components, which is also that as a literal
pub record IsCount (n : ℕ) : Type 0 where
  pub some : 1 ≤ n
  pub few : n ≤ 16
  pub read : literal_in (decimal n) ≡ Some (types.Int, n)

one_of : (n : ℕ) → (nat_eq n 2 || (nat_eq n 4 || (nat_eq n 8 || nat_eq n 16))) ≡ true →
    (n ≡ 2) ⊎ ((n ≡ 4) ⊎ ((n ≡ 8) ⊎ (n ≡ 16)))
one_of n h = by (nat_eq n 2) (nat_eq n 4) (nat_eq n 8) (nat_eq n 16) refl refl refl refl h
  where
    by : (a b c d : Bool) → nat_eq n 2 ≡ a → nat_eq n 4 ≡ b → nat_eq n 8 ≡ c → nat_eq n 16 ≡ d →
        (a || (b || (c || d))) ≡ true → (n ≡ 2) ⊎ ((n ≡ 4) ⊎ ((n ≡ 8) ⊎ (n ≡ 16)))
    by true b c d e f g i h = inl (grind (arith, nat_tests))
    by false true c d e f g i h = inr (inl (grind (arith, nat_tests)))
    by false false true d e f g i h = inr (inr (inl (grind (arith, nat_tests))))
    by false false false true e f g i h = inr (inr (inr (grind (arith, nat_tests))))
    by false false false false e f g i h = absurd (false≢true h)

two : IsCount 2
unfolding literal_in outcome_of parts_of digits modulus half
two = record { some = omega arith; few = omega arith; read = refl }

four : IsCount 4
unfolding literal_in outcome_of parts_of digits modulus half
four = record { some = omega arith; few = omega arith; read = refl }

eight : IsCount 8
unfolding literal_in outcome_of parts_of digits modulus half
eight = record { some = omega arith; few = omega arith; read = refl }

sixteen : IsCount 16
unfolding literal_in outcome_of parts_of digits modulus half
sixteen = record { some = omega arith; few = omega arith; read = refl }

counted : (n : ℕ) → (n ≡ 2) ⊎ ((n ≡ 4) ⊎ ((n ≡ 8) ⊎ (n ≡ 16))) → IsCount n
counted n (inl e) = subst IsCount (sym e) two
counted n (inr (inl e)) = subst IsCount (sym e) four
counted n (inr (inr (inl e))) = subst IsCount (sym e) eight
counted n (inr (inr (inr e))) = subst IsCount (sym e) sixteen

pub vector_counts : (t : Syntax) (v : Vector) → vector_type t ≡ Some v → IsCount v.count
vector_counts t v e = counted v.count (one_of v.count (subst Passes e (type_passes t)))

-- the other numbers in what stands for a length
pub zero_read : literal_in (decimal 0) ≡ Some (types.Int, 0)
unfolding literal_in outcome_of parts_of digits modulus half
zero_read = refl

pub limit_read : literal_in (decimal 1048577) ≡ Some (types.Int, 1048577)
unfolding literal_in outcome_of parts_of digits modulus half
limit_read = refl
