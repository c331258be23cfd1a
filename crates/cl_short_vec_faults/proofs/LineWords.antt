-- What the own words of the lines of a vector statement say: names and types.
use Rattle.std.proofs.Common.{◌≡◌, ℕ, zero, suc, ◌+◌, ◌/◌, ◌%◌, nat_eq, List, [], ◌∷◌, ◌++◌, Option, Some, None, Bool}
use Rattle.std.proofs.Common.{true, false, not, ◌&&◌, if◌then◌else◌, cond, take, refl, ap, ◌∙◌, arith}
use Rattle.std.proofs.lemmas.List.Splits.{slice_split-cons_no}
use Rattle.std.specs.Prelude.{codes, decimal}
use Rattle.std.specs.Fmt.{digits, digits_onto, digit_glyph}
use Rattle.std.specs.List.{filter, slice_split, onto_first, count_by, position_or_len}
use lib.Pointwise.{pointwise}
use Rattle.wg_num.specs.declared.types.IntType.{IntType}
use Rattle.wg_num.specs.declared.types.IntType.TheVariants as types
use Rattle.cl_model.specs.declared.program.Space.{Space}
use Rattle.cl_model.specs.declared.program.Space.TheVariants as spaces
use Rattle.cl_tree.specs.Words.{is_among}
use Rattle.cl_meaning.specs.declared.types.Declared.{Declared}
use Rattle.cl_meaning.specs.OwnWords.{is_blank, has_bytes, name_in}
use Rattle.cl_meaning.specs.declared.types.Base.TheVariants.{Integer}
use Rattle.cl_meaning.specs.Types.{base_in, names_outside, space_in, is_const, declared_in, declared_as}
use Rattle.cl_meaning.specs.Names.{intrinsic_in, dimensions_in, is_set, intrinsics}
use Rattle.cl_short_vec.specs.declared.nodes.Span.{Span}
use Rattle.cl_short_vec.specs.Nodes.{constant_word, space_word, typed_at, spaced_at, helper, component_name}
use Rattle.cl_short_vec_faults.specs.Plainly.{has_point}
use Rattle.cl_short_vec_faults.proofs.Points.{HasNoBlank, decimal_blank, no_row}

-- ---- names

-- the name of a declarator: no blank, and not the bracket of an array
abbrev pub IsName : List ℕ → Type 0
IsName n = HasNoBlank n × (pointwise nat_eq n (codes "[") ≡ false)

append_blank : (a b : List ℕ) → HasNoBlank a → HasNoBlank b → HasNoBlank (a ++ b)
append_blank [] b h k = k
append_blank (x ∷ a) b h k = (h.0, append_blank a b h.1 k)

-- a list of two or more is no list of one
two_or_more : (a b x : ℕ) (more : List ℕ) → pointwise nat_eq (a ∷ b ∷ more) (x ∷ []) ≡ false
two_or_more a b x more = by (nat_eq a x)
  where
    by : (c : Bool) → (c && false) ≡ false
    by true = refl
    by false = refl

-- the digits of a number are one at least
digits_some : (k n : ℕ) (acc : List ℕ) (P : List ℕ → Type 0) → ((d : ℕ) (more : List ℕ) → P (d ∷ more)) →
    P (digits_onto (suc k) 10 false n acc)
digits_some zero n acc P h = by (nat_eq (n / 10) 0)
  where
    by : (b : Bool) → P (if b then digit_glyph false (n % 10) ∷ acc else
        digits_onto 0 10 false (n / 10) (digit_glyph false (n % 10) ∷ acc))
    by true = h (digit_glyph false (n % 10)) acc
    by false = h (digit_glyph false (n % 10)) acc
digits_some (suc k) n acc P h = by (nat_eq (n / 10) 0)
    (digits_some k (n / 10) (digit_glyph false (n % 10) ∷ acc) P h)
  where
    by : (b : Bool) → P (digits_onto (suc k) 10 false (n / 10) (digit_glyph false (n % 10) ∷ acc)) →
        P (if b then digit_glyph false (n % 10) ∷ acc else
        digits_onto (suc k) 10 false (n / 10) (digit_glyph false (n % 10) ∷ acc))
    by true g = h (digit_glyph false (n % 10)) acc
    by false g = g

-- behind a point stand digits
pub pointed_name : (n : ℕ) → IsName (codes "." ++ decimal n)
unfolding digits
pointed_name n = (
  append_blank (codes ".") (decimal n) (refl, tt) (decimal_blank n),
  digits_some 63 n [] (λ ds. pointwise nat_eq (codes "." ++ ds) (codes "[") ≡ false) (λ d more. refl),
)

pub helper_name : (s : Span) → IsName (helper s)
helper_name s = pointed_name s.first

behind_name : (n ds : List ℕ) → IsName (codes "." ++ ds) →
    ((d : ℕ) (more : List ℕ) → pointwise nat_eq (d ∷ (more ++ (codes "." ++ ds))) (codes "[") ≡ false) →
    pointwise nat_eq (n ++ (codes "." ++ ds)) (codes "[") ≡ false
behind_name [] ds h k = h.1
behind_name (d ∷ n) ds h k = k d n

longer : (d : ℕ) (more ds : List ℕ) → pointwise nat_eq (d ∷ (more ++ (codes "." ++ ds))) (codes "[") ≡ false
longer d [] ds = two_or_more d 46 91 ds
longer d (e ∷ more) ds = two_or_more d e 91 (more ++ (codes "." ++ ds))

pub component_is_name : (n : List ℕ) (c : ℕ) → HasNoBlank n → IsName (component_name n c)
component_is_name n c h = (
  append_blank n (codes "." ++ decimal c) h (pointed_name c).0,
  behind_name n (decimal c) (pointed_name c) (λ d more. longer d more (decimal c)),
)

-- the first byte is the name's, or the blank behind it
name_step : (b : ℕ) (w : List ℕ) → is_blank b ≡ false → name_in (b ∷ w) ≡ b ∷ name_in w
name_step b w h =
    let more : 1 + position_or_len is_blank w ≡ suc (position_or_len is_blank w) = omega arith in
    ap (λ c. take (cond (not c) (1 + position_or_len is_blank w) 0) (b ∷ w)) h ∙ ap (λ k. take k (b ∷ w)) more

-- ---- the word of a declarator with an initialiser

pub set_name : (n : List ℕ) → HasNoBlank n → name_in (n ++ codes " =") ≡ n
set_name [] h = refl
set_name (b ∷ n) h = name_step b (n ++ codes " =") h.0 ∙ ap (λ z. b ∷ z) (set_name n h.1)

set_split : (n : List ℕ) → HasNoBlank n → slice_split is_blank (n ++ codes " =") ≡ n ∷ (codes "=" ∷ [])
set_split [] h = refl
set_split (b ∷ n) h =
    slice_split-cons_no is_blank b (n ++ codes " =") h.0 ∙ ap (onto_first b) (set_split n h.1)

set_by : (n : List ℕ) → is_among (codes "=") (filter has_bytes (n ∷ (codes "=" ∷ []))) ≡ true
set_by [] = refl
set_by (b ∷ n) = by (pointwise nat_eq (codes "=") (b ∷ n))
  where
    by : (c : Bool) → (if c then true else true) ≡ true
    by true = refl
    by false = refl

pub set_is_set : (n : List ℕ) → HasNoBlank n → is_set (n ++ codes " =") ≡ true
set_is_set n h = ap (λ ps. is_among (codes "=") (filter has_bytes ps)) (set_split n h) ∙ set_by n

dimensions_by : (n : List ℕ) → pointwise nat_eq n (codes "[") ≡ false →
    count_by (λ p. pointwise nat_eq p (codes "[")) (filter has_bytes (n ∷ (codes "=" ∷ []))) ≡ 0
dimensions_by [] h = refl
dimensions_by (b ∷ n) h = rw h (refl)

pub set_dimensions : (n : List ℕ) → IsName n → dimensions_in (n ++ codes " =") ≡ 0
set_dimensions n h =
    ap (λ ps. count_by (λ p. pointwise nat_eq p (codes "[")) (filter has_bytes ps)) (set_split n h.0) ∙
    dimensions_by n h.1

-- ---- types

abbrev pub declared_with : Option Space → Bool → IntType → Declared
declared_with space constant of = record { of = of; size = false; constant = constant; space = space }

pub base_word : (constant : Bool) (of : IntType) → base_in (constant_word constant of) ≡ Some (Integer of false)
unfolding base_in names_outside
base_word true types.Bool = refl
base_word true types.Char = refl
base_word true types.Uchar = refl
base_word true types.Short = refl
base_word true types.Ushort = refl
base_word true types.Int = refl
base_word true types.Uint = refl
base_word true types.Long = refl
base_word true types.Ulong = refl
base_word false types.Bool = refl
base_word false types.Char = refl
base_word false types.Uchar = refl
base_word false types.Short = refl
base_word false types.Ushort = refl
base_word false types.Int = refl
base_word false types.Uint = refl
base_word false types.Long = refl
base_word false types.Ulong = refl

pub const_word : (constant : Bool) (of : IntType) → is_const (constant_word constant of) ≡ constant
const_word true types.Bool = refl
const_word true types.Char = refl
const_word true types.Uchar = refl
const_word true types.Short = refl
const_word true types.Ushort = refl
const_word true types.Int = refl
const_word true types.Uint = refl
const_word true types.Long = refl
const_word true types.Ulong = refl
const_word false types.Bool = refl
const_word false types.Char = refl
const_word false types.Uchar = refl
const_word false types.Short = refl
const_word false types.Ushort = refl
const_word false types.Int = refl
const_word false types.Uint = refl
const_word false types.Long = refl
const_word false types.Ulong = refl

pub spaced_word : (space : Space) → space_in (space_word space) ≡ Some space
unfolding space_in
spaced_word spaces.Global = refl
spaced_word spaces.Constant = refl
spaced_word spaces.Local = refl
spaced_word spaces.Private = refl

pub typed_declared : (of : IntType) (s : Span) → declared_in (typed_at of s) ≡ Some (declared_with None false of)
typed_declared of s =
    ap (λ b. declared_as b (is_const (constant_word false of)) None) (base_word false of) ∙
    ap (λ c. declared_as (Some (Integer of false)) c None) (const_word false of)

pub spaced_declared : (space : Space) (constant : Bool) (of : IntType) (s : Span) →
    declared_in (spaced_at space constant of s) ≡ Some (declared_with (Some space) constant of)
spaced_declared space constant of s =
    ap (λ b. declared_as b (is_const (constant_word constant of)) (space_in (space_word space)))
    (base_word constant of) ∙
    (ap (λ c. declared_as (Some (Integer of false)) c (space_in (space_word space))) (const_word constant of) ∙
    ap (λ p. declared_as (Some (Integer of false)) constant p) (spaced_word space))

-- ---- names that are known without a declaration

pub point_no_intrinsic : (w : List ℕ) → has_point w ≡ true → intrinsic_in w ≡ None
unfolding intrinsic_in
point_no_intrinsic w h = no_row w intrinsics h refl
