-- The own words of declarators: a name, and what stands behind it.
use Rattle.std.proofs.Common.{◌≡◌, ℕ, zero, suc, ◌+◌, ◌/◌, ◌%◌, nat_eq, List, [], ◌∷◌, ◌++◌, Bool, true, false, not}
use Rattle.std.proofs.Common.{◌&&◌, if◌then◌else◌, cond, take, refl, sym, ap, ◌∙◌, subst, arith}
use Rattle.std.proofs.lemmas.Bool.Decides.{nat_tests}
use Rattle.std.proofs.lemmas.List.Splits.{slice_split-cons_no}
use Rattle.std.specs.Prelude.{codes, decimal, nat_lt}
use Rattle.std.specs.Fmt.{digits, digits_onto, digit_glyph}
use Rattle.std.specs.List.{filter, slice_split, onto_first, count_by, position_or_len}
use lib.Pointwise.{pointwise}
use Rattle.cl_model.specs.Lists.{Each}
use Rattle.cl_tree.specs.Words.{is_among}
use Rattle.cl_meaning.specs.OwnWords.{is_blank, has_bytes, name_in}
use Rattle.cl_meaning.specs.Names.{dimensions_in, is_set}
use Rattle.cl_short_vec.specs.declared.nodes.Span.{Span}
use Rattle.cl_short_vec.specs.Nodes.{helper, component_name}

-- ---- names

-- no byte is a blank
abbrev pub HasNoBlank : List ℕ → Type 0
HasNoBlank n = Each (λ b. is_blank b ≡ false) n

-- the name of a declarator: no blank, and not the bracket of an array
abbrev pub IsName : List ℕ → Type 0
IsName n = HasNoBlank n × (pointwise nat_eq n (codes "[") ≡ false)

append_blank : (a b : List ℕ) → HasNoBlank a → HasNoBlank b → HasNoBlank (a ++ b)
append_blank [] b h k = k
append_blank (x ∷ a) b h k = (h.0, append_blank a b h.1 k)

-- the glyph of a digit is no blank
glyph_blank : (d : ℕ) → is_blank (digit_glyph false d) ≡ false
glyph_blank d = by (nat_lt d 10)
  where
    by : (b : Bool) → is_blank (if b then 48 + d else 87 + d) ≡ false
    by true = grind (arith, nat_tests)
    by false = grind (arith, nat_tests)

digits_blank : (k n : ℕ) (acc : List ℕ) → HasNoBlank acc → HasNoBlank (digits_onto k 10 false n acc)
digits_blank zero n acc h = h
digits_blank (suc k) n acc h = by (nat_eq (n / 10) 0)
    (digits_blank k (n / 10) (digit_glyph false (n % 10) ∷ acc) (glyph_blank (n % 10), h))
  where
    by : (b : Bool) → HasNoBlank (digits_onto k 10 false (n / 10) (digit_glyph false (n % 10) ∷ acc)) →
        HasNoBlank (if b then digit_glyph false (n % 10) ∷ acc else
        digits_onto k 10 false (n / 10) (digit_glyph false (n % 10) ∷ acc))
    by true g = (glyph_blank (n % 10), h)
    by false g = g

pub decimal_blank : (n : ℕ) → HasNoBlank (decimal n)
unfolding digits
decimal_blank n = digits_blank 64 n [] tt

-- a list of two or more is no list of one
two_or_more : (a b x : ℕ) (more : List ℕ) → pointwise nat_eq (a ∷ b ∷ more) (x ∷ []) ≡ false
two_or_more a b x more = by (nat_eq a x)
  where
    by : (c : Bool) → (c && false) ≡ false
    by true = refl
    by false = refl

-- the digits of a number are one at least
digits_some : (k n : ℕ) (acc : List ℕ) (P : List ℕ → Type 0) → ((d : ℕ) (more : List ℕ) → P (d ∷ more)) →
    P (digits_onto (suc k) 10 false n acc)
digits_some zero n acc P h = by (nat_eq (n / 10) 0)
  where
    by : (b : Bool) → P (if b then digit_glyph false (n % 10) ∷ acc else
        digits_onto 0 10 false (n / 10) (digit_glyph false (n % 10) ∷ acc))
    by true = h (digit_glyph false (n % 10)) acc
    by false = h (digit_glyph false (n % 10)) acc
digits_some (suc k) n acc P h = by (nat_eq (n / 10) 0)
    (digits_some k (n / 10) (digit_glyph false (n % 10) ∷ acc) P h)
  where
    by : (b : Bool) → P (digits_onto (suc k) 10 false (n / 10) (digit_glyph false (n % 10) ∷ acc)) →
        P (if b then digit_glyph false (n % 10) ∷ acc else
        digits_onto (suc k) 10 false (n / 10) (digit_glyph false (n % 10) ∷ acc))
    by true g = h (digit_glyph false (n % 10)) acc
    by false g = g

-- behind a point stand digits
pub pointed_name : (n : ℕ) → IsName (codes "." ++ decimal n)
unfolding digits
pointed_name n = (
  append_blank (codes ".") (decimal n) (refl, tt) (decimal_blank n),
  digits_some 63 n [] (λ ds. pointwise nat_eq (codes "." ++ ds) (codes "[") ≡ false) (λ d more. refl),
)

pub helper_name : (s : Span) → IsName (helper s)
helper_name s = pointed_name s.first

behind_name : (n ds : List ℕ) → IsName (codes "." ++ ds) →
    ((d : ℕ) (more : List ℕ) → pointwise nat_eq (d ∷ (more ++ (codes "." ++ ds))) (codes "[") ≡ false) →
    pointwise nat_eq (n ++ (codes "." ++ ds)) (codes "[") ≡ false
behind_name [] ds h k = h.1
behind_name (d ∷ n) ds h k = k d n

longer : (d : ℕ) (more ds : List ℕ) → pointwise nat_eq (d ∷ (more ++ (codes "." ++ ds))) (codes "[") ≡ false
longer d [] ds = two_or_more d 46 91 ds
longer d (e ∷ more) ds = two_or_more d e 91 (more ++ (codes "." ++ ds))

pub component_is_name : (n : List ℕ) (c : ℕ) → HasNoBlank n → IsName (component_name n c)
component_is_name n c h = (
  append_blank n (codes "." ++ decimal c) h (pointed_name c).0,
  behind_name n (decimal c) (pointed_name c) (λ d more. longer d more (decimal c)),
)

-- the first byte is the name's, or the blank behind it
name_step : (b : ℕ) (w : List ℕ) → is_blank b ≡ false → name_in (b ∷ w) ≡ b ∷ name_in w
name_step b w h =
    let more : 1 + position_or_len is_blank w ≡ suc (position_or_len is_blank w) = omega arith in
    ap (λ c. take (cond (not c) (1 + position_or_len is_blank w) 0) (b ∷ w)) h ∙ ap (λ k. take k (b ∷ w)) more

name_end : (b : ℕ) (w : List ℕ) → is_blank b ≡ true → name_in (b ∷ w) ≡ []
name_end b w h = ap (λ c. take (cond (not c) (1 + position_or_len is_blank w) 0) (b ∷ w)) h

pub front_blank : (w : List ℕ) → HasNoBlank (name_in w)
front_blank [] = tt
front_blank (b ∷ w) = by (is_blank b) refl (front_blank w)
  where
    by : (c : Bool) → is_blank b ≡ c → HasNoBlank (name_in w) → HasNoBlank (name_in (b ∷ w))
    by true e h = subst HasNoBlank (sym (name_end b w e)) tt
    by false e h = subst HasNoBlank (sym (name_step b w e)) (e, h)

pub alone_name : (n : List ℕ) → HasNoBlank n → name_in n ≡ n
alone_name [] h = refl
alone_name (b ∷ n) h = name_step b n h.0 ∙ ap (λ z. b ∷ z) (alone_name n h.1)

-- ---- the word of a declarator with an initialiser

pub set_name : (n : List ℕ) → HasNoBlank n → name_in (n ++ codes " =") ≡ n
set_name [] h = refl
set_name (b ∷ n) h = name_step b (n ++ codes " =") h.0 ∙ ap (λ z. b ∷ z) (set_name n h.1)

set_split : (n : List ℕ) → HasNoBlank n → slice_split is_blank (n ++ codes " =") ≡ n ∷ (codes "=" ∷ [])
set_split [] h = refl
set_split (b ∷ n) h =
    slice_split-cons_no is_blank b (n ++ codes " =") h.0 ∙ ap (onto_first b) (set_split n h.1)

set_by : (n : List ℕ) → is_among (codes "=") (filter has_bytes (n ∷ (codes "=" ∷ []))) ≡ true
set_by [] = refl
set_by (b ∷ n) = by (pointwise nat_eq (codes "=") (b ∷ n))
  where
    by : (c : Bool) → (if c then true else true) ≡ true
    by true = refl
    by false = refl

pub set_is_set : (n : List ℕ) → HasNoBlank n → is_set (n ++ codes " =") ≡ true
set_is_set n h = ap (λ ps. is_among (codes "=") (filter has_bytes ps)) (set_split n h) ∙ set_by n

dimensions_by : (n : List ℕ) → pointwise nat_eq n (codes "[") ≡ false →
    count_by (λ p. pointwise nat_eq p (codes "[")) (filter has_bytes (n ∷ (codes "=" ∷ []))) ≡ 0
dimensions_by [] h = refl
dimensions_by (b ∷ n) h = rw h (refl)

pub set_dimensions : (n : List ℕ) → IsName n → dimensions_in (n ++ codes " =") ≡ 0
set_dimensions n h =
    ap (λ ps. count_by (λ p. pointwise nat_eq p (codes "[")) (filter has_bytes ps)) (set_split n h.0) ∙
    dimensions_by n h.1

-- ---- the word of a declarator without one

-- a word without blanks has no dimensions but for the bracket alone
alone_split : (n : List ℕ) → HasNoBlank n → slice_split is_blank n ≡ n ∷ []
alone_split [] h = refl
alone_split (b ∷ n) h = slice_split-cons_no is_blank b n h.0 ∙ ap (onto_first b) (alone_split n h.1)

alone_count : (n : List ℕ) → pointwise nat_eq n (codes "[") ≡ false →
    count_by (λ p. pointwise nat_eq p (codes "[")) (filter has_bytes (n ∷ [])) ≡ 0
alone_count [] h = refl
alone_count (b ∷ n) h = rw h (refl)

pub alone_dimensions : (n : List ℕ) → IsName n → dimensions_in n ≡ 0
alone_dimensions n h =
    ap (λ ps. count_by (λ p. pointwise nat_eq p (codes "[")) (filter has_bytes ps)) (alone_split n h.0) ∙
    alone_count n h.1
