-- The names of components: none has a blank, and each has a point.
use Rattle.std.proofs.Common.{◌≡◌, ℕ, zero, suc, ◌+◌, ◌/◌, ◌%◌, nat_eq, List, [], ◌∷◌, ◌++◌, Some, None, Bool}
use Rattle.std.proofs.Common.{true, false, not, if◌then◌else◌, cond, take, refl, sym, ap, ◌∙◌, subst, arith}
use Rattle.std.proofs.lemmas.Bool.{false≢true, and_parts}
use Rattle.std.proofs.lemmas.Bool.Decides.{nat_tests}
use Rattle.std.specs.Prelude.{codes, decimal, nat_lt, ◌||◌}
use Rattle.std.specs.Fmt.{digits, digits_onto, digit_glyph}
use Rattle.std.specs.List.{list_all, position_or_len}
use lib.Pointwise.{pointwise, bytes_decides}
use Rattle.cl_model.specs.Lists.{Each}
use Rattle.cl_meaning.specs.OwnWords.{is_blank, name_in, Row, looked_up}
use Rattle.cl_meaning.specs.Names.{flag_in, flags}
use Rattle.cl_short_vec.specs.Nodes.{component_name}
use Rattle.cl_short_vec_faults.specs.Plainly.{has_point}

-- no byte is a blank
abbrev pub HasNoBlank : List ℕ → Type 0
HasNoBlank n = Each (λ b. is_blank b ≡ false) n

append_blank : (a b : List ℕ) → HasNoBlank a → HasNoBlank b → HasNoBlank (a ++ b)
append_blank [] b h k = k
append_blank (x ∷ a) b h k = (h.0, append_blank a b h.1 k)

-- the glyph of a digit is no blank
glyph_blank : (d : ℕ) → is_blank (digit_glyph false d) ≡ false
glyph_blank d = by (nat_lt d 10)
  where
    by : (b : Bool) → is_blank (if b then 48 + d else 87 + d) ≡ false
    by true = grind (arith, nat_tests)
    by false = grind (arith, nat_tests)

digits_blank : (k n : ℕ) (acc : List ℕ) → HasNoBlank acc → HasNoBlank (digits_onto k 10 false n acc)
digits_blank zero n acc h = h
digits_blank (suc k) n acc h = by (nat_eq (n / 10) 0)
    (digits_blank k (n / 10) (digit_glyph false (n % 10) ∷ acc) (glyph_blank (n % 10), h))
  where
    by : (b : Bool) → HasNoBlank (digits_onto k 10 false (n / 10) (digit_glyph false (n % 10) ∷ acc)) →
        HasNoBlank (if b then digit_glyph false (n % 10) ∷ acc else
        digits_onto k 10 false (n / 10) (digit_glyph false (n % 10) ∷ acc))
    by true g = (glyph_blank (n % 10), h)
    by false g = g

pub decimal_blank : (n : ℕ) → HasNoBlank (decimal n)
unfolding digits
decimal_blank n = digits_blank 64 n [] tt

-- the first byte is the name's, or the blank behind it
name_step : (b : ℕ) (w : List ℕ) → is_blank b ≡ false → name_in (b ∷ w) ≡ b ∷ name_in w
name_step b w h =
    let more : 1 + position_or_len is_blank w ≡ suc (position_or_len is_blank w) = omega arith in
    ap (λ c. take (cond (not c) (1 + position_or_len is_blank w) 0) (b ∷ w)) h ∙ ap (λ k. take k (b ∷ w)) more

name_end : (b : ℕ) (w : List ℕ) → is_blank b ≡ true → name_in (b ∷ w) ≡ []
name_end b w h = ap (λ c. take (cond (not c) (1 + position_or_len is_blank w) 0) (b ∷ w)) h

pub front_blank : (w : List ℕ) → HasNoBlank (name_in w)
front_blank [] = tt
front_blank (b ∷ w) = by (is_blank b) refl (front_blank w)
  where
    by : (c : Bool) → is_blank b ≡ c → HasNoBlank (name_in w) → HasNoBlank (name_in (b ∷ w))
    by true e h = subst HasNoBlank (sym (name_end b w e)) tt
    by false e h = subst HasNoBlank (sym (name_step b w e)) (e, h)

pub alone_name : (n : List ℕ) → HasNoBlank n → name_in n ≡ n
alone_name [] h = refl
alone_name (b ∷ n) h = name_step b n h.0 ∙ ap (λ z. b ∷ z) (alone_name n h.1)

-- ---- points

clash : (b : Bool) → b ≡ true → not b ≡ true → ⊥
clash true h k = false≢true k
clash false h k = false≢true h

-- a word with a point is in no table of words without one
pub no_row : {A : Type 0} (w : List ℕ) (rows : List (Row A)) → has_point w ≡ true →
    list_all (λ (r : Row A). not (has_point r.word)) rows ≡ true → looked_up w rows ≡ None
no_row w [] h k = refl
no_row w (r ∷ rows) h k =
    let p = and_parts (not (has_point r.word)) (list_all (λ (r : Row _). not (has_point r.word)) rows) k in
    by (pointwise nat_eq w r.word) refl p.0 (no_row w rows h p.1)
  where
    by : (b : Bool) → pointwise nat_eq w r.word ≡ b → not (has_point r.word) ≡ true → looked_up w rows ≡ None →
        (if b then Some r.value else looked_up w rows) ≡ None
    by true e x y =
        let same : w ≡ r.word = (bytes_decides w r.word).0 e in
        absurd (clash (has_point r.word) (sym (ap has_point same) ∙ h) x)
    by false e x y = y

pub point_no_flag : (w : List ℕ) → has_point w ≡ true → flag_in w ≡ None
unfolding flag_in
point_no_flag w h = no_row w flags h refl

pub point_among : (a b : List ℕ) → has_point b ≡ true → has_point (a ++ b) ≡ true
point_among [] b h = h
point_among (x ∷ a) b h = by (nat_eq x 46) (point_among a b h)
  where
    by : (c : Bool) → has_point (a ++ b) ≡ true → (c || has_point (a ++ b)) ≡ true
    by true k = refl
    by false k = k

pub component_point : (n : List ℕ) (c : ℕ) → has_point (component_name n c) ≡ true
component_point n c = point_among n (codes "." ++ decimal c) refl

-- a component's name is a name by itself
pub component_named : (w : List ℕ) (c : ℕ) →
    name_in (component_name (name_in w) c) ≡ component_name (name_in w) c
component_named w c = alone_name (component_name (name_in w) c)
    (append_blank (name_in w) (codes "." ++ decimal c) (front_blank w)
    (append_blank (codes ".") (decimal c) (refl, tt) (decimal_blank c)))
