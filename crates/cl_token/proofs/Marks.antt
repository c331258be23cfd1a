-- Blanks and marks: what is measured is in the table, and no word of the table is longer.
use Rattle.std.proofs.Common.{ℕ, zero, suc, List, [], ◌∷◌, ◌++◌, length, take, Bool, true, false, not, ◌&&◌, ◌||◌}
use Rattle.std.proofs.Common.{◌==◌, inl, inr, ◌≡◌, ◌<◌, ◌≤◌, refl, sym, subst, ◌∙◌, arith}
use Rattle.std.specs.Prelude.{slice_index}
use Rattle.std.specs.List.{list_all}
use Rattle.std.proofs.lemmas.Bool.{eqb-true}
use Rattle.cl_token.specs.declared.token.Kind.{Kind}
use Rattle.cl_token.specs.declared.token.Kind.TheVariants.{Name, Number, Mark, Hash}
use Rattle.cl_token.specs.Spelling.{IsOneOf, marks, blanks}
use Rattle.cl_token.specs.Reading.{is_among, spaces, blank_length, singles, before_equals, doubled, is_single}
use Rattle.cl_token.specs.Reading.{is_double, is_triple, mark_with, mark_length, kind_at}
use Rattle.cl_token.proofs.Runs.{both, test_is}
use Rattle.cl_token.proofs.ByteFacts.{either, of_table, is_in, in_table, of_bytes}

-- a front of a list, measured by n, is in a table
pub record Front (table : List (List ℕ)) (s : List ℕ) (n : ℕ) : Type 0 where
  pub within : n ≤ length s
  pub member : IsOneOf table (take n s)

front_by : (table : List (List ℕ)) (s : List ℕ) (n : ℕ) → n ≤ length s → is_in table (take n s) ≡ true → Front table s n
front_by table s n h t = record { within = h; member = in_table table (take n s) t }

-- ---- one, two or three bytes of a list, by what they are

abbrev first_of : List ℕ → ℕ
first_of s = slice_index s 0

abbrev second_of : List ℕ → ℕ
second_of s = slice_index s 1

abbrev third_of : List ℕ → ℕ
third_of s = slice_index s 2

take_one : (table : List (List ℕ)) (s : List ℕ) → is_in table (first_of s ∷ []) ≡ true → (0 < first_of s) →
    Front table s 1
take_one table [] h g = absurd (omega arith)
take_one table (a ∷ s) h g = front_by table (a ∷ s) 1 (omega arith) h

take_two : (table : List (List ℕ)) (s : List ℕ) → is_in table (first_of s ∷ second_of s ∷ []) ≡ true →
    (0 < first_of s) → (0 < second_of s) → Front table s 2
take_two table [] h g k = absurd (omega arith)
take_two table (a ∷ []) h g k = absurd (omega arith)
take_two table (a ∷ b ∷ s) h g k = front_by table (a ∷ b ∷ s) 2 (omega arith) h

take_three : (table : List (List ℕ)) (s : List ℕ) → is_in table (first_of s ∷ second_of s ∷ third_of s ∷ []) ≡ true →
    (0 < first_of s) → (0 < second_of s) → (0 < third_of s) → Front table s 3
take_three table [] h g k l = absurd (omega arith)
take_three table (a ∷ []) h g k l = absurd (omega arith)
take_three table (a ∷ b ∷ []) h g k l = absurd (omega arith)
take_three table (a ∷ b ∷ c ∷ s) h g k l = front_by table (a ∷ b ∷ c ∷ s) 3 (omega arith) h

abbrev good_one : List (List ℕ) → ℕ → Bool
good_one table a = is_in table (a ∷ []) && not (a == 0)

not_zero : (a : ℕ) → not (a == 0) ≡ true → 0 < a
not_zero a h = elim (test_is (a == 0)) [ inl t ↦ absurd (cc) | inr f ↦ pos_of a f ]
  where
    pos_of : (n : ℕ) → (n == 0) ≡ false → 0 < n
    pos_of zero f = absurd (cc)
    pos_of (suc n) f = omega arith

-- ---- blanks

one_of : (table : List (List ℕ)) (bytes : List ℕ) (s : List ℕ) → list_all (good_one table) bytes ≡ true →
    is_among bytes (first_of s) ≡ true → Front table s 1
one_of table bytes s all h =
    let k = both (is_in table (first_of s ∷ [])) (not (first_of s == 0))
    (of_bytes (good_one table) bytes (first_of s) all h) in
    take_one table s k.0 (not_zero (first_of s) k.1)

abbrev line_splice : ℕ → ℕ → Bool
line_splice a b = a == 92 && b == 10

abbrev long_splice : ℕ → ℕ → ℕ → Bool
long_splice a b c = a == 92 && (b == 13 && c == 10)

splice_front : (s : List ℕ) → line_splice (first_of s) (second_of s) ≡ true → Front blanks s 2
splice_front s t =
    let k = both (first_of s == 92) (second_of s == 10) t in
    let a = eqb-true (first_of s) 92 k.0 in
    let b = eqb-true (second_of s) 10 k.1 in
    take_two blanks s (rw (a, b) refl) (omega arith) (omega arith)

long_splice_front : (s : List ℕ) → long_splice (first_of s) (second_of s) (third_of s) ≡ true → Front blanks s 3
long_splice_front s t =
    let k = both (first_of s == 92) (second_of s == 13 && third_of s == 10) t in
    let l = both (second_of s == 13) (third_of s == 10) k.1 in
    let a = eqb-true (first_of s) 92 k.0 in
    let b = eqb-true (second_of s) 13 l.0 in
    let c = eqb-true (third_of s) 10 l.1 in
    take_three blanks s (rw (a, b, c) refl) (omega arith) (omega arith) (omega arith)

pub blank_sound : (s : List ℕ) → (blank_length s == 0) ≡ false → Front blanks s (blank_length s)
unfolding blank_length
blank_sound s h = elim (test_is (is_among spaces (first_of s))) [
  | inl t ↦ rw t (one_of blanks spaces s refl t)
  | inr f ↦ elim (test_is (line_splice (first_of s) (second_of s))) [
    | inl t ↦ rw (f, t) (splice_front s t)
    | inr g ↦ elim (test_is (long_splice (first_of s) (second_of s) (third_of s))) [
      | inl t ↦ rw (f, g, t) (long_splice_front s t)
      | inr k ↦ (let e = rw (f, g, k) at h in absurd (cc))
    ]
  ]
]

-- a word that is equal to one that is measured whole is so too
whole_at : (f : List ℕ → ℕ) (w v rest : List ℕ) → w ≡ v → f (v ++ rest) ≡ length v → f (w ++ rest) ≡ length w
whole_at f w v rest e h = subst (λ (x : List ℕ). f (x ++ rest) ≡ length x) (sym e) h

pub blank_complete : (w rest : List ℕ) → IsOneOf blanks w → blank_length (w ++ rest) ≡ length w
unfolding blank_length
blank_complete w rest (inl e) = whole_at blank_length w (32 ∷ []) rest e refl
blank_complete w rest (inr (inl e)) = whole_at blank_length w (9 ∷ []) rest e refl
blank_complete w rest (inr (inr (inl e))) = whole_at blank_length w (11 ∷ []) rest e refl
blank_complete w rest (inr (inr (inr (inl e)))) = whole_at blank_length w (12 ∷ []) rest e refl
blank_complete w rest (inr (inr (inr (inr (inl e))))) = whole_at blank_length w (13 ∷ []) rest e refl
blank_complete w rest (inr (inr (inr (inr (inr (inl e)))))) = whole_at blank_length w (92 ∷ 10 ∷ []) rest e refl
blank_complete w rest (inr (inr (inr (inr (inr (inr (inl e))))))) =
    whole_at blank_length w (92 ∷ 13 ∷ 10 ∷ []) rest e refl
blank_complete w rest (inr (inr (inr (inr (inr (inr (inr h))))))) = absurd h

-- no blank stands where the first byte belongs to none
pub no_blank : (s : List ℕ) → is_among spaces (first_of s) ≡ false → (first_of s == 92) ≡ false → blank_length s ≡ 0
unfolding blank_length
no_blank s h g = rw (h, g) refl

-- ---- marks

abbrev assigns : ℕ → Bool
assigns a = is_in marks (a ∷ 61 ∷ []) && not (a == 0)

abbrev repeats : ℕ → Bool
repeats a = is_in marks (a ∷ a ∷ []) && not (a == 0)

double_front : (s : List ℕ) → is_double (first_of s) (second_of s) ≡ true → Front marks s 2
double_front s t = elim (either (second_of s == 61 && is_among before_equals (first_of s)) (first_of s ==
    second_of s && is_among doubled (first_of s)) t) [
      | inl w ↦ (
          let k = both (second_of s == 61) (is_among before_equals (first_of s)) w in
          let b = eqb-true (second_of s) 61 k.0 in
          let l = both (is_in marks (first_of s ∷ 61 ∷ [])) (not (first_of s == 0))
          (of_bytes assigns before_equals (first_of s) refl k.1) in
          take_two marks s (subst (λ (x : ℕ). is_in marks (first_of s ∷ x ∷ []) ≡ true) (sym b) l.0)
          (not_zero (first_of s) l.1) (omega arith))
      | inr w ↦ (
          let k = both (first_of s == second_of s) (is_among doubled (first_of s)) w in
          let b = eqb-true (first_of s) (second_of s) k.0 in
          let l = both (is_in marks (first_of s ∷ first_of s ∷ [])) (not (first_of s == 0))
          (of_bytes repeats doubled (first_of s) refl k.1) in
          let some = not_zero (first_of s) l.1 in
          take_two marks s (subst (λ (x : ℕ). is_in marks (first_of s ∷ x ∷ []) ≡ true) b l.0) some (omega arith))
    ]

triple_front : (s : List ℕ) → is_triple (first_of s) (second_of s) (third_of s) ≡ true → Front marks s 3
triple_front s t =
    let k = both (third_of s == 61) (first_of s == second_of s && (first_of s == 60 || first_of s == 62)) t in
    let l = both (first_of s == second_of s) (first_of s == 60 || first_of s == 62) k.1 in
    let c = eqb-true (third_of s) 61 k.0 in
    let b = eqb-true (first_of s) (second_of s) l.0 in
    elim (either (first_of s == 60) (first_of s == 62) l.1) [
      | inl h ↦ (let a = eqb-true (first_of s) 60 h in let d : second_of s ≡ 60 = sym b ∙ a in
          take_three marks s (rw (a, d, c) refl) (omega arith) (omega arith) (omega arith))
      | inr h ↦ (let a = eqb-true (first_of s) 62 h in let d : second_of s ≡ 62 = sym b ∙ a in
          take_three marks s (rw (a, d, c) refl) (omega arith) (omega arith) (omega arith))
    ]

pub mark_sound : (s : List ℕ) → (mark_length s == 0) ≡ false → Front marks s (mark_length s)
unfolding mark_length
mark_sound s h = elim (test_is (is_triple (first_of s) (second_of s) (third_of s))) [
  | inl t ↦ rw t (triple_front s t)
  | inr f ↦ elim (test_is (is_double (first_of s) (second_of s))) [
    | inl t ↦ rw (f, t) (double_front s t)
    | inr g ↦ elim (test_is (is_single (first_of s))) [
      | inl t ↦ rw (f, g, t) (one_of marks singles s refl t)
      | inr k ↦ (let e = rw (f, g, k) at h in absurd (cc))
    ]
  ]
]

-- whether a mark is measured by the test for its length
abbrev fits : List ℕ → Bool
fits [] = false
fits (a ∷ []) = is_single a
fits (a ∷ b ∷ []) = is_double a b
fits (a ∷ b ∷ c ∷ []) = is_triple a b c
fits (a ∷ b ∷ c ∷ d ∷ s) = false

at_least_one : (a b c : ℕ) → is_single a ≡ true → 1 ≤ mark_with a b c
at_least_one a b c h = elim (test_is (is_triple a b c)) [
  | inl t ↦ rw t (omega arith)
  | inr f ↦ elim (test_is (is_double a b)) [ inl t ↦ rw (f, t) (omega arith) | inr g ↦ rw (f, g, h) (omega arith) ]
]

at_least_two : (a b c : ℕ) → is_double a b ≡ true → 2 ≤ mark_with a b c
at_least_two a b c h = elim (test_is (is_triple a b c)) [ inl t ↦ rw t (omega arith) | inr f ↦ rw (f, h) (omega arith) ]

reaches : (w rest : List ℕ) → fits w ≡ true → length w ≤ mark_length (w ++ rest)
unfolding mark_length
reaches [] rest h = absurd (cc)
reaches (a ∷ []) rest h = at_least_one a (slice_index rest 0) (slice_index rest 1) h
reaches (a ∷ b ∷ []) rest h = at_least_two a b (slice_index rest 0) h
reaches (a ∷ b ∷ c ∷ []) rest h = rw h (omega arith)
reaches (a ∷ b ∷ c ∷ d ∷ s) rest h = absurd (cc)

pub mark_reaches : (w rest : List ℕ) → IsOneOf marks w → length w ≤ mark_length (w ++ rest)
mark_reaches w rest h = reaches w rest (of_table fits marks w refl h)

abbrev is_mark_kind : Kind → Bool
is_mark_kind Mark = true
is_mark_kind _ = false

mark_kind : (k : Kind) → is_mark_kind k ≡ true → k ≡ Mark
mark_kind Mark h = refl
mark_kind Name h = absurd (cc)
mark_kind Number h = absurd (cc)
mark_kind Hash h = absurd (cc)

abbrev starts_mark : ℕ → Bool
starts_mark a = is_mark_kind (kind_at a) && (not (a == 10) && (not (is_among spaces a) && not (a == 92)))

abbrev mark_start : List ℕ → Bool
mark_start [] = false
mark_start (a ∷ s) = starts_mark a

not_true : (b : Bool) → not b ≡ true → b ≡ false
not_true true h = absurd (cc)
not_true false h = refl

-- what a mark begins with
pub record MarkStart (w rest : List ℕ) : Type 0 where
  pub kind : kind_at (first_of (w ++ rest)) ≡ Mark
  pub line : (first_of (w ++ rest) == 10) ≡ false
  pub blank : blank_length (w ++ rest) ≡ 0

start_from : (w rest : List ℕ) → mark_start w ≡ true → MarkStart w rest
start_from [] rest h = absurd (cc)
start_from (a ∷ w) rest h =
    let k = both (is_mark_kind (kind_at a)) (not (a == 10) && (not (is_among spaces a) && not (a == 92))) h in
    let l = both (not (a == 10)) (not (is_among spaces a) && not (a == 92)) k.1 in
    let m = both (not (is_among spaces a)) (not (a == 92)) l.1 in
    record {
      kind = mark_kind (kind_at a) k.0;
      line = not_true (a == 10) l.0;
      blank = no_blank (a ∷ (w ++ rest)) (not_true (is_among spaces a) m.0) (not_true (a == 92) m.1);
    }

table_starts : list_all mark_start marks ≡ true
unfolding kind_at
table_starts = refl

pub starts : (w rest : List ℕ) → IsOneOf marks w → MarkStart w rest
starts w rest h = start_from w rest (of_table mark_start marks w table_starts h)

abbrev some_bytes : List ℕ → Bool
some_bytes [] = false
some_bytes (a ∷ s) = true

some_from : (w : List ℕ) → some_bytes w ≡ true → 0 < length w
some_from [] h = absurd (cc)
some_from (a ∷ w) h = omega arith

pub mark_some : (w : List ℕ) → IsOneOf marks w → 0 < length w
mark_some w h = some_from w (of_table some_bytes marks w refl h)

pub blank_some : (w : List ℕ) → IsOneOf blanks w → 0 < length w
blank_some w h = some_from w (of_table some_bytes blanks w refl h)

abbrev no_line_end : List ℕ → Bool
no_line_end [] = false
no_line_end (a ∷ s) = not (a == 10)

start_of : (w rest : List ℕ) → no_line_end w ≡ true → (first_of (w ++ rest) == 10) ≡ false
start_of [] rest h = absurd (cc)
start_of (a ∷ w) rest h = not_true (a == 10) h

pub blank_start : (w rest : List ℕ) → IsOneOf blanks w → (first_of (w ++ rest) == 10) ≡ false
blank_start w rest h = start_of w rest (of_table no_line_end blanks w refl h)
