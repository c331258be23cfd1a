-- The longest token at the head of a list: what is measured is spelled, and nothing longer is.
use Rattle.std.proofs.Common.{ℕ, zero, suc, List, [], ◌∷◌, ◌++◌, length, take, drop, Bool, true, false, ◌==◌, inl}
use Rattle.std.proofs.Common.{inr, ◌≡◌, ◌+◌, ◌<◌, ◌≤◌, refl, sym, ap, subst, arith, take-append-drop}
use Rattle.std.specs.Prelude.{slice_index}
use Rattle.std.specs.List.{list_all, prefix_len}
use Rattle.std.proofs.lemmas.Bool.{eqb-true}
use Rattle.std.proofs.lemmas.Bool.Decides.{nat_tests}
use Rattle.std.proofs.lemmas.List.{length-take-le}
use Rattle.cl_token.specs.declared.token.Kind.{Kind}
use Rattle.cl_token.specs.declared.token.Kind.TheVariants.{Name, Number, Mark, Hash}
use Rattle.cl_token.specs.Bytes.{is_digit, is_name_start, is_name_byte, is_number_byte, IsRun}
use Rattle.cl_token.specs.Spelling.{Spells, IsLongest}
use Rattle.cl_token.specs.Reading.{blank_length, kind_at, length_of}
use Rattle.cl_token.proofs.Runs.{and_true, test_is, head_passes, head_within, head_reaches}
use Rattle.cl_token.proofs.ByteFacts.{start_is_name_byte, digit_is_number_byte, start_not_digit, Solid, start_solid}
use Rattle.cl_token.proofs.ByteFacts.{digit_solid}
use Rattle.cl_token.proofs.Marks.{mark_sound, mark_reaches, mark_some, starts, no_blank}

abbrev first_of : List ℕ → ℕ
first_of s = slice_index s 0

-- the kind and the length of the longest token there
abbrev pub kind_of : List ℕ → Kind
kind_of s = kind_at (first_of s)

abbrev pub size_of : List ℕ → ℕ
size_of s = length_of (kind_of s) s

-- ---- kinds by the first byte

pub name_kind : (b : ℕ) → is_name_start b ≡ true → kind_at b ≡ Name
unfolding kind_at
name_kind b h = rw h refl

pub number_kind : (b : ℕ) → is_digit b ≡ true → kind_at b ≡ Number
unfolding kind_at
number_kind b h = rw (start_not_digit b h, h) refl

-- what the kind says of the byte
abbrev Starts : Kind → ℕ → Type 0
Starts Name b = is_name_start b ≡ true
Starts Number b = is_digit b ≡ true
Starts Hash b = b ≡ 35
Starts Mark b = Unit {0}

starts_of : (b : ℕ) → Starts (kind_at b) b
unfolding kind_at
starts_of b = elim (test_is (is_name_start b)) [
  | inl t ↦ rw t t
  | inr f ↦ elim (test_is (is_digit b)) [
    | inl t ↦ rw (f, t) t
    | inr g ↦ elim (test_is (b == 35)) [ inl t ↦ rw (f, g, t) (eqb-true b 35 t) | inr k ↦ rw (f, g, k) tt ]
  ]
]

-- ---- what is measured is spelled

pub record Measured (kind : Kind) (s : List ℕ) (n : ℕ) : Type 0 where
  pub within : n ≤ length s
  pub spelled : Spells kind (take n s)

one_more : (n : ℕ) → 1 + n ≡ suc n
one_more n = omega arith

run_measured : (first other : ℕ → Bool) (b : ℕ) (s : List ℕ) → first b ≡ true → other b ≡ true →
    IsRun first other (take (prefix_len other (b ∷ s)) (b ∷ s))
run_measured first other b s h g = rw (g, one_more (prefix_len other s)) (h, head_passes other s)

measured_by : (kind : Kind) (s : List ℕ) → Starts kind (first_of s) → (length_of kind s == 0) ≡ false →
    Measured kind s (length_of kind s)
unfolding length_of
measured_by Name [] h g = absurd (cc)
measured_by Name (b ∷ s) h g = record {
  within = head_within is_name_byte (b ∷ s);
  spelled = run_measured is_name_start is_name_byte b s h (start_is_name_byte b h);
}
measured_by Number [] h g = absurd (cc)
measured_by Number (b ∷ s) h g = record {
  within = head_within is_number_byte (b ∷ s);
  spelled = run_measured is_digit is_number_byte b s h (digit_is_number_byte b h);
}
measured_by Hash [] h g = absurd (cc)
measured_by Hash (b ∷ s) h g = record {
  within = omega arith;
  spelled = ap (λ (x : ℕ). x ∷ []) h;
}
measured_by Mark s h g = let f = mark_sound s g in record { within = f.within; spelled = f.member }

pub measured : (s : List ℕ) → (size_of s == 0) ≡ false → Measured (kind_of s) s (size_of s)
measured s g = measured_by (kind_of s) s (starts_of (first_of s)) g

-- ---- nothing longer is spelled

pub record Within (kind : Kind) (w rest : List ℕ) : Type 0 where
  pub kind_is : kind_of (w ++ rest) ≡ kind
  pub reaches : length w ≤ length_of kind (w ++ rest)
  pub some : 0 < length w
  pub line : (first_of (w ++ rest) == 10) ≡ false
  pub blank : blank_length (w ++ rest) ≡ 0

solid_blank : (b : ℕ) (s : List ℕ) → Solid b → blank_length (b ∷ s) ≡ 0
solid_blank b s h = no_blank (b ∷ s) h.space h.backslash

hash_within : (rest : List ℕ) → Within Hash (35 ∷ []) rest
unfolding length_of kind_at
hash_within rest = record {
  kind_is = refl;
  reaches = omega arith;
  some = omega arith;
  line = refl;
  blank = no_blank (35 ∷ rest) refl refl;
}

pub within : (kind : Kind) (w rest : List ℕ) → Spells kind w → Within kind w rest
unfolding length_of
within Name [] rest h = absurd h
within Name (b ∷ w) rest h = record {
  kind_is = name_kind b h.0;
  reaches = head_reaches is_name_byte (b ∷ w) rest (and_true (is_name_byte b) (list_all is_name_byte w)
      (start_is_name_byte b h.0) h.1);
  some = omega arith;
  line = (start_solid b h.0).line;
  blank = solid_blank b (w ++ rest) (start_solid b h.0);
}
within Number [] rest h = absurd h
within Number (b ∷ w) rest h = record {
  kind_is = number_kind b h.0;
  reaches = head_reaches is_number_byte (b ∷ w) rest (and_true (is_number_byte b) (list_all is_number_byte w)
      (digit_is_number_byte b h.0) h.1);
  some = omega arith;
  line = (digit_solid b h.0).line;
  blank = solid_blank b (w ++ rest) (digit_solid b h.0);
}
within Hash w rest h = subst (λ (x : List ℕ). Within Hash x rest) (sym h) (hash_within rest)
within Mark w rest h = let s = starts w rest h in record {
  kind_is = s.kind;
  reaches = mark_reaches w rest h;
  some = mark_some w h;
  line = s.line;
  blank = s.blank;
}

-- ---- the longest

pub longest : (s : List ℕ) → (size_of s == 0) ≡ false → IsLongest (take (size_of s) s) s
longest s g kind other rest e h =
    let w = within kind other rest h in
    let size : length (take (size_of s) s) ≡ size_of s = length-take-le (size_of s) s (measured s g).within in
    let same : size_of s ≡ size_of (other ++ rest) = ap size_of e in
    let kinds : size_of (other ++ rest) ≡ length_of kind (other ++ rest) =
    ap (λ (k : Kind). length_of k (other ++ rest)) w.kind_is in
    omega (arith, w.reaches)

positive_test : (n m : ℕ) → m ≤ n → 0 < m → (n == 0) ≡ false
positive_test zero m h g = absurd (omega arith)
positive_test (suc n) m h g = grind (arith, nat_tests)

pub size_some : (kind : Kind) (w rest : List ℕ) → Spells kind w → (size_of (w ++ rest) == 0) ≡ false
size_some kind w rest h =
    let v = within kind w rest h in
    let kinds : size_of (w ++ rest) ≡ length_of kind (w ++ rest) =
    ap (λ (k : Kind). length_of k (w ++ rest)) v.kind_is in
    positive_test (size_of (w ++ rest)) (length w) (omega (arith, v.reaches)) v.some

pub size_is : (kind : Kind) (w rest : List ℕ) → Spells kind w → IsLongest w (w ++ rest) → size_of (w ++ rest) ≡ length w
size_is kind w rest h l =
    let s = w ++ rest in
    let g = size_some kind w rest h in
    let v = within kind w rest h in
    let m = measured s g in
    let kinds : size_of s ≡ length_of kind s = ap (λ (k : Kind). length_of k s) v.kind_is in
    let size : length (take (size_of s) s) ≡ size_of s = length-take-le (size_of s) s m.within in
    let up : length (take (size_of s) s) ≤ length w =
    l (kind_of s) (take (size_of s) s) (drop (size_of s) s) (sym (take-append-drop (size_of s) s)) m.spelled in
    omega (arith, v.reaches)
