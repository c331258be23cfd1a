-- What is read of a number is its spelling, and every spelling is read.
use Rattle.std.proofs.Common.{ℕ, suc, List, [], ◌∷◌, ◌++◌, length, take, drop, Bool, true, false, cond, ◌&&◌, ◌||◌}
use Rattle.std.proofs.Common.{◌==◌, ◌⊎◌, inl, inr, ◌≡◌, refl, sym, ap, subst, ◌∙◌, arith, take-append-drop}
use Rattle.std.proofs.Common.{append_assoc, Option, None, Some, Ok, Err}
use Rattle.std.specs.Prelude.{slice_index}
use Rattle.std.proofs.lemmas.Bool.{eqb-true}
use Rattle.std.proofs.lemmas.Bool.Decides.{nat_tests}
use Rattle.std.proofs.lemmas.List.{take_at, drop_at, length-take-le}
use Rattle.std.specs.List.{list_all, prefix_len}
use Rattle.wg_num.specs.declared.types.IntType.{IntType}
use Rattle.cl_token.specs.declared.number.Base.{Base}
use Rattle.cl_token.specs.declared.number.Base.TheVariants.{Decimal, Octal, Hexadecimal}
use Rattle.cl_token.specs.declared.number.Literal.{Literal}
use Rattle.cl_token.specs.declared.number.LiteralError.TheVariants.{Malformed, TooLarge}
use Rattle.cl_token.specs.Bytes.{is_digit, is_octal_digit, is_hexadecimal_digit, is_nonzero_digit, IsRun}
use Rattle.cl_token.specs.Number.{number_in, is_x, is_u, is_l, IsConstant, decimal, octal, hexadecimal, IsSuffix}
use Rattle.cl_token.specs.Number.{no_suffix, only_u, only_l, u_then_l, l_then_u, Form, SpellsNumber, type_of}
use Rattle.cl_token.specs.Number.{IsLiteral, IsMalformed, IsTooLarge}
use Rattle.cl_token.specs.NumberReading.{prefix_length, radix, digit_in, needs_digits, suffix_of, Parts, with_suffix}
use Rattle.cl_token.specs.NumberReading.{parts_in, parts_of, value_in, typed, outcome_with, outcome_of}
use Rattle.cl_token.proofs.Runs.{chosen, both, and_true, Stops, head_passes, head_is, head_within}

-- ---- bytes

u_ends : (base : Base) (b : ℕ) → is_u b ≡ true → digit_in base b ≡ false
u_ends Decimal b h = grind (arith, nat_tests)
u_ends Octal b h = grind (arith, nat_tests)
u_ends Hexadecimal b h = grind (arith, nat_tests)

l_ends : (base : Base) (b : ℕ) → is_l b ≡ true → digit_in base b ≡ false
l_ends Decimal b h = grind (arith, nat_tests)
l_ends Octal b h = grind (arith, nat_tests)
l_ends Hexadecimal b h = grind (arith, nat_tests)

x_not_octal : (b : ℕ) → is_octal_digit b ≡ true → is_x b ≡ false
x_not_octal b h = grind (arith, nat_tests)

x_not_u : (b : ℕ) → is_u b ≡ true → is_x b ≡ false
x_not_u b h = grind (arith, nat_tests)

x_not_l : (b : ℕ) → is_l b ≡ true → is_x b ≡ false
x_not_l b h = grind (arith, nat_tests)

u_not_l : (b : ℕ) → is_l b ≡ true → is_u b ≡ false
u_not_l b h = grind (arith, nat_tests)

nonzero_is_digit : (b : ℕ) → is_nonzero_digit b ≡ true → is_digit b ≡ true
nonzero_is_digit b h = grind (arith, nat_tests)

nonzero_not_zero : (b : ℕ) → is_nonzero_digit b ≡ true → (b == 48) ≡ false
nonzero_not_zero b h = grind (arith, nat_tests)

digit_not_zero : (b : ℕ) → is_digit b ≡ true → (b == 48) ≡ false → is_nonzero_digit b ≡ true
digit_not_zero b h k = grind (arith, nat_tests)

-- ---- suffixes

suffix_stops : (base : Base) (s : List ℕ) (unsigned long : Bool) → IsSuffix s unsigned long → Stops (digit_in base) s
suffix_stops base s unsigned long no_suffix = tt
suffix_stops base s unsigned long (only_u b h) = u_ends base b h
suffix_stops base s unsigned long (only_l b h) = l_ends base b h
suffix_stops base s unsigned long (u_then_l b c h k) = u_ends base b h
suffix_stops base s unsigned long (l_then_u b c h k) = l_ends base b h

suffix_reads : (s : List ℕ) (unsigned long : Bool) → IsSuffix s unsigned long → suffix_of s ≡ Some (unsigned, long)
suffix_reads s unsigned long no_suffix = refl
suffix_reads s unsigned long (only_u b h) = rw h refl
suffix_reads s unsigned long (only_l b h) = rw (u_not_l b h, h) refl
suffix_reads s unsigned long (u_then_l b c h k) = rw (h, k) refl
suffix_reads s unsigned long (l_then_u b c h k) = rw (u_not_l b h, h, k) refl

abbrev Ending : List ℕ → Bool × Bool → Type 0
Ending s f = IsSuffix s f.0 f.1

some_is : {A : Type 0} (a b : A) → Some a ≡ Some b → a ≡ b
some_is a b h = cc

either : (a b : Bool) → (a || b) ≡ true → (a ≡ true) ⊎ (b ≡ true)
either true b h = inl refl
either false b h = inr h

suffix_sound : (s : List ℕ) (f : Bool × Bool) → suffix_of s ≡ Some f → Ending s f
suffix_sound [] f h = subst (Ending []) (some_is (false, false) f h) no_suffix
suffix_sound (b ∷ []) f h =
    elim (chosen (is_u b) (Some (true, false)) (cond (is_l b) (Some (false, true)) None) (Some f) h) [
      | inl w ↦ subst (Ending (b ∷ [])) (some_is (true, false) f w.1) (only_u b w.0)
      | inr w ↦ elim (chosen (is_l b) (Some (false, true)) None (Some f) w.1) [
        | inl v ↦ subst (Ending (b ∷ [])) (some_is (false, true) f v.1) (only_l b v.0)
        | inr v ↦ absurd (cc)
      ]
    ]
suffix_sound (b ∷ c ∷ []) f h =
    elim (chosen ((is_u b && is_l c) || (is_l b && is_u c)) (Some (true, true)) None (Some f) h) [
      | inl w ↦ elim (either (is_u b && is_l c) (is_l b && is_u c) w.0) [
        | inl v ↦ (let k = both (is_u b) (is_l c) v in
            subst (Ending (b ∷ c ∷ [])) (some_is (true, true) f w.1) (u_then_l b c k.0 k.1))
        | inr v ↦ (let k = both (is_l b) (is_u c) v in
            subst (Ending (b ∷ c ∷ [])) (some_is (true, true) f w.1) (l_then_u b c k.0 k.1))
      ]
      | inr w ↦ absurd (cc)
    ]
suffix_sound (b ∷ c ∷ d ∷ s) f h = absurd (cc)

-- ---- the parts of a number

abbrev made : Base → Bool → Bool → List ℕ → Parts
made base unsigned long ds = record { form = record { base = base; unsigned = unsigned; long = long }; digits = ds }

-- digits of the base, and a suffix behind them
record Body (base : Base) (body : List ℕ) (p : Parts) : Type 0 where
  based : p.form.base ≡ base
  digits : list_all (digit_in base) p.digits ≡ true
  enough : (needs_digits base && length p.digits == 0) ≡ false
  rest : List ℕ
  whole : body ≡ p.digits ++ rest
  ending : IsSuffix rest p.form.unsigned p.form.long

with_suffix_is : (base : Base) (ds : List ℕ) (f : Option (Bool × Bool)) (p : Parts) → with_suffix base ds f ≡ Some p →
    (g : Bool × Bool) × (f ≡ Some g) × (made base g.0 g.1 ds ≡ p)
with_suffix_is base ds None p h = absurd (cc)
with_suffix_is base ds (Some g) p h = (g, refl, some_is (made base g.0 g.1 ds) p h)

length_head : (p : ℕ → Bool) (xs : List ℕ) → length (take (prefix_len p xs) xs) ≡ prefix_len p xs
length_head p xs = length-take-le (prefix_len p xs) xs (head_within p xs)

body_is : (base : Base) (body : List ℕ) (p : Parts) → parts_in base body ≡ Some p → Body base body p
body_is base body p h =
    let n = prefix_len (digit_in base) body in
    elim (chosen (needs_digits base && n == 0) None (with_suffix base (take n body) (suffix_of (drop n body)))
    (Some p) h) [
      | inl w ↦ absurd (cc)
      | inr w ↦ (
          let (g, e, q) = with_suffix_is base (take n body) (suffix_of (drop n body)) p w.1 in
          subst (Body base body) q (record {
            based = refl;
            digits = head_passes (digit_in base) body;
            enough = rw (length_head (digit_in base) body) w.0;
            rest = drop n body;
            whole = sym (take-append-drop n body);
            ending = suffix_sound (drop n body) g e;
          }))
    ]

body_reads : (base : Base) (ds s : List ℕ) (unsigned long : Bool) → list_all (digit_in base) ds ≡ true →
    (needs_digits base && length ds == 0) ≡ false → IsSuffix s unsigned long →
    parts_in base (ds ++ s) ≡ Some (made base unsigned long ds)
body_reads base ds s unsigned long all enough ending =
    let n : prefix_len (digit_in base) (ds ++ s) ≡ length ds =
    head_is (digit_in base) ds s all (suffix_stops base s unsigned long ending) in
    rw (n, enough, take_at ds s (length ds) refl, drop_at ds s (length ds) refl, suffix_reads s unsigned long ending)
    refl

-- ---- what is read is spelled so

from_body : (base : Base) (front : List ℕ) (body : List ℕ) (p : Parts) → (h : Body base body p) →
    IsConstant base (front ++ p.digits) (number_in (radix base) p.digits) →
    SpellsNumber (front ++ body) p.form (value_in p)
from_body base front body p h constant = record {
  constant = front ++ p.digits;
  suffix = h.rest;
  whole = ap (λ (x : List ℕ). front ++ x) h.whole ∙ sym (append_assoc front p.digits h.rest);
  digits = subst (λ (b : Base). IsConstant b (front ++ p.digits) (number_in (radix b) p.digits)) (sym h.based) constant;
  ending = h.ending;
}

run_of_digits : (test : ℕ → Bool) (ds : List ℕ) → list_all test ds ≡ true → (length ds == 0) ≡ false →
    IsRun test test ds
run_of_digits test [] all enough = absurd (cc)
run_of_digits test (d ∷ ds) all enough = both (test d) (list_all test ds) all

decimal_run : (ds rest w : List ℕ) → list_all is_digit ds ≡ true → (length ds == 0) ≡ false → w ≡ ds ++ rest →
    (slice_index w 0 == 48) ≡ false → IsRun is_nonzero_digit is_digit ds
decimal_run [] rest w all enough whole nonzero = absurd (cc)
decimal_run (d ∷ ds) rest w all enough whole nonzero =
    let k = both (is_digit d) (list_all is_digit ds) all in
    let first : (d == 48) ≡ false = ap (λ (x : List ℕ). slice_index x 0 == 48) (sym whole) ∙ nonzero in
    (digit_not_zero d k.0 first, k.1)

pick : (b : ℕ) (bs : List ℕ) (p : Parts) (zero_first x_next : Bool) → (b == 48) ≡ zero_first →
    is_x (slice_index bs 0) ≡ x_next
    → parts_in (cond zero_first (cond x_next Hexadecimal Octal) Decimal)
    (drop (prefix_length (cond zero_first (cond x_next Hexadecimal Octal) Decimal)) (b ∷ bs)) ≡ Some p
    → SpellsNumber (b ∷ bs) p.form (value_in p)
pick b bs p false y e k h =
    let body = body_is Decimal (b ∷ bs) p h in
    from_body Decimal [] (b ∷ bs) p body
    (decimal p.digits (decimal_run p.digits body.rest (b ∷ bs) body.digits body.enough body.whole e))
pick b bs p true false e k h =
    let body = body_is Octal bs p h in
    let zero_is : 48 ≡ b = sym (eqb-true b 48 e) in
    subst (λ (z : ℕ). SpellsNumber (z ∷ bs) p.form (value_in p)) zero_is
    (from_body Octal (48 ∷ []) bs p body (octal p.digits body.digits))
pick b [] p true true e k h = absurd (cc)
pick b (x ∷ cs) p true true e k h =
    let body = body_is Hexadecimal cs p h in
    let zero_is : 48 ≡ b = sym (eqb-true b 48 e) in
    subst (λ (z : ℕ). SpellsNumber (z ∷ x ∷ cs) p.form (value_in p)) zero_is
    (from_body Hexadecimal (48 ∷ x ∷ []) cs p body
    (hexadecimal x p.digits k (run_of_digits is_hexadecimal_digit p.digits body.digits body.enough)))

parts_spell : (w : List ℕ) (p : Parts) → parts_of w ≡ Some p → SpellsNumber w p.form (value_in p)
unfolding parts_of
parts_spell [] p h =
    let body = body_is Decimal [] p h in
    from_body Decimal [] [] p body
    (decimal p.digits (decimal_run p.digits body.rest [] body.digits body.enough body.whole refl))
parts_spell (b ∷ bs) p h = pick b bs p (b == 48) (is_x (slice_index bs 0)) refl refl h

-- ---- what is spelled so is read

some_digits : (n : ℕ) → (suc n == 0) ≡ false
some_digits n = grind (arith, nat_tests)

abbrev Reads : List ℕ → Base → Bool → Bool → ℕ → Type 0
Reads w base unsigned long v =
    (ds : List ℕ) × (parts_of w ≡ Some (made base unsigned long ds)) × (v ≡ number_in (radix base) ds)

no_x : (ds s : List ℕ) (unsigned long : Bool) → list_all is_octal_digit ds ≡ true → IsSuffix s unsigned long →
    is_x (slice_index (ds ++ s) 0) ≡ false
no_x (d ∷ ds) s unsigned long all ending = x_not_octal d (both (is_octal_digit d) (list_all is_octal_digit ds) all).0
no_x [] s unsigned long all no_suffix = refl
no_x [] s unsigned long all (only_u b h) = x_not_u b h
no_x [] s unsigned long all (only_l b h) = x_not_l b h
no_x [] s unsigned long all (u_then_l b c h k) = x_not_u b h
no_x [] s unsigned long all (l_then_u b c h k) = x_not_l b h

constant_reads : (base : Base) (c : List ℕ) (v : ℕ) (s : List ℕ) (unsigned long : Bool) → IsConstant base c v →
    IsSuffix s unsigned long → Reads (c ++ s) base unsigned long v
unfolding parts_of
constant_reads base c v s unsigned long (decimal [] run) ending = absurd run
constant_reads base c v s unsigned long (decimal (d ∷ ds) run) ending = (
  d ∷ ds,
  rw (nonzero_not_zero d run.0)
      (body_reads Decimal (d ∷ ds) s unsigned long
      (and_true (is_digit d) (list_all is_digit ds) (nonzero_is_digit d run.0) run.1) (some_digits (length ds))
      ending),
  refl,
)
constant_reads base c v s unsigned long (octal ds all) ending =
    (ds, rw (no_x ds s unsigned long all ending) (body_reads Octal ds s unsigned long all refl ending), refl)
constant_reads base c v s unsigned long (hexadecimal x [] h run) ending = absurd run
constant_reads base c v s unsigned long (hexadecimal x (d ∷ ds) h run) ending = (
  d ∷ ds,
  rw h (body_reads Hexadecimal (d ∷ ds) s unsigned long
      (and_true (is_hexadecimal_digit d) (list_all is_hexadecimal_digit ds) run.0 run.1)
      (some_digits (length ds)) ending),
  refl,
)

number_reads : (w : List ℕ) (form : Form) (v : ℕ) → SpellsNumber w form v → Reads w form.base form.unsigned form.long v
number_reads w form v h =
    subst (λ (x : List ℕ). Reads x form.base form.unsigned form.long v) (sym h.whole)
    (constant_reads form.base h.constant v h.suffix form.unsigned form.long h.digits h.ending)

-- ---- the literal

-- a spelled number gives its outcome
spelled_outcome : (w : List ℕ) (form : Form) (v : ℕ) → SpellsNumber w form v → outcome_of w ≡ typed v (type_of form v)
unfolding outcome_of
spelled_outcome w form v h =
    let (ds, e, q) = number_reads w form v h in
    ap outcome_with e ∙ ap (λ (n : ℕ). typed n (type_of form n)) (sym q)

some_type : (v : ℕ) (o : Option IntType) (l : Literal) → typed v o ≡ Ok l → (o ≡ Some l.of) × (v ≡ l.value)
some_type v None l h = absurd (cc)
some_type v (Some t) l h =
    let e : record { of = t; value = v } ≡ l = cc in
    (ap (λ (x : Literal). Some x.of) e, ap (λ (x : Literal). x.value) e)

no_type : (v : ℕ) (o : Option IntType) → typed v o ≡ Err TooLarge → o ≡ None
no_type v None h = refl
no_type v (Some t) h = absurd (cc)

not_malformed : (v : ℕ) (o : Option IntType) → typed v o ≡ Err Malformed → ⊥
not_malformed v None h = cc
not_malformed v (Some t) h = cc

sound_from : (w : List ℕ) (l : Literal) (o : Option Parts) → parts_of w ≡ o → outcome_with o ≡ Ok l →
    IsLiteral w l.of l.value
sound_from w l None e h = absurd (cc)
sound_from w l (Some p) e h =
    let (t, v) = some_type (value_in p) (type_of p.form (value_in p)) l h in
    record {
      form = p.form;
      spelled = subst (SpellsNumber w p.form) v (parts_spell w p e);
      typed = ap (type_of p.form) (sym v) ∙ t;
    }

large_from : (w : List ℕ) (o : Option Parts) → parts_of w ≡ o → outcome_with o ≡ Err TooLarge → IsTooLarge w
large_from w None e h = absurd (cc)
large_from w (Some p) e h = record {
  form = p.form;
  value = value_in p;
  spelled = parts_spell w p e;
  typed = no_type (value_in p) (type_of p.form (value_in p)) h;
}

malformed_from : (w : List ℕ) (o : Option Parts) → parts_of w ≡ o → IsMalformed w → outcome_with o ≡ Err Malformed
malformed_from w None e h = refl
malformed_from w (Some p) e h = absurd (h p.form (value_in p) (parts_spell w p e))

pub literal_sound : (w : List ℕ) (l : Literal) → outcome_of w ≡ Ok l → IsLiteral w l.of l.value
unfolding outcome_of
literal_sound w l h = sound_from w l (parts_of w) refl h

pub literal_complete : (w : List ℕ) (t : IntType) (v : ℕ) → IsLiteral w t v →
    outcome_of w ≡ Ok (record { of = t; value = v })
literal_complete w t v h = spelled_outcome w h.form v h.spelled ∙ ap (typed v) h.typed

pub malformed_sound : (w : List ℕ) → outcome_of w ≡ Err Malformed → IsMalformed w
malformed_sound w h = λ form v s. not_malformed v (type_of form v) (sym (spelled_outcome w form v s) ∙ h)

pub malformed_complete : (w : List ℕ) → IsMalformed w → outcome_of w ≡ Err Malformed
unfolding outcome_of
malformed_complete w h = malformed_from w (parts_of w) refl h

pub large_sound : (w : List ℕ) → outcome_of w ≡ Err TooLarge → IsTooLarge w
unfolding outcome_of
large_sound w h = large_from w (parts_of w) refl h

pub large_complete : (w : List ℕ) → IsTooLarge w → outcome_of w ≡ Err TooLarge
large_complete w h = spelled_outcome w h.form h.value h.spelled ∙ ap (typed h.value) h.typed

pub ruleset literals =
    (literal_sound, literal_complete, malformed_sound, malformed_complete, large_sound, large_complete)
