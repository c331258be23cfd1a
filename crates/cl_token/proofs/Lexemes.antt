-- What is read at the head of a list is the piece that stands there, and the piece that stands there is read.
use Rattle.std.proofs.Common.{ℕ, suc, List, [], ◌∷◌, ◌++◌, length, take, drop, Bool, true, false, ◌&&◌, ◌||◌, ◌==◌}
use Rattle.std.proofs.Common.{◌⊎◌, inl, inr, ◌≡◌, ◌+◌, ◌<◌, refl, sym, ap, subst, ◌∙◌, arith, take-append-drop}
use Rattle.std.proofs.Common.{append_assoc, length-append, Result, Ok, Err, Option, None, Some}
use Rattle.std.specs.Prelude.{slice_index, codes}
use Rattle.std.specs.List.{list_all, prefix_len}
use Rattle.std.proofs.lemmas.Bool.{eqb-true}
use Rattle.std.proofs.lemmas.Bool.Decides.{nat_tests}
use Rattle.std.proofs.lemmas.List.{length-take-le, take_at}
use Rattle.cl_token.specs.declared.token.Kind.{Kind}
use Rattle.cl_token.specs.declared.token.Kind.TheVariants.{Name, Number, Mark, Hash}
use Rattle.cl_token.specs.declared.number.Literal.{Literal}
use Rattle.cl_token.specs.declared.number.LiteralError.{LiteralError}
use Rattle.cl_token.specs.declared.number.LiteralError.TheVariants.{Malformed, TooLarge}
use Rattle.cl_token.specs.declared.lexeme.Piece.{Piece}
use Rattle.cl_token.specs.declared.lexeme.Piece.TheVariants.{LineEnd, Skipped, Cut}
use Rattle.cl_token.specs.declared.lexeme.Fault.{Fault}
use Rattle.cl_token.specs.declared.lexeme.Fault.TheVariants.{NoToken, OpenComment, BadNumber, LargeNumber}
use Rattle.cl_token.specs.Number.{IsMalformed, IsTooLarge}
use Rattle.cl_token.specs.NumberReading.{outcome_of}
use Rattle.cl_token.specs.Spelling.{IsOneOf, blanks, Spells, IsLongest, OpensComment, line, block, EndsLine, ClosesAt}
use Rattle.cl_token.specs.Spelling.{IsSkipped, blank, line_comment, block_comment, HasValue, IsNext}
use Rattle.cl_token.specs.Cuts.{BeginsNothing, OpensEndless, BeginsMalformed, BeginsTooLarge}
use Rattle.cl_token.specs.Reading.{blank_length, close_of, with_value, valued, token_of, closed, is_line_byte}
use Rattle.cl_token.specs.Reading.{solid_of, piece_of}
use Rattle.cl_token.proofs.Runs.{chosen, both, test_is, Stops, head_passes, head_within, head_is, rest_stops}
use Rattle.cl_token.proofs.Comments.{FirstClose, close_found, close_none, close_missing, close_of_text}
use Rattle.cl_token.proofs.Literals.{literal_sound, literal_complete, malformed_sound, malformed_complete}
use Rattle.cl_token.proofs.Literals.{large_sound, large_complete}
use Rattle.cl_token.proofs.Marks.{blank_sound, blank_complete, blank_some, blank_start, no_blank}
use Rattle.cl_token.proofs.Words.{kind_of, size_of, measured, longest, within, size_some, size_is}

-- ---- tokens

-- a token of this kind and length stands at the head
pub record CutAt (s : List ℕ) (kind : Kind) (n : ℕ) : Type 0 where
  pub word : List ℕ
  pub rest : List ℕ
  pub whole : s ≡ word ++ rest
  pub size : length word ≡ n
  pub next : IsNext kind word rest
  pub value : HasValue kind word

valued_ok : (kind : Kind) (n : ℕ) (s : List ℕ) (k : Kind) (m : ℕ) → valued kind n s ≡ Ok (Cut k m) →
    (kind ≡ k) × (n ≡ m) × HasValue kind (take n s)
valued_ok Name n s k m h = (cc, cc, tt)
valued_ok Mark n s k m h = (cc, cc, tt)
valued_ok Hash n s k m h = (cc, cc, tt)
valued_ok Number n s k m h = number_ok (outcome_of (take n s)) refl h
  where
    number_ok : (o : Result Literal LiteralError) → outcome_of (take n s) ≡ o → with_value n o ≡ Ok (Cut k m) →
        (Number ≡ k) × (n ≡ m) × HasValue Number (take n s)
    number_ok (Ok v) e g = (cc, cc, (v.of, v.value, literal_sound (take n s) v e))
    number_ok (Err Malformed) e g = absurd (cc)
    number_ok (Err TooLarge) e g = absurd (cc)

front_next : (s : List ℕ) → (size_of s == 0) ≡ false → (OpensComment s → ⊥) →
    IsNext (kind_of s) (take (size_of s) s) (drop (size_of s) s)
front_next s g c =
    let whole : s ≡ take (size_of s) s ++ drop (size_of s) s = sym (take-append-drop (size_of s) s) in
    record {
      spelled = (measured s g).spelled;
      longest = subst (IsLongest (take (size_of s) s)) whole (longest s g);
      no_comment = λ o. c (subst OpensComment (sym whole) o);
    }

cut_sound : (s : List ℕ) (k : Kind) (n : ℕ) → (OpensComment s → ⊥) → token_of s ≡ Ok (Cut k n) → CutAt s k n
unfolding token_of
cut_sound s k n c h = elim (chosen (size_of s == 0) (Err NoToken) (valued (kind_of s) (size_of s) s) (Ok (Cut k n)) h) [
  | inl w ↦ absurd (cc)
  | inr w ↦ (
      let (e, q, v) = valued_ok (kind_of s) (size_of s) s k n w.1 in
      record {
        word = take (size_of s) s;
        rest = drop (size_of s) s;
        whole = sym (take-append-drop (size_of s) s);
        size = length-take-le (size_of s) s (measured s w.0).within ∙ q;
        next = subst (λ (x : Kind). IsNext x (take (size_of s) s) (drop (size_of s) s)) e (front_next s w.0 c);
        value = subst (λ (x : Kind). HasValue x (take (size_of s) s)) e v;
      })
]

-- what is next is what is measured
token_is : (kind : Kind) (w rest : List ℕ) → IsNext kind w rest →
    token_of (w ++ rest) ≡ valued kind (length w) (w ++ rest)
unfolding token_of
token_is kind w rest h =
    let size = size_is kind w rest h.spelled h.longest in
    let some = size_some kind w rest h.spelled in
    let k = (within kind w rest h.spelled).kind_is in
    rw some (ap (λ (x : Kind). valued x (size_of (w ++ rest)) (w ++ rest)) k ∙
    ap (λ (n : ℕ). valued kind n (w ++ rest)) size)

cut_complete : (kind : Kind) (w rest : List ℕ) → IsNext kind w rest → HasValue kind w →
    token_of (w ++ rest) ≡ Ok (Cut kind (length w))
cut_complete Name w rest h v = token_is Name w rest h
cut_complete Mark w rest h v = token_is Mark w rest h
cut_complete Hash w rest h v = token_is Hash w rest h
cut_complete Number w rest h v =
    token_is Number w rest h ∙ ap (λ (x : List ℕ). with_value (length w) (outcome_of x))
    (take_at w rest (length w) refl) ∙ ap (with_value (length w)) (literal_complete w v.0 v.1 v.2)

malformed_complete_at : (w rest : List ℕ) → IsNext Number w rest → IsMalformed w → token_of (w ++ rest) ≡ Err BadNumber
malformed_complete_at w rest h v =
    token_is Number w rest h ∙ ap (λ (x : List ℕ). with_value (length w) (outcome_of x))
    (take_at w rest (length w) refl) ∙ ap (with_value (length w)) (malformed_complete w v)

large_complete_at : (w rest : List ℕ) → IsNext Number w rest → IsTooLarge w → token_of (w ++ rest) ≡ Err LargeNumber
large_complete_at w rest h v =
    token_is Number w rest h ∙ ap (λ (x : List ℕ). with_value (length w) (outcome_of x))
    (take_at w rest (length w) refl) ∙ ap (with_value (length w)) (large_complete w v)

none_complete : (s : List ℕ) → ((kind : Kind) (w rest : List ℕ) → s ≡ w ++ rest → Spells kind w → ⊥) →
    token_of s ≡ Err NoToken
unfolding token_of
none_complete s h = elim (test_is (size_of s == 0)) [
  | inl t ↦ rw t refl
  | inr g ↦ absurd (h (kind_of s) (take (size_of s) s) (drop (size_of s) s) (sym (take-append-drop (size_of s) s))
      (measured s g).spelled)
]

-- ---- the faults of tokens

-- what each fault says of the list
abbrev pub Faulty : Fault → List ℕ → Type 0
Faulty NoToken s = BeginsNothing s
Faulty OpenComment s = OpensEndless s
Faulty BadNumber s = BeginsMalformed s
Faulty LargeNumber s = BeginsTooLarge s

valued_err : (kind : Kind) (n : ℕ) (s : List ℕ) (f : Fault) → valued kind n s ≡ Err f → (kind ≡ Number) ×
    (with_value n (outcome_of (take n s)) ≡ Err f)
valued_err Name n s f h = absurd (cc)
valued_err Mark n s f h = absurd (cc)
valued_err Hash n s f h = absurd (cc)
valued_err Number n s f h = (refl, h)

-- what a bad number says
abbrev BadWord : Fault → List ℕ → Type 0
BadWord BadNumber w = IsMalformed w
BadWord LargeNumber w = IsTooLarge w
BadWord NoToken w = ⊥
BadWord OpenComment w = ⊥

abbrev pub fails : Fault → Result Piece Fault
fails f = Err f

pub err_is : (a b : Fault) → fails a ≡ fails b → a ≡ b
err_is a b h = cc

bad_word : (n : ℕ) (w : List ℕ) (f : Fault) (o : Result Literal LiteralError) → outcome_of w ≡ o →
    with_value n o ≡ Err f → BadWord f w
bad_word n w f (Ok v) e h = absurd (cc)
bad_word n w f (Err Malformed) e h = subst (λ (x : Fault). BadWord x w) (err_is BadNumber f h) (malformed_sound w e)
bad_word n w f (Err TooLarge) e h = subst (λ (x : Fault). BadWord x w) (err_is LargeNumber f h) (large_sound w e)

token_fault : (s : List ℕ) (f : Fault) → (OpensComment s → ⊥) → token_of s ≡ Err f → ((size_of s == 0) ≡ true) ×
    (NoToken ≡ f) ⊎ ((size_of s == 0) ≡ false) × (kind_of s ≡ Number) × BadWord f (take (size_of s) s)
unfolding token_of
token_fault s f c h = elim (chosen (size_of s == 0) (Err NoToken) (valued (kind_of s) (size_of s) s) (Err f) h) [
  | inl w ↦ inl (w.0, err_is NoToken f w.1)
  | inr w ↦ (
      let (e, g) = valued_err (kind_of s) (size_of s) s f w.1 in
      inr (w.0, e, bad_word (size_of s) (take (size_of s) s) f (outcome_of (take (size_of s) s)) refl g))
]

number_next : (s : List ℕ) → (size_of s == 0) ≡ false → (OpensComment s → ⊥) → kind_of s ≡ Number →
    IsNext Number (take (size_of s) s) (drop (size_of s) s)
number_next s g c e = subst (λ (x : Kind). IsNext x (take (size_of s) s) (drop (size_of s) s)) e (front_next s g c)

bad_number : (s : List ℕ) (f : Fault) → (size_of s == 0) ≡ false → (OpensComment s → ⊥) → kind_of s ≡ Number →
    BadWord f (take (size_of s) s) → Faulty f s
bad_number s NoToken g c e b = absurd b
bad_number s OpenComment g c e b = absurd b
bad_number s BadNumber g c e b = record {
  word = take (size_of s) s;
  rest = drop (size_of s) s;
  whole = sym (take-append-drop (size_of s) s);
  number = number_next s g c e;
  malformed = b;
}
bad_number s LargeNumber g c e b = record {
  word = take (size_of s) s;
  rest = drop (size_of s) s;
  whole = sym (take-append-drop (size_of s) s);
  number = number_next s g c e;
  large = b;
}

-- ---- comments

abbrev first_of : List ℕ → ℕ
first_of s = slice_index s 0

abbrev second_of : List ℕ → ℕ
second_of s = slice_index s 1

abbrev opens_line : List ℕ → Bool
opens_line s = first_of s == 47 && second_of s == 47

abbrev opens_block : List ℕ → Bool
opens_block s = first_of s == 47 && second_of s == 42

-- the two bytes at the head
two_bytes : (s : List ℕ) (a b : ℕ) → first_of s ≡ suc a → second_of s ≡ suc b → s ≡ suc a ∷ suc b ∷ drop 2 s
two_bytes [] a b h g = absurd (cc)
two_bytes (x ∷ []) a b h g = absurd (cc)
two_bytes (x ∷ y ∷ s) a b h g = rw (h, g) refl

line_head : (s : List ℕ) → opens_line s ≡ true → s ≡ codes "//" ++ drop 2 s
line_head s t = let k = both (first_of s == 47) (second_of s == 47) t in
    two_bytes s 46 46 (eqb-true (first_of s) 47 k.0) (eqb-true (second_of s) 47 k.1)

block_head : (s : List ℕ) → opens_block s ≡ true → s ≡ codes "/*" ++ drop 2 s
block_head s t = let k = both (first_of s == 47) (second_of s == 42) t in
    two_bytes s 46 41 (eqb-true (first_of s) 47 k.0) (eqb-true (second_of s) 42 k.1)

comment_tests : (s : List ℕ) → OpensComment s → (opens_line s || opens_block s) ≡ true
comment_tests s (line rest) = refl
comment_tests s (block rest) = refl

no_comment : (s : List ℕ) → opens_line s ≡ false → opens_block s ≡ false → OpensComment s → ⊥
no_comment s h g c = let t = comment_tests s c in let e = rw (h, g) at t in cc

not_line : (s : List ℕ) → (OpensComment s → ⊥) → opens_line s ≡ false
not_line s c = elim (test_is (opens_line s)) [
  | inl t ↦ absurd (c (subst OpensComment (sym (line_head s t)) (line (drop 2 s))))
  | inr f ↦ f
]

not_block : (s : List ℕ) → (OpensComment s → ⊥) → opens_block s ≡ false
not_block s c = elim (test_is (opens_block s)) [
  | inl t ↦ absurd (c (subst OpensComment (sym (block_head s t)) (block (drop 2 s))))
  | inr f ↦ f
]

-- ---- what is skipped

-- a blank or a comment of this length stands at the head
pub record SkippedAt (s : List ℕ) (n : ℕ) : Type 0 where
  pub piece : List ℕ
  pub rest : List ℕ
  pub whole : s ≡ piece ++ rest
  pub size : length piece ≡ n
  pub some : 0 < n
  pub skipped : IsSkipped piece rest

blank_at : (s : List ℕ) → (blank_length s == 0) ≡ false → SkippedAt s (blank_length s)
blank_at s g = let f = blank_sound s g in record {
  piece = take (blank_length s) s;
  rest = drop (blank_length s) s;
  whole = sym (take-append-drop (blank_length s) s);
  size = length-take-le (blank_length s) s f.within;
  some = grind (arith, nat_tests);
  skipped = blank (take (blank_length s) s) (drop (blank_length s) s) f.member;
}

ends_line : (s : List ℕ) → Stops is_line_byte s → EndsLine s
ends_line [] h = tt
ends_line (b ∷ s) h = grind (arith, nat_tests)

line_stops : (s : List ℕ) → EndsLine s → Stops is_line_byte s
line_stops [] h = tt
line_stops (b ∷ s) h = rw h refl

line_size : (text : List ℕ) → prefix_len is_line_byte (codes "//" ++ text) ≡ 1 + (1 + prefix_len is_line_byte text)
line_size text = refl

line_at_text : (text : List ℕ) → SkippedAt (codes "//" ++ text) (prefix_len is_line_byte (codes "//" ++ text))
line_at_text text =
    let n = prefix_len is_line_byte text in
    let size : length (take n text) ≡ n = length-take-le n text (head_within is_line_byte text) in
    record {
      piece = codes "//" ++ take n text;
      rest = drop n text;
      whole = ap (λ (x : List ℕ). codes "//" ++ x) (sym (take-append-drop n text));
      size = omega (arith, size, line_size text);
      some = omega (arith, line_size text);
      skipped = line_comment (take n text) (drop n text) (head_passes is_line_byte text)
          (ends_line (drop n text) (rest_stops is_line_byte text));
    }

line_at : (s : List ℕ) → opens_line s ≡ true → SkippedAt s (prefix_len is_line_byte s)
line_at s t =
    subst (λ (x : List ℕ). SkippedAt x (prefix_len is_line_byte x)) (sym (line_head s t)) (line_at_text (drop 2 s))

block_at_text : (text : List ℕ) (k : ℕ) → FirstClose text k → SkippedAt (codes "/*" ++ text) (k + 4)
block_at_text text k f = record {
  piece = codes "/*" ++ (f.text ++ codes "*/");
  rest = f.rest;
  whole = ap (λ (x : List ℕ). codes "/*" ++ x) (f.whole ∙ sym (append_assoc f.text (codes "*/") f.rest));
  size = omega (arith, length-append f.text (codes "*/"), f.size);
  some = omega arith;
  skipped = block_comment f.text f.rest (λ place l c. f.first place (omega (arith, f.size)) c);
}

block_at : (s : List ℕ) (k : ℕ) → opens_block s ≡ true → close_of (drop 2 s) ≡ Some k → SkippedAt s (k + 4)
block_at s k t h = subst (λ (x : List ℕ). SkippedAt x (k + 4)) (sym (block_head s t))
    (block_at_text (drop 2 s) k (close_found (drop 2 s) k h))

-- ---- the piece at the head

-- what an answer says of the list
abbrev pub Stands : Result Piece Fault → List ℕ → Type 0
Stands (Ok LineEnd) s = s ≡ 10 ∷ drop 1 s
Stands (Ok (Skipped n)) s = SkippedAt s n
Stands (Ok (Cut kind n)) s = CutAt s kind n
Stands (Err f) s = Faulty f s

line_end_head : (s : List ℕ) → (first_of s == 10) ≡ true → s ≡ 10 ∷ drop 1 s
line_end_head [] t = absurd (cc)
line_end_head (b ∷ s) t = ap (λ (x : ℕ). x ∷ s) (eqb-true b 10 t)

-- no blank, no comment and no line end
record Plain (s : List ℕ) : Type 0 where
  no_line : (first_of s == 10) ≡ false
  no_blank : (blank_length s == 0) ≡ true
  no_comment : OpensComment s → ⊥

nothing : (s : List ℕ) → 0 < length s → Plain s → (size_of s == 0) ≡ true → BeginsNothing s
nothing s some p g = record {
  some = some;
  no_token = λ kind word rest e h. (
      let other : (size_of (word ++ rest) == 0) ≡ false = size_some kind word rest h in
      let same : (size_of s == 0) ≡ (size_of (word ++ rest) == 0) = ap (λ (x : List ℕ). size_of x == 0) e in
      cc);
  no_blank = λ piece rest e h. (
      let size : blank_length s ≡ length piece = ap blank_length e ∙ blank_complete piece rest h in
      let zero_is : blank_length s ≡ 0 = eqb-true (blank_length s) 0 p.no_blank in
      omega (arith, blank_some piece h));
  no_comment = p.no_comment;
  no_line_end = λ rest e. (
      let same : (first_of s == 10) ≡ true = ap (λ (x : List ℕ). first_of x == 10) e in
      let other = p.no_line in
      cc);
}

not_valued : (kind : Kind) (n : ℕ) (s : List ℕ) → (valued kind n s ≡ Ok LineEnd → ⊥) ×
    ((m : ℕ) → valued kind n s ≡ Ok (Skipped m) → ⊥)
not_valued Name n s = (λ h. cc, λ m h. cc)
not_valued Mark n s = (λ h. cc, λ m h. cc)
not_valued Hash n s = (λ h. cc, λ m h. cc)
not_valued Number n s = of_outcome (outcome_of (take n s))
  where
    of_outcome : (o : Result Literal LiteralError) → (with_value n o ≡ Ok LineEnd → ⊥) ×
        ((m : ℕ) → with_value n o ≡ Ok (Skipped m) → ⊥)
    of_outcome (Ok v) = (λ h. cc, λ m h. cc)
    of_outcome (Err Malformed) = (λ h. cc, λ m h. cc)
    of_outcome (Err TooLarge) = (λ h. cc, λ m h. cc)

not_line_end : (s : List ℕ) → token_of s ≡ Ok LineEnd → ⊥
unfolding token_of
not_line_end s h = elim (chosen (size_of s == 0) (Err NoToken) (valued (kind_of s) (size_of s) s) (Ok LineEnd) h) [
  | inl w ↦ cc
  | inr w ↦ (not_valued (kind_of s) (size_of s) s).0 w.1
]

not_skipped : (s : List ℕ) (n : ℕ) → token_of s ≡ Ok (Skipped n) → ⊥
unfolding token_of
not_skipped s n h = elim (chosen (size_of s == 0) (Err NoToken) (valued (kind_of s) (size_of s) s) (Ok (Skipped n)) h) [
  | inl w ↦ cc
  | inr w ↦ (not_valued (kind_of s) (size_of s) s).1 n w.1
]

fault_stands : (s : List ℕ) (f : Fault) → 0 < length s → Plain s → token_of s ≡ Err f → Faulty f s
fault_stands s f some p h = elim (token_fault s f p.no_comment h) [
  | inl w ↦ subst (λ (x : Fault). Faulty x s) w.1 (nothing s some p w.0)
  | inr w ↦ bad_number s f w.0 p.no_comment w.1 w.2
]

token_stands : (s : List ℕ) (r : Result Piece Fault) → 0 < length s → Plain s → token_of s ≡ r → Stands r s
token_stands s (Ok LineEnd) some p h = absurd (not_line_end s h)
token_stands s (Ok (Skipped n)) some p h = absurd (not_skipped s n h)
token_stands s (Ok (Cut kind n)) some p h = cut_sound s kind n p.no_comment h
token_stands s (Err f) some p h = fault_stands s f some p h

closed_stands : (s : List ℕ) (o : Option ℕ) → opens_block s ≡ true → close_of (drop 2 s) ≡ o → Stands (closed o) s
closed_stands s None t h = record { text = drop 2 s; opens = block_head s t; endless = close_missing (drop 2 s) h }
closed_stands s (Some k) t h = block_at s k t h

solid_stands : (s : List ℕ) → 0 < length s → (first_of s == 10) ≡ false → (blank_length s == 0) ≡ true →
    Stands (solid_of s) s
solid_stands s some l b = elim (test_is (opens_line s)) [
  | inl t ↦ rw t (line_at s t)
  | inr f ↦ elim (test_is (opens_block s)) [
    | inl t ↦ rw (f, t) (closed_stands s (close_of (drop 2 s)) t refl)
    | inr g ↦ rw (f, g) (token_stands s (token_of s) some (record {
      no_line = l;
      no_blank = b;
      no_comment = no_comment s f g;
    }) refl)
  ]
]

pub piece_stands : (s : List ℕ) → 0 < length s → Stands (piece_of s) s
unfolding piece_of
piece_stands s some = elim (test_is (first_of s == 10)) [
  | inl t ↦ rw t (line_end_head s t)
  | inr f ↦ elim (test_is (blank_length s == 0)) [
    | inl t ↦ rw (f, t) (solid_stands s some f t)
    | inr g ↦ rw (f, g) (blank_at s g)
  ]
]

-- ---- what stands there is read

abbrev pub skips : ℕ → Result Piece Fault
skips n = Ok (Skipped n)

some_length : (n : ℕ) → 0 < n → (n == 0) ≡ false
some_length n h = grind (arith, nat_tests)

blank_read : (piece rest : List ℕ) → IsOneOf blanks piece → piece_of (piece ++ rest) ≡ skips (length piece)
unfolding piece_of
blank_read piece rest h =
    let size = blank_complete piece rest h in
    let start = blank_start piece rest h in
    rw (start, size, some_length (length piece) (blank_some piece h)) refl

line_read : (text rest : List ℕ) → list_all is_line_byte text ≡ true → EndsLine rest →
    piece_of (codes "//" ++ (text ++ rest)) ≡ skips (2 + length text)
unfolding piece_of
line_read text rest h e =
    let none : blank_length (codes "//" ++ (text ++ rest)) ≡ 0 = no_blank (codes "//" ++ (text ++ rest)) refl refl in
    let size : prefix_len is_line_byte (text ++ rest) ≡ length text =
    head_is is_line_byte text rest h (line_stops rest e) in
    let all : prefix_len is_line_byte (codes "//" ++ (text ++ rest)) ≡ 2 + length text =
    omega (arith, size, line_size (text ++ rest)) in
    rw none (ap skips all)

block_read : (text rest : List ℕ) → ((place : ℕ) → place < length text → ClosesAt (text ++ codes "*/") place → ⊥) →
    piece_of (codes "/*" ++ (text ++ (42 ∷ 47 ∷ rest))) ≡ skips (length text + 4)
unfolding piece_of
block_read text rest h =
    let none : blank_length (codes "/*" ++ (text ++ (42 ∷ 47 ∷ rest))) ≡ 0 =
    no_blank (codes "/*" ++ (text ++ (42 ∷ 47 ∷ rest))) refl refl in
    rw none (ap closed (close_of_text text rest h))

pub skipped_complete : (piece rest : List ℕ) → IsSkipped piece rest → piece_of (piece ++ rest) ≡ skips (length piece)
skipped_complete piece rest (blank bytes after h) = blank_read piece rest h
skipped_complete piece rest (line_comment text after h e) =
    let size : 2 + length text ≡ length (codes "//" ++ text) = omega arith in
    line_read text rest h e ∙ ap skips size
skipped_complete piece rest (block_comment text after h) =
    let size : length text + 4 ≡ length (codes "/*" ++ (text ++ codes "*/")) =
    omega (arith, length-append text (codes "*/")) in
    ap (λ (x : List ℕ). piece_of (codes "/*" ++ x)) (append_assoc text (codes "*/") rest) ∙ block_read text rest h ∙
    ap skips size

pub line_end_complete : (rest : List ℕ) → piece_of (10 ∷ rest) ≡ Ok LineEnd
unfolding piece_of
line_end_complete rest = refl

solid_complete : (kind : Kind) (w rest : List ℕ) → IsNext kind w rest → piece_of (w ++ rest) ≡ token_of (w ++ rest)
unfolding piece_of
solid_complete kind w rest h =
    let v = within kind w rest h.spelled in
    rw (v.line, v.blank, not_line (w ++ rest) h.no_comment, not_block (w ++ rest) h.no_comment) refl

pub word_complete : (kind : Kind) (w rest : List ℕ) → IsNext kind w rest → HasValue kind w →
    piece_of (w ++ rest) ≡ Ok (Cut kind (length w))
word_complete kind w rest h v = solid_complete kind w rest h ∙ cut_complete kind w rest h v

blank_zero : (s : List ℕ) → ((blank rest : List ℕ) → s ≡ blank ++ rest → IsOneOf blanks blank → ⊥) → blank_length s ≡ 0
blank_zero s h = elim (test_is (blank_length s == 0)) [
  | inl t ↦ eqb-true (blank_length s) 0 t
  | inr g ↦ absurd (h (take (blank_length s) s) (drop (blank_length s) s) (sym (take-append-drop (blank_length s) s))
      (blank_sound s g).member)
]

not_line_end_head : (s : List ℕ) → ((rest : List ℕ) → s ≡ 10 ∷ rest → ⊥) → (first_of s == 10) ≡ false
not_line_end_head s h = elim (test_is (first_of s == 10)) [
  | inl t ↦ absurd (h (drop 1 s) (line_end_head s t))
  | inr f ↦ f
]

nothing_complete : (s : List ℕ) → BeginsNothing s → piece_of s ≡ Err NoToken
unfolding piece_of
nothing_complete s h =
    rw (
      not_line_end_head s h.no_line_end,
      blank_zero s h.no_blank,
      not_line s h.no_comment,
      not_block s h.no_comment,
    ) (none_complete s h.no_token)

endless_complete : (text : List ℕ) → ((place : ℕ) → ClosesAt text place → ⊥) →
    piece_of (codes "/*" ++ text) ≡ Err OpenComment
unfolding piece_of
endless_complete text h =
    let none : blank_length (codes "/*" ++ text) ≡ 0 = no_blank (codes "/*" ++ text) refl refl in
    rw none (ap closed (close_none text h))

pub fault_complete : (f : Fault) (s : List ℕ) → Faulty f s → piece_of s ≡ Err f
fault_complete NoToken s h = nothing_complete s h
fault_complete OpenComment s h = ap piece_of h.opens ∙ endless_complete h.text h.endless
fault_complete BadNumber s h = ap piece_of h.whole ∙ solid_complete Number h.word h.rest h.number ∙
    malformed_complete_at h.word h.rest h.number h.malformed
fault_complete LargeNumber s h = ap piece_of h.whole ∙ solid_complete Number h.word h.rest h.number ∙
    large_complete_at h.word h.rest h.number h.large
