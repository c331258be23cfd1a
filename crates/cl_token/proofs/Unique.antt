-- A source is cut in one way: each step is the one that is read at what remains.
use Rattle.std.proofs.Common.{ℕ, zero, suc, List, [], ◌∷◌, ◌++◌, length, Bool, true, false, ◌⊎◌, inl, inr, ◌≡◌, ◌+◌}
use Rattle.std.proofs.Common.{◌<◌, refl, sym, ap, ◌∙◌, arith, length-append, take, drop, Option, None, Some, Result}
use Rattle.std.proofs.Common.{Ok, Err}
use Rattle.std.proofs.lemmas.List.{take_at, drop_at}
use Rattle.std.proofs.lemmas.Bool.Decides.{leb_tells}
use Rattle.cl_token.specs.declared.token.Kind.{Kind}
use Rattle.cl_token.specs.declared.token.Kind.TheVariants as kinds
use Rattle.cl_token.specs.declared.token.Token.{Token}
use Rattle.cl_token.specs.declared.lexeme.Piece.{Piece}
use Rattle.cl_token.specs.declared.lexeme.Piece.TheVariants.{LineEnd, Skipped, Cut}
use Rattle.cl_token.specs.declared.lexeme.Fault.{Fault}
use Rattle.cl_token.specs.declared.lexeme.Fault.TheVariants.{NoToken, OpenComment, BadNumber, LargeNumber}
use Rattle.cl_token.specs.Spelling.{IsSkipped, blank, line_comment, block_comment, IsNext, HasValue}
use Rattle.cl_token.specs.Cuts.{CutsTo, start, skip, line_end, token, Cuts, FailsAt}
use Rattle.cl_token.specs.Reading.{piece_of}
use Rattle.cl_token.proofs.Lexemes.{skipped_complete, line_end_complete, word_complete, fault_complete, Faulty, err_is}
use Rattle.cl_token.proofs.Marks.{blank_some}
use Rattle.cl_token.proofs.Words.{within}

-- where the cutting of a source stands
record State : Type 0 where
  at : ℕ
  first : Bool
  rest : List ℕ
  before : List Token

abbrev state : ℕ → Bool → List ℕ → List Token → State
state at first rest ts = record { at = at; first = first; rest = rest; before = ts }

abbrev step_by : State → Result Piece Fault → Option State
step_by s (Ok LineEnd) = Some (state (s.at + 1) true (drop 1 s.rest) s.before)
step_by s (Ok (Skipped n)) = Some (state (s.at + n) s.first (drop n s.rest) s.before)
step_by s (Ok (Cut kind n)) = Some (state (s.at + n) false (drop n s.rest) (s.before ++ record {
  kind = kind;
  word = take n s.rest;
  start = s.at;
  end = s.at + n;
  first = s.first;
} ∷ []))
step_by s (Err f) = None

step_at : State → List ℕ → Option State
step_at s [] = None
step_at s (b ∷ bs) = step_by s (piece_of (b ∷ bs))

step : State → Option State
step s = step_at s s.rest

onward : Option State → Option State
onward None = None
onward (Some s) = step s

walk : List ℕ → ℕ → Option State
walk source zero = Some (state 0 true source [])
walk source (suc n) = onward (walk source n)

step_some : (at : ℕ) (first : Bool) (rest : List ℕ) (ts : List Token) → 0 < length rest →
    step (state at first rest ts) ≡ step_by (state at first rest ts) (piece_of rest)
unfolding step step_at
step_some at first [] ts h = absurd (omega arith)
step_some at first (b ∷ bs) ts h = refl

length_front : (piece rest : List ℕ) → 0 < length piece → 0 < length (piece ++ rest)
length_front piece rest h = omega (arith, length-append piece rest)

skipped_some : (piece rest : List ℕ) → IsSkipped piece rest → 0 < length piece
skipped_some piece rest (blank bytes after h) = blank_some piece h
skipped_some piece rest (line_comment text after h e) = omega arith
skipped_some piece rest (block_comment text after h) = omega arith

skip_is : (at : ℕ) (first : Bool) (ts : List Token) (piece rest : List ℕ) → IsSkipped piece rest →
    step (state at first (piece ++ rest) ts) ≡ Some (state (at + length piece) first rest ts)
skip_is at first ts piece rest h =
    step_some at first (piece ++ rest) ts (length_front piece rest (skipped_some piece rest h))
    ∙ ap (step_by (state at first (piece ++ rest) ts)) (skipped_complete piece rest h)
    ∙ ap (λ (x : List ℕ). Some (state (at + length piece) first x ts)) (drop_at piece rest (length piece) refl)

line_is : (at : ℕ) (first : Bool) (ts : List Token) (rest : List ℕ) →
    step (state at first (10 ∷ rest) ts) ≡ Some (state (at + 1) true rest ts)
line_is at first ts rest =
    step_some at first (10 ∷ rest) ts (omega arith) ∙
    ap (step_by (state at first (10 ∷ rest) ts)) (line_end_complete rest)

abbrev made : Kind → List ℕ → ℕ → Bool → ℕ → Token
made kind word at first n = record { kind = kind; word = word; start = at; end = at + n; first = first }

word_is : (at : ℕ) (first : Bool) (ts : List Token) (kind : Kind) (word rest : List ℕ) → IsNext kind word rest →
    HasValue kind word
    → step (state at first (word ++ rest) ts) ≡
    Some (state (at + length word) false rest (ts ++ made kind word at first (length word) ∷ []))
word_is at first ts kind word rest h v =
    step_some at first (word ++ rest) ts (length_front word rest (within kind word rest h.spelled).some)
    ∙ ap (step_by (state at first (word ++ rest) ts)) (word_complete kind word rest h v)
    ∙
    ap (λ (x : List ℕ). Some (state (at + length word) false x
    (ts ++ made kind (take (length word) (word ++ rest)) at first (length word) ∷ [])))
    (drop_at word rest (length word) refl)
    ∙ ap (λ (x : List ℕ). Some (state (at + length word) false rest (ts ++ made kind x at first (length word) ∷ [])))
    (take_at word rest (length word) refl)

abbrev Reached : List ℕ → State → Type 0
Reached source s = (n : ℕ) × (walk source n ≡ Some s)

further : (source : List ℕ) (s t : State) → Reached source s → step s ≡ Some t → Reached source t
unfolding onward walk
further source s t (n, e) h = (suc n, rw e h)

reached : (source : List ℕ) (at : ℕ) (first : Bool) (rest : List ℕ) (ts : List Token) →
    CutsTo source at first rest ts → Reached source (state at first rest ts)
unfolding walk
reached source at first rest ts start = (0, refl)
reached source at first rest ts (skip {at = b} {first = f} {ts = us} piece after h k) =
    further source (state b f (piece ++ after) us) (state (b + length piece) f after us)
    (reached source b f (piece ++ after) us h) (skip_is b f us piece after k)
reached source at first rest ts (line_end {at = b} {first = f} {ts = us} after h) =
    further source (state b f (10 ∷ after) us) (state (b + 1) true after us) (reached source b f (10 ∷ after) us h)
    (line_is b f us after)
reached source at first rest ts (token {at = b} {first = f} {ts = us} kind word after h k v) =
    further source (state b f (word ++ after) us)
    (state (b + length word) false after (us ++ made kind word b f (length word) ∷ []))
    (reached source b f (word ++ after) us h) (word_is b f us kind word after k v)

-- ---- where no step follows

below_or_same : (n m : ℕ) → n < suc m → (n < m) ⊎ (n ≡ m)
below_or_same n m h = elim (leb_tells (suc n) m) [ inl w ↦ inl (omega (arith, w.1)) | inr w ↦ inr (omega (arith, w.1)) ]

over : (source : List ℕ) (s : State) (n : ℕ) → walk source n ≡ Some s → step s ≡ None → (m : ℕ) → n < m →
    walk source m ≡ None
unfolding onward walk
over source s n e h zero l = absurd (omega arith)
over source s n e h (suc m) l = elim (below_or_same n m l) [
  | inl w ↦ rw (over source s n e h m w) refl
  | inr w ↦ (let f : walk source m ≡ Some s = ap (walk source) (sym w) ∙ e in rw f h)
]

one_end : (source : List ℕ) (s t : State) → Reached source s → step s ≡ None → Reached source t → step t ≡ None → s ≡ t
one_end source s t (n, e) h (m, f) k = elim (leb_tells (suc n) m) [
  | inl w ↦ (let g = over source s n e h m (omega (arith, w.1)) in absurd (cc))
  | inr w ↦ elim (below_or_same m n (omega (arith, w.1))) [
    | inl v ↦ (let g = over source t m f k n v in absurd (cc))
    | inr v ↦ (let g : walk source n ≡ Some t = ap (walk source) (sym v) ∙ f in cc)
  ]
]

all_done : (at : ℕ) (first : Bool) (ts : List Token) → step (state at first [] ts) ≡ None
unfolding step step_at
all_done at first ts = refl

faulty_some : (f : Fault) (s : List ℕ) → Faulty f s → 0 < length s
faulty_some NoToken s h = h.some
faulty_some OpenComment s h = rw h.opens (omega arith)
faulty_some BadNumber s h =
    rw h.whole (length_front h.word h.rest (within kinds.Number h.word h.rest h.number.spelled).some)
faulty_some LargeNumber s h =
    rw h.whole (length_front h.word h.rest (within kinds.Number h.word h.rest h.number.spelled).some)

at_fault : (f : Fault) (at : ℕ) (first : Bool) (rest : List ℕ) (ts : List Token) → Faulty f rest →
    step (state at first rest ts) ≡ None
at_fault f at first rest ts h =
    step_some at first rest ts (faulty_some f rest h) ∙ ap (step_by (state at first rest ts)) (fault_complete f rest h)

-- ---- one answer

pub one_cut : (source : List ℕ) (ts us : List Token) → Cuts source ts → Cuts source us → ts ≡ us
one_cut source ts us h k =
    ap (λ (s : State). s.before) (one_end source (state h.at h.first [] ts) (state k.at k.first [] us)
    (reached source h.at h.first [] ts h.whole) (all_done h.at h.first ts)
    (reached source k.at k.first [] us k.whole) (all_done k.at k.first us))

pub cut_or_fault : (source : List ℕ) (ts : List Token) (f : Fault) (at : ℕ) → Cuts source ts →
    FailsAt (Faulty f) source at → ⊥
cut_or_fault source ts f at h k =
    let e : [] ≡ k.rest = ap (λ (s : State). s.rest)
    (one_end source (state h.at h.first [] ts) (state at k.first k.rest k.before)
    (reached source h.at h.first [] ts h.whole) (all_done h.at h.first ts)
    (reached source at k.first k.rest k.before k.cut) (at_fault f at k.first k.rest k.before k.wrong)) in
    let size : 0 ≡ length k.rest = ap length e in
    omega (arith, faulty_some f k.rest k.wrong)

pub one_fault : (source : List ℕ) (f g : Fault) (at bt : ℕ) → FailsAt (Faulty f) source at →
    FailsAt (Faulty g) source bt → (f ≡ g) × (at ≡ bt)
one_fault source f g at bt h k =
    let e : state at h.first h.rest h.before ≡ state bt k.first k.rest k.before =
    one_end source (state at h.first h.rest h.before) (state bt k.first k.rest k.before)
    (reached source at h.first h.rest h.before h.cut) (at_fault f at h.first h.rest h.before h.wrong)
    (reached source bt k.first k.rest k.before k.cut) (at_fault g bt k.first k.rest k.before k.wrong) in
    let rest : h.rest ≡ k.rest = ap (λ (s : State). s.rest) e in
    let one : piece_of h.rest ≡ Err f = fault_complete f h.rest h.wrong in
    let two : piece_of h.rest ≡ Err g = ap piece_of rest ∙ fault_complete g k.rest k.wrong in
    (err_is f g (sym one ∙ two), ap (λ (s : State). s.at) e)
