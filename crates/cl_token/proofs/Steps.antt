-- One piece more of a source, and the one way in which it is cut.
use Rattle.std.proofs.Common.{ℕ, List, [], ◌∷◌, ◌++◌, length, take, drop, Bool, true, false, ◌≡◌, ◌+◌, ◌-◌, ◌<◌, ◌≤◌}
use Rattle.std.proofs.Common.{refl, sym, ap, subst, ◌∙◌, arith, length-append, length-drop, Result, Ok}
use Rattle.std.specs.Prelude.{slice_range}
use Rattle.std.proofs.lemmas.List.{take_at, drop_at, drop-drop, drop_all}
use Rattle.cl_token.specs.declared.token.Kind.{Kind}
use Rattle.cl_token.specs.declared.token.Token.{Token}
use Rattle.cl_token.specs.Cuts.{CutsTo, skip, line_end, token, Cuts, limit}
use Rattle.cl_token.specs.declared.lexeme.Piece.{Piece}
use Rattle.cl_token.specs.declared.lexeme.Fault.{Fault}
use Rattle.cl_token.specs.declared.lexeme.Fault.TheVariants.{NoToken, OpenComment, BadNumber, LargeNumber}
use Rattle.cl_token.specs.Answers.{IsRefusedOrMemory, error_at}
use Rattle.cl_token.specs.Reading.{piece_of}
use Rattle.cl_token.proofs.Words.{within}
use Rattle.cl_token.proofs.Lexemes.{SkippedAt, CutAt, Stands, Faulty, piece_stands}

-- what follows a piece of this length
rest_is : (source : List ℕ) (at n : ℕ) (piece rest : List ℕ) → drop at source ≡ piece ++ rest → length piece ≡ n →
    drop (at + n) source ≡ rest
rest_is source at n piece rest e size =
    sym (drop-drop n at source) ∙ ap (drop n) e ∙ drop_at piece rest n size

pub fits : (source : List ℕ) (at n : ℕ) (piece rest : List ℕ) → at ≤ length source → drop at source ≡ piece ++ rest →
    length piece ≡ n → at + n ≤ length source
fits source at n piece rest h e size =
    let all : length (drop at source) ≡ length (piece ++ rest) = ap length e in
    omega (arith, length-drop at source, length-append piece rest)

-- ---- steps

pub line_step : (source : List ℕ) (at : ℕ) (first : Bool) (ts : List Token) →
    CutsTo source at first (drop at source) ts → drop at source ≡ 10 ∷ drop 1 (drop at source) →
    CutsTo source (at + 1) true (drop (at + 1) source) ts
line_step source at first ts h e =
    let after : drop (at + 1) source ≡ drop 1 (drop at source) =
    rest_is source at 1 (10 ∷ []) (drop 1 (drop at source)) e refl in
    subst (λ (x : List ℕ). CutsTo source (at + 1) true x ts) (sym after)
    (line_end (drop 1 (drop at source)) (subst (λ (x : List ℕ). CutsTo source at first x ts) e h))

pub skip_step : (source : List ℕ) (at n : ℕ) (first : Bool) (ts : List Token) →
    CutsTo source at first (drop at source) ts → SkippedAt (drop at source) n →
    CutsTo source (at + n) first (drop (at + n) source) ts
skip_step source at n first ts h s =
    let after : drop (at + n) source ≡ s.rest = rest_is source at n s.piece s.rest s.whole s.size in
    let next : CutsTo source (at + length s.piece) first s.rest ts =
    skip s.piece s.rest (subst (λ (x : List ℕ). CutsTo source at first x ts) s.whole h) s.skipped in
    subst (λ (x : List ℕ). CutsTo source (at + n) first x ts) (sym after)
    (subst (λ (m : ℕ). CutsTo source (at + m) first s.rest ts) s.size next)

abbrev pub token_made : Kind → List ℕ → ℕ → ℕ → Bool → Token
token_made kind word at end first = record { kind = kind; word = word; start = at; end = end; first = first }

word_is : (source : List ℕ) (at n : ℕ) (word rest : List ℕ) → drop at source ≡ word ++ rest → length word ≡ n →
    slice_range source at (at + n) ≡ word
word_is source at n word rest e size =
    let m : at + n - at ≡ n = omega arith in
    ap (λ (k : ℕ). take k (drop at source)) m ∙ ap (take n) e ∙ take_at word rest n size

pub token_step : (source : List ℕ) (at n : ℕ) (first : Bool) (ts us : List Token) (t : Token) (kind : Kind) →
    CutsTo source at first (drop at source) ts → CutAt (drop at source) kind n
    → t ≡ token_made kind (slice_range source at (at + n)) at (at + n) first → us ≡ ts ++ t ∷ [] →
    CutsTo source (at + n) false (drop (at + n) source) us
token_step source at n first ts us t kind h s made pushed =
    let after : drop (at + n) source ≡ s.rest = rest_is source at n s.word s.rest s.whole s.size in
    let next : CutsTo source (at + length s.word) false s.rest (ts ++ token_made kind s.word at (at + length s.word)
    first ∷ []) =
    token kind s.word s.rest (subst (λ (x : List ℕ). CutsTo source at first x ts) s.whole h) s.next s.value in
    let sized : CutsTo source (at + n) false s.rest (ts ++ token_made kind s.word at (at + n) first ∷ []) =
    subst (λ (m : ℕ). CutsTo source (at + m) false s.rest (ts ++ token_made kind s.word at (at + m) first ∷ []))
    s.size next in
    let same : token_made kind s.word at (at + n) first ≡ t =
    ap (λ (w : List ℕ). token_made kind w at (at + n) first)
    (sym (word_is source at n s.word s.rest s.whole s.size)) ∙ sym made in
    let list : ts ++ token_made kind s.word at (at + n) first ∷ [] ≡ us =
    ap (λ (x : Token). ts ++ x ∷ []) same ∙ sym pushed in
    subst (λ (x : List ℕ). CutsTo source (at + n) false x us) (sym after)
    (subst (CutsTo source (at + n) false s.rest) list sized)

-- ---- what the loop reads

pub found : (source : List ℕ) (at : ℕ) (r : Result Piece Fault) → at < length source → r ≡ piece_of (drop at source) →
    Stands r (drop at source)
found source at r h e = subst (λ (x : Result Piece Fault). Stands x (drop at source)) (sym e)
    (piece_stands (drop at source) (omega (arith, length-drop at source)))

pub word_some : (s : List ℕ) (kind : Kind) (n : ℕ) → CutAt s kind n → 0 < n
word_some s kind n h = omega (arith, (within kind h.word h.rest h.next.spelled).some, h.size)

pub refused : (source : List ℕ) (at : ℕ) (f : Fault) (first : Bool) (ts : List Token) → length source ≤ limit →
    CutsTo source at first (drop at source) ts → Faulty f (drop at source) → IsRefusedOrMemory source (error_at f at)
refused source at NoToken first ts l h w =
    (l, record { first = first; rest = drop at source; before = ts; cut = h; wrong = w })
refused source at OpenComment first ts l h w =
    (l, record { first = first; rest = drop at source; before = ts; cut = h; wrong = w })
refused source at BadNumber first ts l h w =
    (l, record { first = first; rest = drop at source; before = ts; cut = h; wrong = w })
refused source at LargeNumber first ts l h w =
    (l, record { first = first; rest = drop at source; before = ts; cut = h; wrong = w })

pub ended : (source : List ℕ) (at : ℕ) (first : Bool) (ts : List Token) → length source ≤ at →
    CutsTo source at first (drop at source) ts → Cuts source ts
ended source at first ts l h =
    record {
      at = at;
      first = first;
      whole = subst (λ (x : List ℕ). CutsTo source at first x ts) (drop_all at source l) h;
    }

pub found_piece : (source : List ℕ) (at : ℕ) (p q : Piece) → at < length source → p ≡ q →
    Ok p ≡ piece_of (drop at source) → Stands (Ok q) (drop at source)
found_piece source at p q h e f = found source at (Ok q) h (ap (λ (x : Piece). Ok x) (sym e) ∙ f)
