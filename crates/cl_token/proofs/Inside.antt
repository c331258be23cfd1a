-- Tokens lie inside their source.
use Rattle.std.proofs.Common.{ℕ, List, [], ◌∷◌, ◌++◌, length, Bool, ◌≡◌, ◌+◌, ◌≤◌, arith, length-append, Vec, Global}
use Rattle.std.proofs.Common.{Result, Ok, Err}
use Rattle.std.specs.Prelude.{IfOk}
use Rattle.cl_token.specs.declared.token.LexError.{LexError}
use Rattle.cl_token.specs.Answers.{IsCutOrRefused}
use Rattle.cl_token.proofs.Words.{within}
use Rattle.std.proofs.lemmas.List.{length_push}
use Rattle.std.specs.List.{All}
use Rattle.std.proofs.lemmas.List.Elements.{All-push}
use Rattle.cl_token.specs.declared.token.Token.{Token}
use Rattle.cl_token.specs.Cuts.{CutsTo, start, skip, line_end, token, Cuts}

-- what is cut and what remains are the whole source
size_is : (source : List ℕ) (at : ℕ) (first : Bool) (rest : List ℕ) (ts : List Token) →
    CutsTo source at first rest ts → at + length rest ≡ length source
size_is source at first rest ts start = omega arith
size_is source at first rest ts (skip {at = b} {first = f} {ts = us} piece after h k) =
    omega (arith, size_is source b f (piece ++ after) us h, length-append piece after)
size_is source at first rest ts (line_end {at = b} {first = f} {ts = us} after h) =
    omega (arith, size_is source b f (10 ∷ after) us h)
size_is source at first rest ts (token {at = b} {first = f} {ts = us} kind word after h k v) =
    omega (arith, size_is source b f (word ++ after) us h, length-append word after)

abbrev Starts : ℕ → List Token → Type 0
Starts n ts = All (λ t. t.start ≤ n) ts

later : (ts : List Token) (m n : ℕ) → Starts m ts → m ≤ n → Starts n ts
later ts m n h l = λ k d i. omega (arith, h k d i)

begun : (source : List ℕ) (at : ℕ) (first : Bool) (rest : List ℕ) (ts : List Token) → CutsTo source at first rest ts →
    Starts at ts
begun source at first rest ts start = λ k d i. absurd (omega arith)
begun source at first rest ts (skip {at = b} {first = f} {ts = us} piece after h k) =
    later us b (b + length piece) (begun source b f (piece ++ after) us h) (omega arith)
begun source at first rest ts (line_end {at = b} {first = f} {ts = us} after h) =
    later us b (b + 1) (begun source b f (10 ∷ after) us h) (omega arith)
begun source at first rest ts (token {at = b} {first = f} {ts = us} kind word after h k v) =
    let made : Token = record { kind = kind; word = word; start = b; end = b + length word; first = f } in
    let before : Starts (b + length word) us =
    later us b (b + length word) (begun source b f (word ++ after) us h) (omega arith) in
    All-push (λ (t : Token). t.start ≤ b + length word) us made before (omega arith)

pub inside : (source : List ℕ) (ts : List Token) → Cuts source ts → All (λ t. t.start ≤ length source) ts
inside source ts h =
    later ts h.at (length source) (begun source h.at h.first [] ts h.whole) (omega (
      arith,
      size_is source h.at h.first [] ts h.whole,
    ))

pub all_inside : (source : List ℕ) (r : Result (Vec Token Global) LexError) → IsCutOrRefused source r →
    IfOk r (λ ts. All (λ t. t.start ≤ length source) ts.items)
all_inside source (Ok v) h = inside source v.items h
all_inside source (Err e) h = tt

-- each token has a byte
fewer : (source : List ℕ) (at : ℕ) (first : Bool) (rest : List ℕ) (ts : List Token) → CutsTo source at first rest ts →
    length ts ≤ at
fewer source at first rest ts start = omega arith
fewer source at first rest ts (skip {at = b} {first = f} {ts = us} piece after h k) =
    omega (arith, fewer source b f (piece ++ after) us h)
fewer source at first rest ts (line_end {at = b} {first = f} {ts = us} after h) =
    omega (arith, fewer source b f (10 ∷ after) us h)
fewer source at first rest ts (token {at = b} {first = f} {ts = us} kind word after h k v) =
    let made : Token = record { kind = kind; word = word; start = b; end = b + length word; first = f } in
    omega (arith, fewer source b f (word ++ after) us h, length_push us made, (within kind word after k.spelled).some)

pub few : (source : List ℕ) (ts : List Token) → Cuts source ts → length ts ≤ length source
few source ts h = omega (arith, fewer source h.at h.first [] ts h.whole, size_is source h.at h.first [] ts h.whole)

pub all_few : (source : List ℕ) (r : Result (Vec Token Global) LexError) → IsCutOrRefused source r →
    IfOk r (λ ts. length ts.items ≤ length source)
all_few source (Ok v) h = few source v.items h
all_few source (Err e) h = tt
