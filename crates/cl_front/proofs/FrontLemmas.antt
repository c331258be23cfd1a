-- From a source to its unit: what is refused, and that nothing is both.
use Rattle.std.proofs.Common.{◌≡◌, ℕ, ◌+◌, ◌<◌, ◌≤◌, Bool, List, [], ◌∷◌, ◌++◌, length, drop, Option, Some}
use Rattle.std.proofs.Common.{None, inl, inr, refl, sym, ◌∙◌, ap, subst, arith, length-append}
use Rattle.std.specs.Prelude.{Err}
use Rattle.std.proofs.lemmas.Bool.{cases_lt}
use Rattle.std.proofs.lemmas.List.{take-append-drop}
use Rattle.wg_num.specs.declared.types.Place.{Place}
use Rattle.cl_token.specs.declared.token.Token.{Token}
use Rattle.cl_token.specs.declared.token.LexError.{LexError}
use Rattle.cl_token.specs.declared.token.LexError.TheVariants as lexical
use Rattle.cl_token.specs.Answers.{IsRefusedOrMemory as IsUncutOrMemory}
use Rattle.cl_token.specs.Cuts.{CutsTo, start, skip, line_end, token, Cuts, limit, IsRefused as IsUncut}
use Rattle.cl_token.specs.Places.{place_at}
use Rattle.cl_token.proofs.Outcomes.{all_tokens}
use Rattle.cl_token.proofs.Unique.{one_cut}
use Rattle.cl_token.proofs.Words.{within}
use Rattle.cl_prep.specs.declared.prep.Define.{Define}
use Rattle.cl_prep.specs.declared.prep.PrepError.{PrepError}
use Rattle.cl_prep.specs.declared.prep.PrepError.TheVariants as prep
use Rattle.cl_prep.specs.Names.{Names}
use Rattle.cl_prep.specs.Expands.{Expands, Ends, defined_twice, fails, start_state, IsRefused as IsUnexpanded}
use Rattle.cl_prep.specs.Progress.{IsRefusedOrMemory as IsUnexpandedOrMemory}
use Rattle.cl_prep.proofs.Unique.{one_out, ends_or_fails}
use Rattle.cl_tree.specs.Syntax.{Syntax, nesting}
use Rattle.cl_tree.specs.Grammar.{SpellsUnit}
use Rattle.cl_tree.specs.Places.{Continues, NoUnit, NoUnitWithin, SomeUnit, DeeperUnit}
use Rattle.cl_front.specs.declared.condition.Condition.{Condition}
use Rattle.cl_front.specs.declared.condition.Condition.TheVariants as conditions
use Rattle.cl_front.specs.Front.{Reads, HasUnit, place_of_token, condition_of_lexical}
use Rattle.cl_front.specs.Front.{condition_of_expansion, StandsAt, uncut, unexpanded, no_unit, too_deep, on_vectors}
use Rattle.cl_read.proofs.WholeUnit.{same_unit}
use Rattle.cl_short_vec.specs.declared.refuse.VectorRefusal.{VectorRefusal}
use Rattle.cl_short_vec.specs.Faults.{refusal_of}

-- ---- how many tokens a source has, and where an error of them stands

cut_size : (source : List ℕ) (at : ℕ) (first : Bool) (rest : List ℕ) (ts : List Token) →
    CutsTo source at first rest ts → at + length rest ≡ length source
cut_size source at first rest ts start = omega arith
cut_size source at first rest ts (skip {at = b} {first = f} {ts = us} piece after h k) =
    omega (arith, cut_size source b f (piece ++ after) us h, length-append piece after)
cut_size source at first rest ts (line_end {at = b} {first = f} {ts = us} after h) =
    omega (arith, cut_size source b f (10 ∷ after) us h)
cut_size source at first rest ts (token {at = b} {first = f} {ts = us} kind word after h k v) =
    omega (arith, cut_size source b f (word ++ after) us h, length-append word after)

cut_count : (source : List ℕ) (at : ℕ) (first : Bool) (rest : List ℕ) (ts : List Token) →
    CutsTo source at first rest ts → length ts ≤ at
cut_count source at first rest ts start = omega arith
cut_count source at first rest ts (skip {at = b} {first = f} {ts = us} piece after h k) =
    omega (arith, cut_count source b f (piece ++ after) us h)
cut_count source at first rest ts (line_end {at = b} {first = f} {ts = us} after h) =
    omega (arith, cut_count source b f (10 ∷ after) us h)
cut_count source at first rest ts (token {at = b} {first = f} {ts = us} kind word after h k v) =
    let made : Token = record { kind = kind; word = word; start = b; end = b + length word; first = f } in
    omega (
      arith,
      cut_count source b f (word ++ after) us h,
      length-append us (made ∷ []),
      (within kind word after k.spelled).some,
    )

pub few_tokens : (source : List ℕ) (ts : List Token) → Cuts source ts → length ts ≤ length source
few_tokens source ts h =
    omega (arith, cut_count source h.at h.first [] ts h.whole, cut_size source h.at h.first [] ts h.whole)

-- the offset at which a condition stands, where there is one
abbrev at_of : Option (Condition × ℕ) → ℕ
at_of None = 0
at_of (Some found) = found.1

pub uncut_within : (source : List ℕ) (e : LexError) (condition : Condition) (at : ℕ) →
    condition_of_lexical e ≡ Some (condition, at) → IsUncutOrMemory source e → at ≤ length source
uncut_within source (lexical.NoToken n) condition at same h =
    let here : n ≡ at = ap at_of same in omega (arith, here, cut_size source n h.1.first h.1.rest h.1.before h.1.cut)
uncut_within source (lexical.OpenComment n) condition at same h =
    let here : n ≡ at = ap at_of same in omega (arith, here, cut_size source n h.1.first h.1.rest h.1.before h.1.cut)
uncut_within source (lexical.BadNumber n) condition at same h =
    let here : n ≡ at = ap at_of same in omega (arith, here, cut_size source n h.1.first h.1.rest h.1.before h.1.cut)
uncut_within source (lexical.LargeNumber n) condition at same h =
    let here : n ≡ at = ap at_of same in omega (arith, here, cut_size source n h.1.first h.1.rest h.1.before h.1.cut)
uncut_within source lexical.TooLong condition at same h = let here : 0 ≡ at = ap at_of same in omega (arith, here)
uncut_within source lexical.Memory condition at same h = let never : ⊥ = cc in absurd never

-- ---- refusals

uncut_refused : (source : List ℕ) (e : LexError) (found : Condition × ℕ) → IsUncutOrMemory source e →
    condition_of_lexical e ≡ Some found → IsUncut source e
uncut_refused source (lexical.NoToken n) found h is = h
uncut_refused source (lexical.OpenComment n) found h is = h
uncut_refused source (lexical.BadNumber n) found h is = h
uncut_refused source (lexical.LargeNumber n) found h is = h
uncut_refused source lexical.TooLong found h is = h
uncut_refused source lexical.Memory found h is = let never : ⊥ = cc in absurd never

pub uncut_stands : (source : List ℕ) (e : LexError) (condition : Condition) (at : ℕ) (place : Place) →
    IsUncutOrMemory source e → condition_of_lexical e ≡ Some (condition, at) → place ≡ place_at source at
    → (defines : List Define) → StandsAt source defines condition place
uncut_stands source e condition at place h is placed =
    λ defines. uncut e at (uncut_refused source e (condition, at) h is) is placed

unexpanded_refused : (tokens : List Token) (defines : List Define) (e : PrepError) (found : Condition × ℕ) →
    IsUnexpandedOrMemory tokens defines e → condition_of_expansion e ≡ Some found → IsUnexpanded tokens defines e
unexpanded_refused tokens defines (prep.BadDirective n) found h is = h
unexpanded_refused tokens defines (prep.NoName n) found h is = h
unexpanded_refused tokens defines (prep.Redefined n) found h is = h
unexpanded_refused tokens defines (prep.NoOpening n) found h is = h
unexpanded_refused tokens defines (prep.NotClosed n) found h is = h
unexpanded_refused tokens defines (prep.TooMany n) found h is = h
unexpanded_refused tokens defines prep.Memory found h is = let never : ⊥ = cc in absurd never

pub unexpanded_stands : (source : List ℕ) (defines : List Define) (tokens : List Token) (e : PrepError)
    (condition : Condition) (at : ℕ) (place : Place) → length source ≤ limit → Cuts source tokens →
    IsUnexpandedOrMemory tokens defines e → condition_of_expansion e ≡ Some (condition, at) →
    place ≡ place_of_token source tokens at → StandsAt source defines condition place
unexpanded_stands source defines tokens e condition at place short cuts h is placed =
    unexpanded tokens e at short cuts (unexpanded_refused tokens defines e (condition, at) h is) is placed

pub no_unit_stands : (source : List ℕ) (expanded : List Token) (at : ℕ) (place : Place) → NoUnit expanded at →
    ((before : ℕ) → before < at → SomeUnit expanded before) → place ≡ place_of_token source expanded at
    → (defines : List Define) (tokens : List Token) → Reads source defines tokens expanded →
    StandsAt source defines conditions.Syntax place
no_unit_stands source expanded at place none least placed =
    λ defines tokens reads. no_unit tokens expanded at reads none least refl placed

pub too_deep_stands : (source : List ℕ) (expanded : List Token) (at : ℕ) (place : Place) →
    NoUnitWithin 256 expanded at → DeeperUnit 256 expanded at → place ≡ place_of_token source expanded at
    → (defines : List Define) (tokens : List Token) → Reads source defines tokens expanded →
    StandsAt source defines conditions.Nesting place
too_deep_stands source expanded at place none deeper placed =
    λ defines tokens reads. too_deep tokens expanded at reads none deeper refl placed

pub on_vectors_stands : (source : List ℕ) (expanded : List Token) (unit : Syntax) (r : VectorRefusal)
    (place : Place) → SpellsUnit unit expanded → nesting unit ≤ 256 → refusal_of unit ≡ Some r →
    place ≡ place_of_token source expanded r.token → (defines : List Define) (tokens : List Token) →
    Reads source defines tokens expanded → StandsAt source defines (conditions.Vector r.fault) place
on_vectors_stands source expanded unit r place spelled nests told placed =
    λ defines tokens reads. on_vectors tokens expanded unit r reads spelled nests told refl placed

-- ---- nothing is both

uncut_or_cut : (source : List ℕ) (e : LexError) (ts : List Token) → length source ≤ limit → Cuts source ts →
    IsUncut source e → ⊥
uncut_or_cut source (lexical.NoToken n) ts short cuts h = all_tokens source (Err (lexical.NoToken n)) short h ts cuts
uncut_or_cut source (lexical.OpenComment n) ts short cuts h =
    all_tokens source (Err (lexical.OpenComment n)) short h ts cuts
uncut_or_cut source (lexical.BadNumber n) ts short cuts h =
    all_tokens source (Err (lexical.BadNumber n)) short h ts cuts
uncut_or_cut source (lexical.LargeNumber n) ts short cuts h =
    all_tokens source (Err (lexical.LargeNumber n)) short h ts cuts
uncut_or_cut source lexical.TooLong ts short cuts h = omega (arith, short, h)
uncut_or_cut source lexical.Memory ts short cuts h = h

names_are : (o : Option Names) (n m : Names) → o ≡ Some n → o ≡ Some m → n ≡ m
names_are o n m a b = let e : Some n ≡ Some m = sym a ∙ b in cc

unexpanded_or_expanded : (tokens : List Token) (defines : List Define) (e : PrepError) (out : List Token) →
    Expands tokens defines out → IsUnexpanded tokens defines e → ⊥
unexpanded_or_expanded tokens defines e out h (defined_twice none) = let never : Some h.names ≡ None =
    sym h.begun ∙ none in cc
unexpanded_or_expanded tokens defines e out h (fails names error begun wrong) =
    ends_or_fails (start_state tokens names) out error (subst (λ (n : Names). Ends (start_state tokens n) out)
    (names_are _ h.names names h.begun begun) h.ends) wrong

one_expansion : (tokens : List Token) (defines : List Define) (a b : List Token) → Expands tokens defines a →
    Expands tokens defines b → a ≡ b
one_expansion tokens defines a b h k =
    one_out (start_state tokens h.names) a b h.ends (subst (λ (n : Names). Ends (start_state tokens n) b)
    (names_are _ k.names h.names k.begun h.begun) k.ends)

pub one_reading : (source : List ℕ) (defines : List Define) (tokens others a b : List Token) →
    Reads source defines tokens a → Reads source defines others b → a ≡ b
one_reading source defines tokens others a b h k =
    one_expansion tokens defines a b h.expands (subst (λ (ts : List Token). Expands ts defines b)
    (one_cut source others tokens k.cuts h.cuts) k.expands)

-- a list of tokens continues each of its places
continues_itself : (tokens : List Token) (at : ℕ) → Continues tokens at tokens
continues_itself tokens at = elim (cases_lt at (length tokens)) [
  | inl lt ↦
      inl (drop (at + 1) tokens, lt, sym (take-append-drop (at + 1) tokens))
  | inr ge ↦ inr (ge, refl)
]

-- a source that is refused has no unit
pub refused_or_unit : (source : List ℕ) (defines : List Define) (condition : Condition) (place : Place) →
    StandsAt source defines condition place → HasUnit source defines → ⊥
refused_or_unit source defines condition place (uncut e at h is placed) u =
    uncut_or_cut source e u.2.read.0 u.2.read.1.short u.2.read.1.cuts h
refused_or_unit source defines condition place (unexpanded tokens e at short cuts h is placed) u =
    unexpanded_or_expanded tokens defines e u.1 (subst (λ (ts : List Token). Expands ts defines u.1)
    (one_cut source u.2.read.0 tokens u.2.read.1.cuts cuts) u.2.read.1.expands) h
refused_or_unit source defines condition place (no_unit tokens expanded at reads none least is placed) u =
    none expanded u.0 (continues_itself expanded at) (subst (λ (ts : List Token). SpellsUnit u.0 ts)
    (one_reading source defines u.2.read.0 tokens u.1 expanded u.2.read.1 reads) u.2.spelled)
refused_or_unit source defines condition place (too_deep tokens expanded at reads none deeper is placed) u =
    none expanded u.0 (continues_itself expanded at) (subst (λ (ts : List Token). SpellsUnit u.0 ts)
    (one_reading source defines u.2.read.0 tokens u.1 expanded u.2.read.1 reads) u.2.spelled) u.2.nests
refused_or_unit source defines condition place (on_vectors tokens expanded unit r reads spelled nests told is p) u =
    let same : u.0 ≡ unit = same_unit expanded u.0 unit (subst (λ (ts : List Token). SpellsUnit u.0 ts)
    (one_reading source defines u.2.read.0 tokens u.1 expanded u.2.read.1 reads) u.2.spelled) spelled in
    let none : refusal_of unit ≡ None = subst (λ (t : Syntax). refusal_of t ≡ None) same u.2.vectors in
    let never : Some r ≡ None = sym told ∙ none in cc
