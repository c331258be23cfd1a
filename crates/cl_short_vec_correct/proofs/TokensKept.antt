-- What is said of the words of tokens holds of those to which a source expands.
use Rattle.std.proofs.Common.{◌≡◌, ℕ, zero, suc, ◌/◌, ◌%◌, ◌+◌, nat_eq, List, [], ◌∷◌, map, drop, take, Bool}
use Rattle.std.proofs.Common.{true, false, not, if◌then◌else◌, Option, None, Some, Ok, Err, refl, ap, sym, ◌∙◌, subst}
use Rattle.std.proofs.Common.{arith}
use Rattle.std.proofs.lemmas.Bool.{false≢true}
use Rattle.std.proofs.lemmas.Bool.Decides.{nat_tests}
use Rattle.std.proofs.lemmas.Option.{none-some, same_Some}
use Rattle.std.specs.Prelude.{decimal, nat_lt}
use Rattle.std.specs.List.{prefix_len}
use Rattle.std.specs.Str.{bytes_eq}
use Rattle.std.specs.Fmt.{digits, digits_onto, digit_glyph}
use Rattle.cl_model.specs.Lists.{Each}
use Rattle.cl_token.specs.declared.token.Token.{Token}
use Rattle.cl_token.specs.declared.token.Kind.{Kind}
use Rattle.cl_token.specs.declared.token.Kind.TheVariants as kinds
use Rattle.cl_token.specs.Lexeme.{Lexeme, lexemes_of}
use Rattle.cl_token.specs.Cuts as cutting
use Rattle.cl_token.specs.Cuts.{CutsTo, Cuts}
use Rattle.cl_prep.specs.declared.prep.Define.{Define}
use Rattle.cl_prep.specs.Names as naming
use Rattle.cl_prep.specs.Names.{Names, no_names, with_name, replacement, redefined, defined, same_words, words_of}
use Rattle.cl_prep.specs.Names.{Gives}
use Rattle.cl_prep.specs.Start.{number, narrow_limits, wide_limits, unsigned_limits, names_in, start_names}
use Rattle.cl_prep.specs.Start.{with_define, with_defines}
use Rattle.cl_prep.specs.Directives.{Scope, Outcome, with_names, define_name, define_in, undef_in, open_in, else_in}
use Rattle.cl_prep.specs.Directives.{endif_in, obeyed, directive_of, has_parameters, name_in, is_active, effect}
use Rattle.cl_prep.specs.Directives.{line_of, is_inside}
use Rattle.cl_prep.specs.declared.directive.Directive.{Directive}
use Rattle.cl_prep.specs.declared.directive.Directive.TheVariants as directives
use Rattle.cl_prep.specs.declared.directive.Conditional.{Conditional}
use Rattle.cl_prep.specs.declared.prep.PrepError.{PrepError}
use Rattle.cl_prep.specs.declared.prep.PrepError.TheVariants as errors
use Rattle.cl_prep.specs.Expands as expanding
use Rattle.cl_prep.specs.Expands.{Expands, placed, State, Step, Leads, Ends, start_state}
use Rattle.cl_meaning.specs.OwnWords as words
use Rattle.cl_check_sound.proofs.Grown.{each_append}
use Rattle.cl_short_vec_correct.specs.Sources.{is_sourced}
use Rattle.cl_short_vec.proofs.OwnNames.{decimal_blank, alone_name}
use Rattle.cl_short_vec_correct.proofs.TokenWords.{IsWord, spelled_word, TokensPlain}

-- ---- cutting

cut_plain : {source : List ℕ} {at : ℕ} {first : Bool} {rest : List ℕ} {ts : List Token} →
    CutsTo source at first rest ts → TokensPlain ts
cut_plain cutting.start = tt
cut_plain (cutting.skip piece rest d s) = cut_plain d
cut_plain (cutting.line_end rest d) = cut_plain d
cut_plain (cutting.token {ts = ts} kind word rest d n v) =
    each_append (λ (t : Token). IsWord t.kind t.word) ts _ (cut_plain d) (spelled_word kind word n.spelled, tt)

cuts_plain : (source : List ℕ) (ts : List Token) → Cuts source ts → TokensPlain ts
cuts_plain source ts c = cut_plain c.whole

-- ---- names

abbrev AllPlain : List Lexeme → Type 0
AllPlain xs = Each (λ (x : Lexeme). IsWord x.kind x.word) xs

abbrev NamesPlain : Names → Type 0
NamesPlain names = (q : List ℕ) (body : List Lexeme) → names q ≡ Some body → AllPlain body

with_plain : (names : Names) (name : List ℕ) (o : Option (List Lexeme)) → NamesPlain names →
    ((body : List Lexeme) → o ≡ Some body → AllPlain body) → NamesPlain (with_name names name o)
with_plain names name o h k q body e = by (bytes_eq name q) e
  where
    by : (b : Bool) → (if b then o else names q) ≡ Some body → AllPlain body
    by true p = k body p
    by false p = h q body p

without_plain : (names : Names) (name : List ℕ) → NamesPlain names → NamesPlain (with_name names name None)
without_plain names name h = with_plain names name None h (λ body e. absurd (none-some body e))

replaced_plain : (names : Names) (k : Kind) (w : List ℕ) (body : List Lexeme) → NamesPlain names →
    replacement names (record { kind = k; word = w }) ≡ Some body → AllPlain body
replaced_plain names kinds.Name w body h e = h w body e
replaced_plain names kinds.Number w body h e = absurd (none-some body e)
replaced_plain names kinds.Mark w body h e = absurd (none-some body e)
replaced_plain names kinds.Hash w body h e = absurd (none-some body e)

gives_plain : {names : Names} {xs zs : List Lexeme} {m : ℕ} → Gives names xs zs m → NamesPlain names → AllPlain xs →
    AllPlain zs
gives_plain naming.none n h = tt
gives_plain (naming.kept x e d) n h = (h.0, gives_plain d n h.1)
gives_plain {names = names} (naming.replaced {ys = ys} {zs = zs} x body e d c) n h =
    each_append (λ (y : Lexeme). IsWord y.kind y.word) ys zs
    (gives_plain d (without_plain names x.word n) (replaced_plain names x.kind x.word body n e))
    (gives_plain c n h.1)

lexemes_plain : (ts : List Token) → TokensPlain ts → AllPlain (lexemes_of ts)
lexemes_plain [] h = tt
lexemes_plain (t ∷ ts) h = (h.0, lexemes_plain ts h.1)

placed_plain : (t : Token) (zs : List Lexeme) → AllPlain zs → TokensPlain (map (placed t) zs)
placed_plain t [] h = tt
placed_plain t (z ∷ zs) h = (h.0, placed_plain t zs h.1)

drop_plain : (n : ℕ) (ts : List Token) → TokensPlain ts → TokensPlain (drop n ts)
drop_plain zero ts h = h
drop_plain (suc n) [] h = tt
drop_plain (suc n) (t ∷ ts) h = drop_plain n ts h.1

take_plain : (n : ℕ) (ts : List Token) → TokensPlain ts → TokensPlain (take n ts)
take_plain zero ts h = tt
take_plain (suc n) [] h = tt
take_plain (suc n) (t ∷ ts) h = (h.0, take_plain n ts h.1)

defined_plain : (names new : Names) (name : List ℕ) (body : List Lexeme) → NamesPlain names → AllPlain body →
    defined names name body ≡ Some new → NamesPlain new
defined_plain names new name body h b e = by (names name) e
  where
    same : (old : List Lexeme) (s : Bool) → (if s then Some names else None) ≡ Some new → NamesPlain new
    same old true p = subst NamesPlain (same_Some names new p) h
    same old false p = absurd (none-some new p)

    by : (o : Option (List Lexeme)) → redefined names name body o ≡ Some new → NamesPlain new
    by None p = subst NamesPlain (same_Some (with_name names name (Some body)) new p)
        (with_plain names name (Some body) h (λ c q. subst AllPlain (same_Some body c q) b))
    by (Some old) p = same old (same_words (words_of old) (words_of body)) p

-- ---- directives

abbrev ok_names : Names → Outcome → Names
ok_names z (Ok s) = s.names
ok_names z (Err e) = z

-- where a directive is obeyed, what the names behind it stand for is plain
abbrev Kept : Outcome → Type 0
Kept o = (scope : Scope) → o ≡ Ok scope → NamesPlain scope.names

kept_ok : (s : Scope) → NamesPlain s.names → Kept (Ok s)
kept_ok s h scope e = subst NamesPlain (ap (ok_names s.names) e) h

abbrev fails : Outcome → Bool
fails (Ok s) = false
fails (Err e) = true

kept_err : (e : PrepError) → Kept (Err e)
kept_err e scope p = absurd (false≢true (sym (ap fails p)))

with_names_kept : (at : ℕ) (s : Scope) (o : Option Names) → ((new : Names) → o ≡ Some new → NamesPlain new) →
    Kept (with_names at s o)
with_names_kept at s None h = kept_err _
with_names_kept at s (Some names) h = kept_ok _ (h names refl)

define_kept : (at : ℕ) (s : Scope) (n : Token) (body : List Token) → NamesPlain s.names → TokensPlain body →
    Kept (define_name at s n body)
define_kept at s n body h b = by (has_parameters n body)
  where
    by : (c : Bool) → Kept (if c then Err (errors.BadDirective at) else with_names at s
        (defined s.names n.word (lexemes_of body)))
    by true = kept_err _
    by false = with_names_kept at s (defined s.names n.word (lexemes_of body))
        (λ new e. defined_plain s.names new n.word (lexemes_of body) h (lexemes_plain body b) e)

define_in_kept : (at : ℕ) (s : Scope) (args : List Token) (o : Option Token) → NamesPlain s.names → TokensPlain args →
    Kept (define_in at s args o)
define_in_kept at s args None h b = kept_err _
define_in_kept at s args (Some n) h b = define_kept at s n (drop 1 args) h (drop_plain 1 args b)

undef_kept : (at : ℕ) (s : Scope) (o : Option Token) → NamesPlain s.names → Kept (undef_in at s o)
undef_kept at s None h = kept_err _
undef_kept at s (Some n) h = kept_ok _ (without_plain s.names n.word h)

open_kept : (wanted : Bool) (at : ℕ) (s : Scope) (o : Option Token) → NamesPlain s.names → Kept (open_in wanted at s o)
open_kept wanted at s None h = kept_err _
open_kept wanted at s (Some n) h = kept_ok _ h

else_kept : (at : ℕ) (s : Scope) (cs : List Conditional) → NamesPlain s.names → Kept (else_in at s cs)
else_kept at s [] h = kept_err _
else_kept at s (c ∷ cs) h = by c.otherwise
  where
    by : (b : Bool) → Kept (if b then Err (errors.NoOpening at) else Ok (record {
      names = s.names;
      conditionals = record { token = c.token; taken = not c.taken; otherwise = true } ∷ cs;
    }))
    by true = kept_err _
    by false = kept_ok _ h

endif_kept : (at : ℕ) (s : Scope) (cs : List Conditional) → NamesPlain s.names → Kept (endif_in at s cs)
endif_kept at s [] h = kept_err _
endif_kept at s (c ∷ cs) h = kept_ok _ h

if_kept : (b : Bool) (o p : Outcome) → Kept o → Kept p → Kept (if b then o else p)
if_kept true o p h k = h
if_kept false o p h k = k

obeyed_kept : (at : ℕ) (s : Scope) (d : Directive) (args : List Token) → NamesPlain s.names → TokensPlain args →
    Kept (obeyed at s d args)
unfolding obeyed
obeyed_kept at s directives.Define args h b =
    if_kept (is_active s.conditionals) _ _ (define_in_kept at s args (name_in args) h b) (kept_ok s h)
obeyed_kept at s directives.Undef args h b =
    if_kept (is_active s.conditionals) _ _ (undef_kept at s (name_in args) h) (kept_ok s h)
obeyed_kept at s directives.Ifdef args h b = open_kept true at s (name_in args) h
obeyed_kept at s directives.Ifndef args h b = open_kept false at s (name_in args) h
obeyed_kept at s directives.Else args h b = else_kept at s s.conditionals h
obeyed_kept at s directives.Endif args h b = endif_kept at s s.conditionals h
obeyed_kept at s directives.If args h b = kept_err _
obeyed_kept at s directives.Pragma args h b = kept_ok s h
obeyed_kept at s directives.Other args h b = if_kept (is_active s.conditionals) _ _ (kept_err _) (kept_ok s h)

effect_kept : (at : ℕ) (s : Scope) (line : List Token) → NamesPlain s.names → TokensPlain line → Kept (effect at s line)
effect_kept at s [] h b = kept_ok s h
effect_kept at s (w ∷ args) h b = obeyed_kept at s (directive_of w) args h b.1

-- ---- steps

record Going (s : State) : Type 0 where
  rest : TokensPlain s.rest
  names : NamesPlain s.scope.names
  out : TokensPlain s.out

step_plain : {s t : State} → Step s t → Going s → Going t
step_plain {s = s} (expanding.directive h ts scope e b f) g =
    let r = (subst TokensPlain e g.rest).1 in
    record {
      rest = drop_plain (prefix_len is_inside ts) ts r;
      names = effect_kept s.at s.scope (line_of ts) g.names (take_plain (prefix_len is_inside ts) ts r) scope f;
      out = g.out;
    }
step_plain (expanding.skipped t ts e b a) g =
    record { rest = (subst TokensPlain e g.rest).1; names = g.names; out = g.out }
step_plain {s = s} (expanding.kept t ts e b a n l) g =
    let r = subst TokensPlain e g.rest in
    record {
      rest = r.1;
      names = g.names;
      out = each_append (λ (t : Token). IsWord t.kind t.word) s.out (t ∷ []) g.out (r.0, tt);
    }
step_plain {s = s} (expanding.replaced t ts body zs m e b a n v l k) g = record {
  rest = (subst TokensPlain e g.rest).1;
  names = g.names;
  out = each_append (λ (t : Token). IsWord t.kind t.word) s.out (map (placed t) zs) g.out
      (placed_plain t zs (gives_plain v (without_plain s.scope.names t.word g.names)
      (replaced_plain s.scope.names t.kind t.word body g.names n)));
}

leads_plain : {s t : State} → Leads s t → Going s → Going t
leads_plain expanding.here g = g
leads_plain (expanding.onward t u l s) g = step_plain s (leads_plain l g)

ends_plain : (tokens out : List Token) (names : Names) → Ends (start_state tokens names) out → NamesPlain names →
    TokensPlain tokens → TokensPlain out
ends_plain tokens out names e n h =
    subst TokensPlain e.given (leads_plain e.reached (record { rest = h; names = n; out = tt })).out

-- ---- decimals

glyph_sourced : (d : ℕ) → not (nat_eq (digit_glyph false d) 46) ≡ true
glyph_sourced d = by (nat_lt d 10)
  where
    by : (b : Bool) → not (nat_eq (if b then 48 + d else 87 + d) 46) ≡ true
    by true = grind (arith, nat_tests)
    by false = grind (arith, nat_tests)

digits_sourced : (k n : ℕ) (acc : List ℕ) → is_sourced (digits_onto (suc k) 10 false n acc) ≡ true
digits_sourced zero n acc = by (nat_eq (n / 10) 0)
  where
    by : (b : Bool) → is_sourced (if b then digit_glyph false (n % 10) ∷ acc else
        digits_onto 0 10 false (n / 10) (digit_glyph false (n % 10) ∷ acc)) ≡ true
    by true = glyph_sourced (n % 10)
    by false = glyph_sourced (n % 10)
digits_sourced (suc k) n acc = by (nat_eq (n / 10) 0)
    (digits_sourced k (n / 10) (digit_glyph false (n % 10) ∷ acc))
  where
    by : (b : Bool) → is_sourced (digits_onto (suc k) 10 false (n / 10) (digit_glyph false (n % 10) ∷ acc)) ≡ true →
        is_sourced (if b then digit_glyph false (n % 10) ∷ acc else
        digits_onto (suc k) 10 false (n / 10) (digit_glyph false (n % 10) ∷ acc)) ≡ true
    by true g = glyph_sourced (n % 10)
    by false g = g

decimal_sourced : (n : ℕ) → is_sourced (words.name_in (decimal n)) ≡ true
unfolding digits
decimal_sourced n = ap is_sourced (alone_name (decimal n) (decimal_blank n)) ∙ digits_sourced 63 n []

-- ---- the names from the start

abbrev EntriesPlain : List (List ℕ × List Lexeme) → Type 0
EntriesPlain es = Each (λ (e : List ℕ × List Lexeme). AllPlain e.1) es

entries_plain : (names : Names) (es : List (List ℕ × List Lexeme)) → NamesPlain names → EntriesPlain es →
    NamesPlain (names_in names es)
entries_plain names [] h k = h
entries_plain names (e ∷ es) h k =
    entries_plain (with_name names e.0 (Some e.1)) es
    (with_plain names e.0 (Some e.1) h (λ body p. subst AllPlain (same_Some e.1 body p) k.0)) k.1

start_plain : NamesPlain start_names
unfolding start_names
start_plain =
    entries_plain _ unsigned_limits
    (entries_plain _ wide_limits
    (entries_plain no_names narrow_limits (λ q body e. absurd (none-some body e)) (
      (refl, tt),
      (
        (refl, tt),
        (
          (tt, (tt, (refl, (tt, (refl, (tt, tt)))))),
          (
            (refl, tt),
            (
              (tt, (tt, (refl, (tt, (refl, (tt, tt)))))),
              ((refl, tt), ((tt, (tt, (refl, (tt, (refl, (tt, tt)))))), tt)),
            ),
          ),
        ),
      ),
    )) (
      (refl, tt),
      (
        (tt, (tt, (refl, (tt, (refl, (tt, tt)))))),
        ((refl, tt), ((tt, (tt, (refl, (tt, (refl, (tt, tt)))))), tt)),
      ),
    ))
    ((refl, tt), ((refl, tt), ((refl, tt), ((refl, tt), tt))))

defines_plain : (o : Option Names) (defines : List Define) (names : Names) →
    ((n : Names) → o ≡ Some n → NamesPlain n) → with_defines o defines ≡ Some names → NamesPlain names
defines_plain o [] names h e = h names e
defines_plain o (x ∷ xs) names h e = defines_plain (with_define x o) xs names (by o h) e
  where
    by : (p : Option Names) → ((n : Names) → p ≡ Some n → NamesPlain n) → (n : Names) → with_define x p ≡ Some n →
        NamesPlain n
    by None k n q = absurd (none-some n q)
    by (Some m) k n q =
        defined_plain m n x.name (number (decimal x.value)) (k m refl) (decimal_sourced x.value, tt) q

-- the tokens to which a source expands
pub expanded_plain : (source : List ℕ) (tokens out : List Token) (defines : List Define) → Cuts source tokens →
    Expands tokens defines out → TokensPlain out
expanded_plain source tokens out defines c e = ends_plain tokens out e.names e.ends
    (defines_plain (Some start_names) defines e.names
    (λ n p. subst NamesPlain (same_Some start_names n p) start_plain) e.begun) (cuts_plain source tokens c)
