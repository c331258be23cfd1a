-- Numbers have values through cutting and expansion.
use Rattle.std.proofs.Common.{◌≡◌, ℕ, zero, suc, List, [], ◌∷◌, ◌++◌, map, drop, take, Bool, true, false, not}
use Rattle.std.proofs.Common.{if◌then◌else◌, Option, None, Some, Ok, Err, refl, ap, sym, subst}
use Rattle.std.specs.Prelude.{codes}
use Rattle.std.specs.List.{prefix_len}
use Rattle.std.specs.Str.{bytes_eq}
use Rattle.std.specs.Fmt.{decimal}
use Rattle.std.proofs.lemmas.Option.{none-some, same_Some}
use Rattle.cl_model.specs.Lists.{Each}
use Rattle.cl_token.specs.declared.token.Token.{Token}
use Rattle.cl_token.specs.declared.token.Kind.{Kind}
use Rattle.cl_token.specs.declared.token.Kind.TheVariants as kinds
use Rattle.cl_token.specs.Spelling.{HasValue}
use Rattle.cl_token.specs.Lexeme.{Lexeme, lexemes_of}
use Rattle.cl_token.specs.Cuts as cutting
use Rattle.cl_token.specs.Cuts.{CutsTo, Cuts}
use Rattle.cl_prep.specs.declared.prep.Define.{Define}
use Rattle.cl_prep.specs.Names as naming
use Rattle.cl_prep.specs.Names.{Names, no_names, with_name, replacement, redefined, defined, same_words, words_of}
use Rattle.cl_prep.specs.Names.{Gives}
use Rattle.cl_prep.specs.Start.{number, lowest, narrow_limits, wide_limits, unsigned_limits, names_in, start_names}
use Rattle.cl_prep.specs.Start.{with_define, with_defines}
use Rattle.wg_num.specs.declared.types.IntType.{IntType}
use Rattle.wg_num.specs.declared.types.IntType.TheVariants as types
use Rattle.wg_num.specs.Wrap as wraps
use Rattle.cl_token.specs.declared.number.Base.{Base}
use Rattle.cl_token.specs.declared.number.Base.TheVariants as bases
use Rattle.cl_token.specs.Number as numbers
use Rattle.cl_token.specs.Number.{IsConstant, IsSuffix, type_of}
use Rattle.cl_prep.specs.Directives.{Scope, Outcome, with_names, define_name, define_in, undef_in, open_in, else_in}
use Rattle.cl_prep.specs.Directives.{endif_in, obeyed, directive_of, has_parameters, name_in, is_active, effect}
use Rattle.cl_prep.specs.Directives.{line_of, is_inside}
use Rattle.cl_prep.specs.declared.directive.Directive.{Directive}
use Rattle.cl_prep.specs.declared.directive.Directive.TheVariants as directives
use Rattle.cl_prep.specs.declared.directive.Conditional.{Conditional}
use Rattle.cl_prep.specs.declared.prep.PrepError.{PrepError}
use Rattle.cl_prep.specs.declared.prep.PrepError.TheVariants as errors
use Rattle.std.proofs.lemmas.Bool.{false≢true}
use Rattle.cl_prep.specs.Expands as expanding
use Rattle.cl_prep.specs.Expands.{placed, State, Step, Leads, Ends, start_state}
use Rattle.cl_check_sound.specs.Law.{NumbersRead, DefinesFit, NumbersKept}
use Rattle.cl_check_sound.proofs.Grown.{each_append}
use Rattle.cl_check_sound.proofs.Decimals.{decimal_read}

-- ---- cutting

cut_read : {source : List ℕ} {at : ℕ} {first : Bool} {rest : List ℕ} {ts : List Token} →
    CutsTo source at first rest ts → NumbersRead ts
cut_read cutting.start = tt
cut_read (cutting.skip piece rest d s) = cut_read d
cut_read (cutting.line_end rest d) = cut_read d
cut_read (cutting.token {ts = ts} kind word rest d n v) =
    each_append (λ (t : Token). HasValue t.kind t.word) ts _ (cut_read d) (v, tt)

pub cuts_read : (source : List ℕ) (ts : List Token) → Cuts source ts → NumbersRead ts
cuts_read source ts c = cut_read c.whole

-- ---- names

abbrev AllRead : List Lexeme → Type 0
AllRead xs = Each (λ (x : Lexeme). HasValue x.kind x.word) xs

abbrev NamesRead : Names → Type 0
NamesRead names = (q : List ℕ) (body : List Lexeme) → names q ≡ Some body → AllRead body

with_read : (names : Names) (name : List ℕ) (o : Option (List Lexeme)) → NamesRead names →
    ((body : List Lexeme) → o ≡ Some body → AllRead body) → NamesRead (with_name names name o)
with_read names name o h k q body e = by (bytes_eq name q) e
  where
    by : (b : Bool) → (if b then o else names q) ≡ Some body → AllRead body
    by true p = k body p
    by false p = h q body p

without_read : (names : Names) (name : List ℕ) → NamesRead names → NamesRead (with_name names name None)
without_read names name h = with_read names name None h (λ body e. absurd (none-some body e))

replaced_read : (names : Names) (k : Kind) (w : List ℕ) (body : List Lexeme) → NamesRead names →
    replacement names (record { kind = k; word = w }) ≡ Some body → AllRead body
replaced_read names kinds.Name w body h e = h w body e
replaced_read names kinds.Number w body h e = absurd (none-some body e)
replaced_read names kinds.Mark w body h e = absurd (none-some body e)
replaced_read names kinds.Hash w body h e = absurd (none-some body e)

gives_read : {names : Names} {xs zs : List Lexeme} {m : ℕ} → Gives names xs zs m → NamesRead names → AllRead xs →
    AllRead zs
gives_read naming.none n h = tt
gives_read (naming.kept x e d) n h = (h.0, gives_read d n h.1)
gives_read {names = names} (naming.replaced {ys = ys} {zs = zs} x body e d c) n h =
    each_append (λ (y : Lexeme). HasValue y.kind y.word) ys zs
    (gives_read d (without_read names x.word n) (replaced_read names x.kind x.word body n e))
    (gives_read c n h.1)

lexemes_read : (ts : List Token) → NumbersRead ts → AllRead (lexemes_of ts)
lexemes_read [] h = tt
lexemes_read (t ∷ ts) h = (h.0, lexemes_read ts h.1)

placed_read : (t : Token) (zs : List Lexeme) → AllRead zs → NumbersRead (map (placed t) zs)
placed_read t [] h = tt
placed_read t (z ∷ zs) h = (h.0, placed_read t zs h.1)

drop_read : (n : ℕ) (ts : List Token) → NumbersRead ts → NumbersRead (drop n ts)
drop_read zero ts h = h
drop_read (suc n) [] h = tt
drop_read (suc n) (t ∷ ts) h = drop_read n ts h.1

take_read : (n : ℕ) (ts : List Token) → NumbersRead ts → NumbersRead (take n ts)
take_read zero ts h = tt
take_read (suc n) [] h = tt
take_read (suc n) (t ∷ ts) h = (h.0, take_read n ts h.1)

pub defined_read : (names new : Names) (name : List ℕ) (body : List Lexeme) → NamesRead names → AllRead body →
    defined names name body ≡ Some new → NamesRead new
defined_read names new name body h b e = by (names name) e
  where
    same : (old : List Lexeme) (s : Bool) → (if s then Some names else None) ≡ Some new → NamesRead new
    same old true p = subst NamesRead (same_Some names new p) h
    same old false p = absurd (none-some new p)

    by : (o : Option (List Lexeme)) → redefined names name body o ≡ Some new → NamesRead new
    by None p = subst NamesRead (same_Some (with_name names name (Some body)) new p)
        (with_read names name (Some body) h (λ c q. subst AllRead (same_Some body c q) b))
    by (Some old) p = same old (same_words (words_of old) (words_of body)) p

-- ---- directives

abbrev ok_names : Names → Outcome → Names
ok_names z (Ok s) = s.names
ok_names z (Err e) = z

-- where a directive is obeyed, the names behind it are read
abbrev Kept : Outcome → Type 0
Kept o = (scope : Scope) → o ≡ Ok scope → NamesRead scope.names

kept_ok : (s : Scope) → NamesRead s.names → Kept (Ok s)
kept_ok s h scope e = subst NamesRead (ap (ok_names s.names) e) h

abbrev fails : Outcome → Bool
fails (Ok s) = false
fails (Err e) = true

kept_err : (e : PrepError) → Kept (Err e)
kept_err e scope p = absurd (false≢true (sym (ap fails p)))

with_names_kept : (at : ℕ) (s : Scope) (o : Option Names) → ((new : Names) → o ≡ Some new → NamesRead new) →
    Kept (with_names at s o)
with_names_kept at s None h = kept_err _
with_names_kept at s (Some names) h = kept_ok _ (h names refl)

define_kept : (at : ℕ) (s : Scope) (n : Token) (body : List Token) → NamesRead s.names → NumbersRead body →
    Kept (define_name at s n body)
define_kept at s n body h b = by (has_parameters n body)
  where
    by : (c : Bool) → Kept (if c then Err (errors.BadDirective at) else with_names at s
        (defined s.names n.word (lexemes_of body)))
    by true = kept_err _
    by false = with_names_kept at s (defined s.names n.word (lexemes_of body))
        (λ new e. defined_read s.names new n.word (lexemes_of body) h (lexemes_read body b) e)

define_in_kept : (at : ℕ) (s : Scope) (args : List Token) (o : Option Token) → NamesRead s.names → NumbersRead args →
    Kept (define_in at s args o)
define_in_kept at s args None h b = kept_err _
define_in_kept at s args (Some n) h b = define_kept at s n (drop 1 args) h (drop_read 1 args b)

undef_kept : (at : ℕ) (s : Scope) (o : Option Token) → NamesRead s.names → Kept (undef_in at s o)
undef_kept at s None h = kept_err _
undef_kept at s (Some n) h = kept_ok _ (without_read s.names n.word h)

open_kept : (wanted : Bool) (at : ℕ) (s : Scope) (o : Option Token) → NamesRead s.names → Kept (open_in wanted at s o)
open_kept wanted at s None h = kept_err _
open_kept wanted at s (Some n) h = kept_ok _ h

else_kept : (at : ℕ) (s : Scope) (cs : List Conditional) → NamesRead s.names → Kept (else_in at s cs)
else_kept at s [] h = kept_err _
else_kept at s (c ∷ cs) h = by c.otherwise
  where
    by : (b : Bool) → Kept (if b then Err (errors.NoOpening at) else Ok (record {
      names = s.names;
      conditionals = record { token = c.token; taken = not c.taken; otherwise = true } ∷ cs;
    }))
    by true = kept_err _
    by false = kept_ok _ h

endif_kept : (at : ℕ) (s : Scope) (cs : List Conditional) → NamesRead s.names → Kept (endif_in at s cs)
endif_kept at s [] h = kept_err _
endif_kept at s (c ∷ cs) h = kept_ok _ h

if_kept : (b : Bool) (o p : Outcome) → Kept o → Kept p → Kept (if b then o else p)
if_kept true o p h k = h
if_kept false o p h k = k

obeyed_kept : (at : ℕ) (s : Scope) (d : Directive) (args : List Token) → NamesRead s.names → NumbersRead args →
    Kept (obeyed at s d args)
unfolding obeyed
obeyed_kept at s directives.Define args h b =
    if_kept (is_active s.conditionals) _ _ (define_in_kept at s args (name_in args) h b) (kept_ok s h)
obeyed_kept at s directives.Undef args h b =
    if_kept (is_active s.conditionals) _ _ (undef_kept at s (name_in args) h) (kept_ok s h)
obeyed_kept at s directives.Ifdef args h b = open_kept true at s (name_in args) h
obeyed_kept at s directives.Ifndef args h b = open_kept false at s (name_in args) h
obeyed_kept at s directives.Else args h b = else_kept at s s.conditionals h
obeyed_kept at s directives.Endif args h b = endif_kept at s s.conditionals h
obeyed_kept at s directives.If args h b = kept_err _
obeyed_kept at s directives.Pragma args h b = kept_ok s h
obeyed_kept at s directives.Other args h b = if_kept (is_active s.conditionals) _ _ (kept_err _) (kept_ok s h)

effect_kept : (at : ℕ) (s : Scope) (line : List Token) → NamesRead s.names → NumbersRead line → Kept (effect at s line)
effect_kept at s [] h b = kept_ok s h
effect_kept at s (w ∷ args) h b = obeyed_kept at s (directive_of w) args h b.1

-- ---- steps

record Going (s : State) : Type 0 where
  rest : NumbersRead s.rest
  names : NamesRead s.scope.names
  out : NumbersRead s.out

step_read : {s t : State} → Step s t → Going s → Going t
step_read {s = s} (expanding.directive h ts scope e b f) g =
    let r = (subst NumbersRead e g.rest).1 in
    record {
      rest = drop_read (prefix_len is_inside ts) ts r;
      names = effect_kept s.at s.scope (line_of ts) g.names (take_read (prefix_len is_inside ts) ts r) scope f;
      out = g.out;
    }
step_read (expanding.skipped t ts e b a) g =
    record { rest = (subst NumbersRead e g.rest).1; names = g.names; out = g.out }
step_read {s = s} (expanding.kept t ts e b a n l) g =
    let r = subst NumbersRead e g.rest in
    record {
      rest = r.1;
      names = g.names;
      out = each_append (λ (t : Token). HasValue t.kind t.word) s.out (t ∷ []) g.out (r.0, tt);
    }
step_read {s = s} (expanding.replaced t ts body zs m e b a n v l k) g = record {
  rest = (subst NumbersRead e g.rest).1;
  names = g.names;
  out = each_append (λ (t : Token). HasValue t.kind t.word) s.out (map (placed t) zs) g.out
      (placed_read t zs (gives_read v (without_read s.scope.names t.word g.names)
      (replaced_read s.scope.names t.kind t.word body g.names n)));
}

leads_read : {s t : State} → Leads s t → Going s → Going t
leads_read expanding.here g = g
leads_read (expanding.onward t u l s) g = step_read s (leads_read l g)

ends_read : (tokens out : List Token) (names : Names) → Ends (start_state tokens names) out → NamesRead names →
    NumbersRead tokens → NumbersRead out
ends_read tokens out names e n h =
    subst NumbersRead e.given (leads_read e.reached (record { rest = h; names = n; out = tt })).out

-- ---- the names from the start

number_read : (base : Base) (u l : Bool) (ds suffix : List ℕ) (value : ℕ) → IsConstant base ds value →
    IsSuffix suffix u l → (t : IntType) → type_of (record { base = base; unsigned = u; long = l }) value ≡ Some t →
    HasValue kinds.Number (ds ++ suffix)
number_read base u l ds suffix value c s t e = (
  t,
  value,
  record {
    form = record { base = base; unsigned = u; long = l };
    spelled = record { constant = ds; suffix = suffix; whole = refl; digits = c; ending = s };
    typed = e;
  },
)

eight : HasValue kinds.Number (codes "8")
unfolding wraps.modulus wraps.half
eight = number_read bases.Decimal false false (codes "8") [] _ (numbers.decimal _ (refl, refl)) numbers.no_suffix
    types.Int refl

one : HasValue kinds.Number (codes "1")
unfolding wraps.modulus wraps.half
one = number_read bases.Decimal false false (codes "1") [] _ (numbers.decimal _ (refl, refl)) numbers.no_suffix
    types.Int refl

byte_high : HasValue kinds.Number (codes "127")
unfolding wraps.modulus wraps.half
byte_high = number_read bases.Decimal false false (codes "127") [] _ (numbers.decimal _ (refl, refl))
    numbers.no_suffix types.Int refl

short_high : HasValue kinds.Number (codes "32767")
unfolding wraps.modulus wraps.half
short_high = number_read bases.Decimal false false (codes "32767") [] _ (numbers.decimal _ (refl, refl))
    numbers.no_suffix types.Int refl

int_high : HasValue kinds.Number (codes "2147483647")
unfolding wraps.modulus wraps.half
int_high = number_read bases.Decimal false false (codes "2147483647") [] _ (numbers.decimal _ (refl, refl))
    numbers.no_suffix types.Int refl

long_high : HasValue kinds.Number (codes "0x7fffffffffffffffL")
unfolding wraps.modulus wraps.half
long_high = number_read bases.Hexadecimal false true (codes "0x7fffffffffffffff") (codes "L") _
    (numbers.hexadecimal _ _ refl (refl, refl)) (numbers.only_l _ refl) types.Long refl

uchar_high : HasValue kinds.Number (codes "255")
unfolding wraps.modulus wraps.half
uchar_high = number_read bases.Decimal false false (codes "255") [] _ (numbers.decimal _ (refl, refl))
    numbers.no_suffix types.Int refl

ushort_high : HasValue kinds.Number (codes "65535")
unfolding wraps.modulus wraps.half
ushort_high = number_read bases.Decimal false false (codes "65535") [] _ (numbers.decimal _ (refl, refl))
    numbers.no_suffix types.Int refl

uint_high : HasValue kinds.Number (codes "0xffffffff")
unfolding wraps.modulus wraps.half
uint_high = number_read bases.Hexadecimal false false (codes "0xffffffff") [] _ (numbers.hexadecimal _ _ refl (
  refl,
  refl,
)) numbers.no_suffix types.Uint refl

ulong_high : HasValue kinds.Number (codes "0xffffffffffffffffUL")
unfolding wraps.modulus wraps.half
ulong_high = number_read bases.Hexadecimal true true (codes "0xffffffffffffffff") (codes "UL") _
    (numbers.hexadecimal _ _ refl (refl, refl)) (numbers.u_then_l _ _ refl refl) types.Ulong refl

abbrev EntriesRead : List (List ℕ × List Lexeme) → Type 0
EntriesRead es = Each (λ (e : List ℕ × List Lexeme). AllRead e.1) es

entries_read : (names : Names) (es : List (List ℕ × List Lexeme)) → NamesRead names → EntriesRead es →
    NamesRead (names_in names es)
entries_read names [] h k = h
entries_read names (e ∷ es) h k =
    entries_read (with_name names e.0 (Some e.1)) es
    (with_read names e.0 (Some e.1) h (λ body p. subst AllRead (same_Some e.1 body p) k.0)) k.1

alone : (w : List ℕ) → HasValue kinds.Number w → AllRead (number w)
alone w h = (h, tt)

lowest_read : (w : List ℕ) → HasValue kinds.Number w → AllRead (lowest w)
lowest_read w h = (tt, (tt, (h, (tt, (one, (tt, tt))))))

start_read : NamesRead start_names
unfolding start_names
start_read = entries_read _ unsigned_limits
    (entries_read _ wide_limits
    (entries_read no_names narrow_limits (λ q body e. absurd (none-some body e)) (
      alone _ eight,
      (
        alone _ byte_high,
        (
          lowest_read _ byte_high,
          (
            alone _ byte_high,
            (lowest_read _ byte_high, (alone _ short_high, (lowest_read _ short_high, tt))),
          ),
        ),
      ),
    ))
    (alone _ int_high, (lowest_read _ int_high, (alone _ long_high, (lowest_read _ long_high, tt)))))
    (alone _ uchar_high, (alone _ ushort_high, (alone _ uint_high, (alone _ ulong_high, tt))))

defines_read : (o : Option Names) (defines : List Define) (names : Names) → ((n : Names) → o ≡ Some n → NamesRead n) →
    DefinesFit defines → with_defines o defines ≡ Some names → NamesRead names
defines_read o [] names h d e = h names e
defines_read o (x ∷ xs) names h d e = defines_read (with_define x o) xs names (by o h) d.1 e
  where
    by : (p : Option Names) → ((n : Names) → p ≡ Some n → NamesRead n) → (n : Names) → with_define x p ≡ Some n →
        NamesRead n
    by None k n q = absurd (none-some n q)
    by (Some m) k n q = defined_read m n x.name (number (decimal x.value)) (k m refl) (decimal_read x.value d.0, tt) q

pub expanded_read : NumbersKept
expanded_read source tokens out defines c d e = ends_read tokens out e.names e.ends
    (defines_read (Some start_names) defines e.names (λ n p. subst NamesRead (same_Some start_names n p) start_read) d
    e.begun)
    (cuts_read source tokens c)
