-- Expansion has one outcome.
use Rattle.std.proofs.Common.{ℕ, zero, suc, List, [], ◌∷◌, ◌++◌, length, map, true, false, ◌⊎◌, inl, inr, ◌≡◌, ◌+◌}
use Rattle.std.proofs.Common.{◌<◌, ◌≤◌, refl, sym, ap, subst, ◌∙◌, arith, None, Some, Ok, Err}
use Rattle.std.proofs.lemmas.Bool.Decides.{leb_tells}
use Rattle.cl_token.specs.declared.token.Token.{Token}
use Rattle.cl_token.specs.Lexeme.{Lexeme, lexeme_of}
use Rattle.cl_prep.specs.declared.prep.PrepError.{PrepError}
use Rattle.cl_prep.specs.declared.prep.PrepError.TheVariants as errors
use Rattle.cl_prep.specs.declared.directive.Conditional.{Conditional}
use Rattle.cl_prep.specs.Names.{Names, with_name, replacement, Gives}
use Rattle.cl_prep.specs.Directives.{Scope, begins_directive, line_of, behind_line, effect}
use Rattle.cl_prep.specs.Expands.{State, Step, directive, skipped, kept, replaced, Refuses, directive_fails}
use Rattle.cl_prep.specs.Expands.{not_closed, one_too_many, too_many, Leads, here, onward, Ends, Fails, placed}
use Rattle.cl_prep.specs.Expands.{token_limit, replacement_limit}
use Rattle.cl_prep.proofs.Reading.{Same, one_gift}

-- ---- one step

abbrev after_line : State → List Token → Scope → State
after_line s ts scope = record {
  at = s.at + 1 + length (line_of ts);
  rest = behind_line ts;
  scope = scope;
  out = s.out;
  replaced = s.replaced;
}

abbrev after_token : State → List Token → List Token → ℕ → State
after_token s ts out n = record { at = s.at + 1; rest = ts; scope = s.scope; out = out; replaced = n }

same_body : (names : Names) (t u : Token) (b c : List Lexeme) → t ≡ u → replacement names (lexeme_of t) ≡ Some b →
    replacement names (lexeme_of u) ≡ Some c → b ≡ c
same_body names t u b c e h k = let f : replacement names (lexeme_of t) ≡ replacement names (lexeme_of u) =
    ap (λ (x : Token). replacement names (lexeme_of x)) e in cc

-- two replacements of one token give the same
same_gift : (names : Names) (t u : Token) (b c zs us : List Lexeme) (m k : ℕ) → t ≡ u →
    replacement names (lexeme_of t) ≡ Some b → replacement names (lexeme_of u) ≡ Some c
    → Gives (with_name names t.word None) b zs m → Gives (with_name names u.word None) c us k → Same zs us m k
same_gift names t u b c zs us m k e h g x y =
    let f : b ≡ c = same_body names t u b c e h g in
    let w : u.word ≡ t.word = ap (λ (v : Token). v.word) (sym e) in
    one_gift (with_name names t.word None) b zs us m k x
    (subst (λ (n : List ℕ). Gives (with_name names n None) b us k) w
    (subst (λ (l : List Lexeme). Gives (with_name names u.word None) l us k) (sym f) y))

head_is : (t u : Token) (ts us rest : List Token) → rest ≡ t ∷ ts → rest ≡ u ∷ us → t ≡ u
head_is t u ts us rest e f = cc

tail_is : (t u : Token) (ts us rest : List Token) → rest ≡ t ∷ ts → rest ≡ u ∷ us → ts ≡ us
tail_is t u ts us rest e f = cc

no_both : (t u : Token) → t ≡ u → begins_directive t ≡ true → begins_directive u ≡ false → ⊥
no_both t u e h k = let f : begins_directive t ≡ begins_directive u = ap begins_directive e in cc

none_some : (names : Names) (t u : Token) (b : List Lexeme) → t ≡ u → replacement names (lexeme_of t) ≡ None →
    replacement names (lexeme_of u) ≡ Some b → ⊥
none_some names t u b e h k = let f : replacement names (lexeme_of t) ≡ replacement names (lexeme_of u) =
    ap (λ (x : Token). replacement names (lexeme_of x)) e in cc

same_effect : (s : State) (ts us : List Token) (a b : Scope) → ts ≡ us → effect s.at s.scope (line_of ts) ≡ Ok a →
    effect s.at s.scope (line_of us) ≡ Ok b → a ≡ b
same_effect s ts us a b e f g = let h : effect s.at s.scope (line_of ts) ≡ effect s.at s.scope (line_of us) =
    ap (λ (x : List Token). effect s.at s.scope (line_of x)) e in cc

no_effect : (s : State) (ts us : List Token) (a : Scope) (b : PrepError) → ts ≡ us →
    effect s.at s.scope (line_of ts) ≡ Ok a → effect s.at s.scope (line_of us) ≡ Err b → ⊥
no_effect s ts us a b e f g = let h : effect s.at s.scope (line_of ts) ≡ effect s.at s.scope (line_of us) =
    ap (λ (x : List Token). effect s.at s.scope (line_of x)) e in cc

one_error : (s : State) (ts us : List Token) (a b : PrepError) → ts ≡ us → effect s.at s.scope (line_of ts) ≡ Err a →
    effect s.at s.scope (line_of us) ≡ Err b → a ≡ b
one_error s ts us a b e f g = let h : effect s.at s.scope (line_of ts) ≡ effect s.at s.scope (line_of us) =
    ap (λ (x : List Token). effect s.at s.scope (line_of x)) e in cc

one_step : (s t u : State) → Step s t → Step s u → t ≡ u
one_step s t u (directive h ts a e b f) (directive k us c e2 b2 f2) =
    let l = tail_is h k ts us s.rest e e2 in
    ap (λ (x : Scope). after_line s ts x) (same_effect s ts us a c l f f2) ∙ ap (λ (x : List Token). after_line s x c) l
one_step s t u (directive h ts a e b f) (skipped k us e2 b2 i) =
    absurd (no_both h k (head_is h k ts us s.rest e e2) b b2)
one_step s t u (directive h ts a e b f) (kept k us e2 b2 i r l) =
    absurd (no_both h k (head_is h k ts us s.rest e e2) b b2)
one_step s t u (directive h ts a e b f) (replaced k us body zs m e2 b2 i r g l n) =
    absurd (no_both h k (head_is h k ts us s.rest e e2) b b2)
one_step s t u (skipped h ts e b i) (directive k us c e2 b2 f2) =
    absurd (no_both k h (head_is k h us ts s.rest e2 e) b2 b)
one_step s t u (skipped h ts e b i) (skipped k us e2 b2 j) =
    ap (λ (x : List Token). after_token s x s.out s.replaced) (tail_is h k ts us s.rest e e2)
one_step s t u (skipped h ts e b i) (kept k us e2 b2 j r l) = absurd (cc)
one_step s t u (skipped h ts e b i) (replaced k us body zs m e2 b2 j r g l n) = absurd (cc)
one_step s t u (kept h ts e b i r l) (directive k us c e2 b2 f2) =
    absurd (no_both k h (head_is k h us ts s.rest e2 e) b2 b)
one_step s t u (kept h ts e b i r l) (skipped k us e2 b2 j) = absurd (cc)
one_step s t u (kept h ts e b i r l) (kept k us e2 b2 j r2 l2) =
    ap (λ (x : List Token). after_token s x (s.out ++ h ∷ []) s.replaced) (tail_is h k ts us s.rest e e2) ∙
    ap (λ (x : Token). after_token s us (s.out ++ x ∷ []) s.replaced) (head_is h k ts us s.rest e e2)
one_step s t u (kept h ts e b i r l) (replaced k us body zs m e2 b2 j r2 g l2 n) =
    absurd (none_some s.scope.names h k body (head_is h k ts us s.rest e e2) r r2)
one_step s t u (replaced h ts body zs m e b i r g l n) (directive k us c e2 b2 f2) =
    absurd (no_both k h (head_is k h us ts s.rest e2 e) b2 b)
one_step s t u (replaced h ts body zs m e b i r g l n) (skipped k us e2 b2 j) = absurd (cc)
one_step s t u (replaced h ts body zs m e b i r g l n) (kept k us e2 b2 j r2 l2) =
    absurd (none_some s.scope.names k h body (head_is k h us ts s.rest e2 e) r2 r)
one_step s t u (replaced h ts body zs m e b i r g l n) (replaced k us other ys p e2 b2 j r2 g2 l2 n2) =
    let head = head_is h k ts us s.rest e e2 in
    let same = same_gift s.scope.names h k body other zs ys m p head r r2 g g2 in
    ap (λ (x : List Token). after_token s x (s.out ++ map (placed h) zs) (s.replaced + suc m))
    (tail_is h k ts us s.rest e e2)
    ∙ ap (λ (x : Token). after_token s us (s.out ++ map (placed x) zs) (s.replaced + suc m)) head
    ∙ ap (λ (x : List Lexeme). after_token s us (s.out ++ map (placed k) x) (s.replaced + suc m)) same.tokens
    ∙ ap (λ (x : ℕ). after_token s us (s.out ++ map (placed k) ys) (s.replaced + suc x)) same.count

-- ---- a step or a refusal

over_not : (zs us : List Lexeme) (m k n p : ℕ) → Same zs us m k → n + length zs ≤ token_limit →
    p + suc m ≤ replacement_limit → (token_limit < n + length us) ⊎ (replacement_limit < p + suc k) → ⊥
over_not zs us m k n p s a b (inl h) = let e : length zs ≡ length us = ap length s.tokens in omega arith
over_not zs us m k n p s a b (inr h) = omega (arith, s.count)

no_step : (s t : State) (e : PrepError) → Step s t → Refuses s e → ⊥
no_step s t e (directive h ts a r b f) (directive_fails k us x r2 b2 f2) =
    no_effect s ts us a x (tail_is h k ts us s.rest r r2) f f2
no_step s t e (directive h ts a r b f) (not_closed c cs r2 o) = cc
no_step s t e (directive h ts a r b f) (one_too_many k us r2 b2 i n l) =
    no_both h k (head_is h k ts us s.rest r r2) b b2
no_step s t e (directive h ts a r b f) (too_many k us body zs m r2 b2 i n g l) =
    no_both h k (head_is h k ts us s.rest r r2) b b2
no_step s t e (skipped h ts r b i) (directive_fails k us x r2 b2 f2) = no_both k h (head_is k h us ts s.rest r2 r) b2 b
no_step s t e (skipped h ts r b i) (not_closed c cs r2 o) = cc
no_step s t e (skipped h ts r b i) (one_too_many k us r2 b2 j n l) = cc
no_step s t e (skipped h ts r b i) (too_many k us body zs m r2 b2 j n g l) = cc
no_step s t e (kept h ts r b i n l) (directive_fails k us x r2 b2 f2) = no_both k h (head_is k h us ts s.rest r2 r) b2 b
no_step s t e (kept h ts r b i n l) (not_closed c cs r2 o) = cc
no_step s t e (kept h ts r b i n l) (one_too_many k us r2 b2 j n2 l2) = omega arith
no_step s t e (kept h ts r b i n l) (too_many k us body zs m r2 b2 j n2 g l2) =
    none_some s.scope.names h k body (head_is h k ts us s.rest r r2) n n2
no_step s t e (replaced h ts body zs m r b i n g l p) (directive_fails k us x r2 b2 f2) =
    no_both k h (head_is k h us ts s.rest r2 r) b2 b
no_step s t e (replaced h ts body zs m r b i n g l p) (not_closed c cs r2 o) = cc
no_step s t e (replaced h ts body zs m r b i n g l p) (one_too_many k us r2 b2 j n2 l2) =
    none_some s.scope.names k h body (head_is k h us ts s.rest r2 r) n2 n
no_step s t e (replaced h ts body zs m r b i n g l p) (too_many k us other ys q r2 b2 j n2 g2 l2) =
    over_not zs ys m q (length s.out) s.replaced (same_gift s.scope.names h k body other zs ys m q
    (head_is h k ts us s.rest r r2) n n2 g g2) l p l2

closed_token : (c d : Conditional) (cs ds all : List Conditional) → all ≡ c ∷ cs → all ≡ d ∷ ds →
    errors.NotClosed c.token ≡ errors.NotClosed d.token
closed_token c d cs ds all e f = let g : c ≡ d = cc in ap (λ (x : Conditional). errors.NotClosed x.token) g

one_refusal : (s : State) (e f : PrepError) → Refuses s e → Refuses s f → e ≡ f
one_refusal s e f (directive_fails h ts a r b g) (directive_fails k us c r2 b2 g2) =
    one_error s ts us a c (tail_is h k ts us s.rest r r2) g g2
one_refusal s e f (directive_fails h ts a r b g) (not_closed c cs r2 o) = absurd (cc)
one_refusal s e f (directive_fails h ts a r b g) (one_too_many k us r2 b2 i n l) =
    absurd (no_both h k (head_is h k ts us s.rest r r2) b b2)
one_refusal s e f (directive_fails h ts a r b g) (too_many k us body zs m r2 b2 i n g2 l) =
    absurd (no_both h k (head_is h k ts us s.rest r r2) b b2)
one_refusal s e f (not_closed c cs r o) (directive_fails k us x r2 b2 g2) = absurd (cc)
one_refusal s e f (not_closed c cs r o) (not_closed d ds r2 o2) = closed_token c d cs ds s.scope.conditionals o o2
one_refusal s e f (not_closed c cs r o) (one_too_many k us r2 b2 i n l) = absurd (cc)
one_refusal s e f (not_closed c cs r o) (too_many k us body zs m r2 b2 i n g l) = absurd (cc)
one_refusal s e f (one_too_many h ts r b i n l) (directive_fails k us x r2 b2 g2) =
    absurd (no_both k h (head_is k h us ts s.rest r2 r) b2 b)
one_refusal s e f (one_too_many h ts r b i n l) (not_closed c cs r2 o) = absurd (cc)
one_refusal s e f (one_too_many h ts r b i n l) (one_too_many k us r2 b2 j n2 l2) = refl
one_refusal s e f (one_too_many h ts r b i n l) (too_many k us body zs m r2 b2 j n2 g l2) = refl
one_refusal s e f (too_many h ts body zs m r b i n g l) (directive_fails k us x r2 b2 g2) =
    absurd (no_both k h (head_is k h us ts s.rest r2 r) b2 b)
one_refusal s e f (too_many h ts body zs m r b i n g l) (not_closed c cs r2 o) = absurd (cc)
one_refusal s e f (too_many h ts body zs m r b i n g l) (one_too_many k us r2 b2 j n2 l2) = refl
one_refusal s e f (too_many h ts body zs m r b i n g l) (too_many k us other ys q r2 b2 j n2 g2 l2) = refl

-- ---- one way

abbrev Path : State → ℕ → State → Type 0
Path s zero t = s ≡ t
Path s (suc n) t = (u : State) × Path s n u × Step u t

path_of : (s t : State) → Leads s t → (n : ℕ) × Path s n t
path_of s t here = (0, refl)
path_of s t (onward u v h k) = let p = path_of s u h in (suc p.0, (u, p.1, k))

one_path : (s : State) (n : ℕ) (t u : State) → Path s n t → Path s n u → t ≡ u
one_path s zero t u p q = sym p ∙ q
one_path s (suc n) t u (a, p, h) (b, q, k) =
    let e = one_path s n a b p q in
    one_step b t u (subst (λ (x : State). Step x t) e h) k

below_or_same : (n m : ℕ) → n < suc m → (n < m) ⊎ (n ≡ m)
below_or_same n m h = elim (leb_tells (suc n) m) [ inl w ↦ inl (omega (arith, w.1)) | inr w ↦ inr (omega (arith, w.1)) ]

-- a longer path steps on from where a shorter one is
steps_on : (s : State) (n m : ℕ) (t : State) → Path s m t → n < m → (u v : State) × Path s n u × Step u v
steps_on s n zero t p h = absurd (omega arith)
steps_on s n (suc m) t (u, p, k) h = elim (below_or_same n m h) [
  | inl w ↦ steps_on s n m u p w
  | inr w ↦ (u, t, subst (λ (j : ℕ). Path s j u) (sym w) p, k)
]

abbrev IsStuck : State → Type 0
IsStuck t = (u : State) → Step t u → ⊥

stuck_first : (s : State) (n m : ℕ) (t u : State) → Path s n t → IsStuck t → Path s m u → n < m → ⊥
stuck_first s n m t u p h q l =
    let (a, b, r, k) = steps_on s n m u q l in
    h b (subst (λ (x : State). Step x b) (one_path s n a t r p) k)

one_end : (s t u : State) → Leads s t → IsStuck t → Leads s u → IsStuck u → t ≡ u
one_end s t u h a k b =
    let (n, p) = path_of s t h in
    let (m, q) = path_of s u k in
    elim (leb_tells (suc n) m) [
      | inl w ↦ absurd (stuck_first s n m t u p a q (omega (arith, w.1)))
      | inr w ↦ elim (below_or_same m n (omega (arith, w.1))) [
        | inl v ↦ absurd (stuck_first s m n u t q b p v)
        | inr v ↦ one_path s n t u p (subst (λ (j : ℕ). Path s j u) v q)
      ]
    ]

no_rest : (s : State) → s.rest ≡ [] → IsStuck s
no_rest s r t (directive h ts a e b f) = cc
no_rest s r t (skipped h ts e b i) = cc
no_rest s r t (kept h ts e b i n l) = cc
no_rest s r t (replaced h ts body zs m e b i n g l p) = cc

-- ---- one outcome

pub one_out : (s : State) (a b : List Token) → Ends s a → Ends s b → a ≡ b
one_out s a b h k =
    let e = one_end s h.end k.end h.reached (no_rest h.end h.read) k.reached (no_rest k.end k.read) in
    sym h.given ∙ ap (λ (x : State). x.out) e ∙ k.given

open_or_not : (c : Conditional) (cs : List Conditional) (all : List Conditional) → all ≡ [] → all ≡ c ∷ cs → ⊥
open_or_not c cs all h k = cc

done_refuses : (s : State) (e : PrepError) → s.rest ≡ [] → s.scope.conditionals ≡ [] → Refuses s e → ⊥
done_refuses s e r o (directive_fails h ts x r2 b f) = cc
done_refuses s e r o (not_closed c cs r2 o2) = open_or_not c cs s.scope.conditionals o o2
done_refuses s e r o (one_too_many h ts r2 b i n l) = cc
done_refuses s e r o (too_many h ts body zs m r2 b i n g l) = cc

pub ends_or_fails : (s : State) (a : List Token) (e : PrepError) → Ends s a → Fails s e → ⊥
ends_or_fails s a e h k =
    let same = one_end s h.end k.at h.reached (no_rest h.end h.read) k.reached (λ t i. no_step k.at t e i k.refuses) in
    done_refuses h.end e h.read h.closed (subst (λ (x : State). Refuses x e) (sym same) k.refuses)

pub one_fail : (s : State) (e f : PrepError) → Fails s e → Fails s f → e ≡ f
one_fail s e f h k =
    let same = one_end s h.at k.at h.reached (λ t i. no_step h.at t e i h.refuses) k.reached
    (λ t i. no_step k.at t f i k.refuses) in
    one_refusal k.at e f (subst (λ (x : State). Refuses x e) same h.refuses) k.refuses
