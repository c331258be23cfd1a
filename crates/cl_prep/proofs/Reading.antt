-- One token of a replacement after another.
use Rattle.std.proofs.Common.{ℕ, suc, List, [], ◌∷◌, ◌++◌, length, Bool, true, false, cond, inl, inr, ◌≡◌, ◌+◌, ◌≤◌}
use Rattle.std.proofs.Common.{refl, sym, ap, subst, ◌∙◌, arith, append_assoc, length-append, Option, None, Some}
use Rattle.std.proofs.lemmas.List.{append-nil}
use Rattle.std.specs.Str.{bytes_eq}
use Rattle.cl_token.specs.Lexeme.{Lexeme}
use Rattle.cl_token.specs.declared.token.Kind.{Kind}
use Rattle.cl_token.specs.declared.token.Kind.TheVariants.{Name, Number, Mark, Hash}
use Rattle.cl_prep.specs.Names.{Names, with_name, replacement, Gives, none, kept, replaced}
use Rattle.cl_prep.specs.Pending.{Pending, inside, is_member, Waits}
use Rattle.cl_prep.proofs.Tables.{test_is}
use Rattle.cl_prep.proofs.Finite.{AtMost, at_most_without, given}

-- ---- one outcome

pub record Same (zs us : List Lexeme) (m k : ℕ) : Type 0 where
  pub tokens : zs ≡ us
  pub count : m ≡ k

-- what tokens give is determined
pub one_gift : (names : Names) (xs zs us : List Lexeme) (m k : ℕ) → Gives names xs zs m → Gives names xs us k →
    Same zs us m k
one_gift names xs zs us m k none none = record { tokens = refl; count = refl }
one_gift names xs zs us m k (kept {xs = xs1} {zs = zs1} {m = m1} x h g) (kept {zs = us1} {m = k1} y i j) =
    let s = one_gift names xs1 zs1 us1 m1 k1 g j in
    record { tokens = ap (λ (l : List Lexeme). x ∷ l) s.tokens; count = s.count }
one_gift names xs zs us m k (kept x h g) (replaced y body i j l) = absurd (cc)
one_gift names xs zs us m k (replaced x body h g g2) (kept y i j) = absurd (cc)
one_gift names xs zs us m k (replaced {xs = xs1} {ys = ys1} {zs = zs1} {k = k1} {m = m1} x body h g g2)
    (replaced {ys = us1} {zs = us2} {k = n1} {m = n2} y other i j l) =
    let e : body ≡ other = cc in
    let s = one_gift (with_name names x.word None) body ys1 us1 k1 n1 g
    (subst (λ (b : List Lexeme). Gives (with_name names x.word None) b us1 n1) (sym e) j) in
    let r = one_gift names xs1 zs1 us2 m1 n2 g2 l in
    record {
      tokens = ap (λ (a : List Lexeme). a ++ zs1) s.tokens ∙ ap (λ (b : List Lexeme). us1 ++ b) r.tokens;
      count = omega (arith, s.count, r.count);
    }

-- ---- names that are being replaced

pub inside_at : (names : Names) (ps : List Pending) (q : List ℕ) →
    inside names ps q ≡ cond (is_member q ps) None (names q)
inside_at names [] q = refl
inside_at names (p ∷ ps) q = elim (test_is (bytes_eq p.name q)) [
  | inl t ↦ rw t refl
  | inr f ↦ rw f (inside_at names ps q)
]

abbrev no_body : Option (List Lexeme)
no_body = None

pub replacement_inside : (names : Names) (ps : List Pending) (x : Lexeme) →
    replacement (inside names ps) x ≡ cond (is_member x.word ps) None (replacement names x)
replacement_inside names ps x = of_kind x.kind
  where
    neither : (b : Bool) → no_body ≡ cond b no_body no_body
    neither true = refl
    neither false = refl

    of_kind : (k : Kind) → replacement (inside names ps) (record { kind = k; word = x.word }) ≡
        cond (is_member x.word ps) None (replacement names (record { kind = k; word = x.word }))
    of_kind Name = inside_at names ps x.word
    of_kind Number = neither (is_member x.word ps)
    of_kind Mark = neither (is_member x.word ps)
    of_kind Hash = neither (is_member x.word ps)

pub open_name : (names : Names) (ps : List Pending) (x : Lexeme) (body : List Lexeme) → is_member x.word ps ≡ false →
    replacement names x ≡ Some body → replacement (inside names ps) x ≡ Some body
open_name names ps x body h e = replacement_inside names ps x ∙ rw h e

pub closed_name : (names : Names) (ps : List Pending) (x : Lexeme) → is_member x.word ps ≡ true →
    replacement (inside names ps) x ≡ None
closed_name names ps x h = replacement_inside names ps x ∙ rw h refl

pub no_name : (names : Names) (ps : List Pending) (x : Lexeme) → replacement names x ≡ None →
    replacement (inside names ps) x ≡ None
no_name names ps x h = replacement_inside names ps x ∙ by (is_member x.word ps)
  where
    by : (b : Bool) → cond b None (replacement names x) ≡ None
    by true = refl
    by false = h

-- ---- steps

-- However what is left goes on, the replacement gives what is done and then that.
abbrev pub Going : Names → List ℕ → List Lexeme → List Lexeme → ℕ → List Pending → Type 0
Going names name body done k ps =
    (zs : List Lexeme) (m : ℕ) → Waits names ps zs m → Gives (with_name names name None) body (done ++ zs) (k + m)

abbrev pub pending : List ℕ → List Lexeme → Pending
pending name left = record { name = name; left = left }

gives_as : (names : Names) (xs zs us : List Lexeme) (m k : ℕ) → Gives names xs zs m → zs ≡ us → m ≡ k →
    Gives names xs us k
gives_as names xs zs us m k g e f =
    subst (λ (n : ℕ). Gives names xs us n) f (subst (λ (l : List Lexeme). Gives names xs l m) e g)

pub going_start : (names : Names) (name : List ℕ) (body : List Lexeme) →
    Going names name body [] 0 (pending name body ∷ [])
going_start names name body zs m (a, b, i, j, g, w, e, f) =
    let all : a ≡ zs = sym (append-nil a) ∙ sym (ap (λ (l : List Lexeme). a ++ l) w.0) ∙ sym e in
    gives_as (with_name names name None) body a zs i (0 + m) g all (omega (arith, w.1, f))

pub going_end : (names : Names) (name : List ℕ) (body done : List Lexeme) (k : ℕ) → Going names name body done k [] →
    Gives (with_name names name None) body done k
going_end names name body done k h =
    gives_as (with_name names name None) body (done ++ []) done (k + 0) k (h [] 0 (refl, refl)) (append-nil done)
    (omega arith)

-- a replacement is read to its end
pub going_out : (names : Names) (name : List ℕ) (body done : List Lexeme) (k : ℕ) (word : List ℕ)
    (ps : List Pending) → Going names name body done k (pending word [] ∷ ps) → Going names name body done k ps
going_out names name body done k word ps h zs m w = h zs m ([], zs, 0, m, none, w, refl, omega arith)

-- a token is given
pub going_on : (names : Names) (name : List ℕ) (body done : List Lexeme) (k : ℕ) (word : List ℕ) (x : Lexeme)
    (l : List Lexeme) (ps : List Pending)
    → replacement (inside names (pending word (x ∷ l) ∷ ps)) x ≡ None →
    Going names name body done k (pending word (x ∷ l) ∷ ps) →
    Going names name body (done ++ x ∷ []) k (pending word l ∷ ps)
going_on names name body done k word x l ps r h zs m (a, b, i, j, g, w, e, f) =
    let grown = h (x ∷ (a ++ b)) m (x ∷ a, b, i, j, kept x r g, w, refl, f) in
    let same : done ++ (x ∷ (a ++ b)) ≡ (done ++ x ∷ []) ++ zs =
    ap (λ (t : List Lexeme). done ++ (x ∷ t)) (sym e) ∙ sym (append_assoc done (x ∷ []) zs) in
    gives_as (with_name names name None) body (done ++ (x ∷ (a ++ b))) ((done ++ x ∷ []) ++ zs) (k + m) (k + m) grown
    same refl

-- a name is replaced
pub going_in : (names : Names) (name : List ℕ) (body done : List Lexeme) (k : ℕ) (word : List ℕ) (x : Lexeme)
    (l new : List Lexeme) (ps : List Pending)
    → replacement (inside names (pending word (x ∷ l) ∷ ps)) x ≡ Some new →
    Going names name body done k (pending word (x ∷ l) ∷ ps)
    → Going names name body done (suc k) (pending x.word new ∷ pending word l ∷ ps)
going_in names name body done k word x l new ps r h zs m (c, rest, p, q, g, (a, b, i, j, g2, w, e2, f2), e, f) =
    let grown = h ((c ++ a) ++ b) (suc (p + i) + j) (c ++ a, b, suc (p + i), j, replaced x new r g g2, w, refl, refl) in
    let same : (c ++ a) ++ b ≡ zs = append_assoc c a b ∙ ap (λ (t : List Lexeme). c ++ t) (sym e2) ∙ sym e in
    gives_as (with_name names name None) body (done ++ ((c ++ a) ++ b)) (done ++ zs) (k + (suc (p + i) + j))
    (suc k + m) grown (ap (λ (t : List Lexeme). done ++ t) same) (omega arith)

-- ---- what is left can be told

pub record Left (names : Names) (ps : List Pending) : Type 0 where
  pub tokens : List Lexeme
  pub count : ℕ
  pub waits : Waits names ps tokens count

inside_at_most : (n : ℕ) (names : Names) (ps : List Pending) → AtMost n names → AtMost n (inside names ps)
inside_at_most n names [] h = h
inside_at_most n names (p ∷ ps) h = at_most_without n (inside names ps) p.name (inside_at_most n names ps h)

pub left_of : (n : ℕ) (names : Names) → AtMost n names → (ps : List Pending) → Left names ps
left_of n names h [] = record { tokens = []; count = 0; waits = (refl, refl) }
left_of n names h (p ∷ ps) =
    let g = given n (inside names (p ∷ ps)) (inside_at_most n names (p ∷ ps) h) p.left in
    let l = left_of n names h ps in
    record {
      tokens = g.tokens ++ l.tokens;
      count = g.count + l.count;
      waits = (g.tokens, l.tokens, g.count, l.count, g.gives, l.waits, refl, refl);
    }

-- a replacement that gives at least so many tokens, and replaces at least so many names
pub record GivesAtLeast (names : Names) (name : List ℕ) (body : List Lexeme) (tokens count : ℕ) : Type 0 where
  pub all : List Lexeme
  pub replacements : ℕ
  pub gives : Gives (with_name names name None) body all replacements
  pub many : tokens ≤ length all
  pub often : count ≤ replacements

pub at_least : (n : ℕ) (names : Names) (name : List ℕ) (body done : List Lexeme) (k : ℕ) (ps : List Pending) →
    AtMost n names → Going names name body done k ps → GivesAtLeast names name body (length done) k
at_least n names name body done k ps h g =
    let l = left_of n names h ps in
    record {
      all = done ++ l.tokens;
      replacements = k + l.count;
      gives = g l.tokens l.count l.waits;
      many = omega (arith, length-append done l.tokens);
      often = omega arith;
    }
