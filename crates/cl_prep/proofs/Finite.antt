-- Finitely many names are in force, so what tokens give can be told.
use Rattle.std.proofs.Common.{ℕ, zero, suc, List, [], ◌∷◌, ◌++◌, length, Bool, true, false, cond, ◌⊎◌, inl, inr, ◌≡◌}
use Rattle.std.proofs.Common.{◌+◌, refl, sym, subst, ◌∙◌, Option, None, Some, Vec, Global}
use Rattle.std.specs.Prelude.{option_map}
use Rattle.std.specs.Str.{bytes_eq}
use Rattle.std.specs.Map.{lookup}
use Rattle.cl_token.specs.Lexeme.{Lexeme, lexemes_of}
use Rattle.cl_token.specs.declared.token.Token.{Token}
use Rattle.cl_token.specs.declared.token.Kind.{Kind}
use Rattle.cl_token.specs.declared.token.Kind.TheVariants.{Name, Number, Mark, Hash}
use Rattle.cl_prep.specs.Names.{Names, with_name, replacement, Gives, none, kept, replaced}
use Rattle.cl_prep.proofs.Tables.{same_bytes, bytes_same, test_is}

-- at most so many names are in force
abbrev pub AtMost : ℕ → Names → Type 0
AtMost zero names = (q : List ℕ) → names q ≡ None
AtMost (suc n) names = (w : List ℕ) × AtMost n (with_name names w None)

pub without_twice : (names : Names) (v w : List ℕ) →
    with_name (with_name names w None) v None ≡ with_name (with_name names v None) w None
without_twice names v w = λ i q. at q i
  where
    at : (q : List ℕ) → with_name (with_name names w None) v None q ≡ with_name (with_name names v None) w None q
    at q = by (bytes_eq v q) (bytes_eq w q)
      where
        by : (a b : Bool) → cond a None (cond b None (names q)) ≡ cond b None (cond a None (names q))
        by true true = refl
        by true false = refl
        by false true = refl
        by false false = refl

-- with a name fewer they are no more
pub at_most_without : (n : ℕ) (names : Names) (w : List ℕ) → AtMost n names → AtMost n (with_name names w None)
at_most_without zero names w h = λ q. by (bytes_eq w q) q
  where
    by : (b : Bool) (q : List ℕ) → cond b None (names q) ≡ None
    by true q = refl
    by false q = h q
at_most_without (suc n) names w (v, h) =
    (v, subst (AtMost n) (without_twice names w v) (at_most_without n (with_name names v None) w h))

some_none : {A : Type 0} (x : A) (o : Option A) → o ≡ Some x → o ≡ None → ⊥
some_none x o h k = cc

other_name : (names : Names) (w v : List ℕ) → bytes_eq w v ≡ false → with_name names w None v ≡ names v
other_name names w v f = rw f refl

-- without one that is in force, they are fewer
pub fewer : (n : ℕ) (names : Names) (v : List ℕ) (b : List Lexeme) → AtMost (suc n) names → names v ≡ Some b →
    AtMost n (with_name names v None)
fewer zero names v b (w, h) e = elim (test_is (bytes_eq w v)) [
  | inl t ↦ subst (λ (x : List ℕ). AtMost zero (with_name names x None)) (same_bytes w v t) h
  | inr f ↦ absurd (some_none b (names v) e (sym (other_name names w v f) ∙ h v))
]
fewer (suc n) names v b (w, h) e = elim (test_is (bytes_eq w v)) [
  | inl t ↦ subst (λ (x : List ℕ). AtMost (suc n) (with_name names x None)) (same_bytes w v t) h
  | inr f ↦ (
    w,
    subst (AtMost n) (without_twice names v w)
        (fewer n (with_name names w None) v b h (other_name names w v f ∙ e)),
  )
]

-- ---- what tokens give

pub record Given (names : Names) (xs : List Lexeme) : Type 0 where
  pub tokens : List Lexeme
  pub count : ℕ
  pub gives : Gives names xs tokens count

option_is : {A : Type 0} (o : Option A) → (o ≡ None) ⊎ ((x : A) × (o ≡ Some x))
option_is None = inl refl
option_is (Some x) = inr (x, refl)

-- a token that is replaced is a name in force
pub is_in_force : (names : Names) (x : Lexeme) (body : List Lexeme) → replacement names x ≡ Some body →
    names x.word ≡ Some body
is_in_force names x body h = of_kind x.kind h
  where
    of_kind : (k : Kind) → replacement names (record { kind = k; word = x.word }) ≡ Some body → names x.word ≡ Some body
    of_kind Name g = g
    of_kind Number g = absurd (cc)
    of_kind Mark g = absurd (cc)
    of_kind Hash g = absurd (cc)

-- what each token gives, given what each replacement gives
given_by : (names : Names) → ((x : Lexeme) (body : List Lexeme) → replacement names x ≡ Some body →
    Given (with_name names x.word None) body) → (xs : List Lexeme) → Given names xs
given_by names each [] = record { tokens = []; count = 0; gives = none }
given_by names each (x ∷ xs) = let g = given_by names each xs in elim (option_is (replacement names x)) [
  | inl h ↦ record { tokens = x ∷ g.tokens; count = g.count; gives = kept x h g.gives }
  | inr w ↦ (let k = each x w.0 w.1 in record {
    tokens = k.tokens ++ g.tokens;
    count = suc (k.count + g.count);
    gives = replaced x w.0 w.1 k.gives g.gives;
  })
]

pub given : (n : ℕ) (names : Names) → AtMost n names → (xs : List Lexeme) → Given names xs
given zero names h xs =
    given_by names (λ x body e. absurd (some_none body (names x.word) (is_in_force names x body e) (h x.word))) xs
given (suc n) names h xs = given_by names (λ x body e. given n (with_name names x.word None)
    (fewer n names x.word body h (is_in_force names x body e)) body) xs

-- ---- the names of a table

abbrev pub names_in : List (Vec ℕ Global × Vec Token Global) → Names
names_in es q = option_map (λ b. lexemes_of b.items) (lookup (λ k. bytes_eq q k.items) es)

eq_symmetric : (v w : List ℕ) → bytes_eq v w ≡ false → bytes_eq w v ≡ false
eq_symmetric v w f = elim (test_is (bytes_eq w v)) [
  | inl t ↦ (let e = bytes_same v w (sym (same_bytes w v t)) in absurd (cc))
  | inr g ↦ g
]

without_first : (e : Vec ℕ Global × Vec Token Global) (es : List (Vec ℕ Global × Vec Token Global)) →
    with_name (names_in (e ∷ es)) e.0.items None ≡ with_name (names_in es) e.0.items None
without_first e es = λ i q. at q i
  where
    at : (q : List ℕ) → with_name (names_in (e ∷ es)) e.0.items None q ≡ with_name (names_in es) e.0.items None q
    at q = elim (test_is (bytes_eq e.0.items q)) [
      | inl t ↦ rw t refl
      | inr f ↦ rw (f, eq_symmetric e.0.items q f) refl
    ]

pub table_at_most : (es : List (Vec ℕ Global × Vec Token Global)) → AtMost (length es) (names_in es)
table_at_most [] = λ q. refl
table_at_most (e ∷ es) = (
  e.0.items,
  subst (AtMost (length es)) (sym (without_first e es)) (at_most_without (length es) (names_in es) e.0.items
      (table_at_most es)),
)
