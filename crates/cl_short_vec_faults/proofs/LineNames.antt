-- Helping variables of different tokens have different names.
use Rattle.std.proofs.Common.{◌≡◌, ℕ, zero, suc, ◌+◌, ◌/◌, ◌%◌, ◌≤◌, ◌<◌, ◌^◌, Bool, true, false, nat_eq, ◌||◌, List}
use Rattle.std.proofs.Common.{[], ◌∷◌}
use Rattle.std.proofs.Common.{◌++◌, map, if◌then◌else◌, refl, ap, sym, ◌∙◌, subst, inl, inr, ◌⊎◌, arith}
use Rattle.std.proofs.lemmas.Bool.{false≢true}
use Rattle.std.proofs.lemmas.Bool.Decides.{nat_tests}
use Rattle.std.proofs.lemmas.Fmt.{decimal_injective}
use Rattle.std.specs.Prelude.{codes, decimal, nat_lt}
use Rattle.std.specs.Fmt.{digits, digits_onto, digit_glyph}
use Rattle.cl_model.specs.Lists.{Each, IsOneOf, AllDiffer}
use Rattle.cl_short_vec.specs.declared.nodes.Span.{Span}
use Rattle.cl_short_vec.specs.Types.{numbers}
use Rattle.cl_short_vec.specs.Nodes.{component_name, helper}
use Rattle.cl_short_vec_faults.specs.Plainly.{has_point}
use Rattle.cl_short_vec_faults.specs.Lines.{TokenOf, InRange}
use Rattle.cl_short_vec_faults.proofs.Points.{point_among}
use Rattle.cl_short_vec_faults.proofs.LineInitials.{points_same}

-- ---- digits

-- the glyph of a digit is no point
glyph_point : (d : ℕ) → nat_eq (digit_glyph false d) 46 ≡ false
glyph_point d = by (nat_lt d 10)
  where
    by : (b : Bool) → nat_eq (if b then 48 + d else 87 + d) 46 ≡ false
    by true = grind (arith, nat_tests)
    by false = grind (arith, nat_tests)

glyph_first : (d : ℕ) (acc : List ℕ) → has_point acc ≡ false → has_point (digit_glyph false d ∷ acc) ≡ false
glyph_first d acc h = ap (λ z. z || has_point acc) (glyph_point d) ∙ h

digits_point : (k n : ℕ) (acc : List ℕ) → has_point acc ≡ false → has_point (digits_onto k 10 false n acc) ≡ false
digits_point zero n acc h = h
digits_point (suc k) n acc h = by (nat_eq (n / 10) 0)
    (digits_point k (n / 10) (digit_glyph false (n % 10) ∷ acc) (glyph_first (n % 10) acc h))
  where
    by : (b : Bool) → has_point (digits_onto k 10 false (n / 10) (digit_glyph false (n % 10) ∷ acc)) ≡ false →
        has_point (if b then digit_glyph false (n % 10) ∷ acc else
        digits_onto k 10 false (n / 10) (digit_glyph false (n % 10) ∷ acc)) ≡ false
    by true g = glyph_first (n % 10) acc h
    by false g = g

decimal_point : (n : ℕ) → has_point (decimal n) ≡ false
unfolding digits
decimal_point n = digits_point 64 n [] refl

-- ---- names of a token

behind_point : (a b : List ℕ) → 46 ∷ a ≡ 46 ∷ b → a ≡ b
behind_point a b h = cc

no_component : (i j c : ℕ) → codes "." ++ decimal i ≡ component_name (codes "." ++ decimal j) c → ⊥
no_component i j c h =
    let e = behind_point (decimal i) (decimal j ++ (codes "." ++ decimal c)) h in
    false≢true (sym (decimal_point i) ∙ (ap has_point e ∙ point_among (decimal j) (codes "." ++ decimal c) refl))

pub token_same : (i j : ℕ) (q : List ℕ) → i < 2 ^ 64 → j < 2 ^ 64 → TokenOf i q → TokenOf j q → i ≡ j
token_same i j q a b (inl e) (inl g) =
    decimal_injective i j a b (behind_point (decimal i) (decimal j) (sym e ∙ g))
token_same i j q a b (inl e) (inr g) = absurd (no_component i j g.0 (sym e ∙ g.1))
token_same i j q a b (inr e) (inl g) = absurd (no_component j i e.0 (sym g ∙ e.1))
token_same i j q a b (inr e) (inr g) = decimal_injective i j a b (points_same (decimal i) (decimal j) (decimal e.0)
    (decimal g.0) (decimal_point i) (decimal_point j) (behind_point (decimal i ++ (46 ∷ decimal e.0))
    (decimal j ++ (46 ∷ decimal g.0)) (sym e.1 ∙ g.1)))

cancelled : (h a b : List ℕ) → h ++ a ≡ h ++ b → a ≡ b
cancelled [] a b e = e
cancelled (x ∷ h) a b e = let rest : h ++ a ≡ h ++ b = cc in cancelled h a b rest

pub component_same : (h : List ℕ) (c d : ℕ) → c < 2 ^ 64 → d < 2 ^ 64 → component_name h c ≡ component_name h d →
    c ≡ d
component_same h c d a b e = decimal_injective c d a b (behind_point (decimal c) (decimal d)
    (cancelled h (codes "." ++ decimal c) (codes "." ++ decimal d) e))

-- ---- lists of names

-- names of tokens in that range, all different
abbrev pub Ranged : ℕ → ℕ → List (List ℕ) → Type 0
Ranged f l qs = Each (InRange f l) qs × AllDiffer qs

range_wide : (f l f' l' : ℕ) → f' ≤ f → l ≤ l' → (qs : List (List ℕ)) → Each (InRange f l) qs → Each (InRange f' l') qs
range_wide f l f' l' a b [] h = tt
range_wide f l f' l' a b (q ∷ qs) h =
    ((h.0.0, omega (arith, a, h.0.1), omega (arith, b, h.0.2), h.0.3), range_wide f l f' l' a b qs h.1)

pub ranged_wide : (f l f' l' : ℕ) → f' ≤ f → l ≤ l' → (qs : List (List ℕ)) → Ranged f l qs → Ranged f' l' qs
ranged_wide f l f' l' a b qs h = (range_wide f l f' l' a b qs h.0, h.1)

each_append : (P : List ℕ → Type 0) (xs ys : List (List ℕ)) → Each P xs → Each P ys → Each P (xs ++ ys)
each_append P [] ys h k = k
each_append P (x ∷ xs) ys h k = (h.0, each_append P xs ys h.1 k)

pub each_among : (P : List ℕ → Type 0) (xs : List (List ℕ)) (x : List ℕ) → Each P xs → IsOneOf xs x → P x
each_among P [] x h i = absurd i
each_among P (y ∷ xs) x h (inl e) = subst P e h.0
each_among P (y ∷ xs) x h (inr i) = each_among P xs x h.1 i

pub among_apart : (xs ys : List (List ℕ)) (q : List ℕ) → IsOneOf (xs ++ ys) q → IsOneOf xs q ⊎ IsOneOf ys q
among_apart [] ys q i = inr i
among_apart (x ∷ xs) ys q (inl e) = inl (inl e)
among_apart (x ∷ xs) ys q (inr i) = by (among_apart xs ys q i)
  where
    by : IsOneOf xs q ⊎ IsOneOf ys q → IsOneOf (x ∷ xs) q ⊎ IsOneOf ys q
    by (inl j) = inl (inr j)
    by (inr j) = inr j

pub differ_append : (xs ys : List (List ℕ)) → AllDiffer xs → AllDiffer ys →
    ((q : List ℕ) → IsOneOf xs q → IsOneOf ys q → ⊥) → AllDiffer (xs ++ ys)
differ_append [] ys h k n = k
differ_append (x ∷ xs) ys h k n = (
  λ i. by (among_apart xs ys x i),
  differ_append xs ys h.1 k (λ q i j. n q (inr i) j),
)
  where
    by : IsOneOf xs x ⊎ IsOneOf ys x → ⊥
    by (inl i) = h.0 i
    by (inr i) = n x (inl refl) i

-- those of tokens behind others
pub ranged_append : (f m g l : ℕ) (xs ys : List (List ℕ)) → f ≤ g → m < g → m ≤ l → l < 2 ^ 64 → Ranged f m xs →
    Ranged g l ys → Ranged f l (xs ++ ys)
ranged_append f m g l xs ys a b c d h k = (
  each_append (InRange f l) xs ys (range_wide f m f l (omega arith) c xs h.0) (range_wide g l f l a (omega arith) ys
      k.0),
  differ_append xs ys h.1 k.1 apart,
)
  where
    apart : (q : List ℕ) → IsOneOf xs q → IsOneOf ys q → ⊥
    apart q i j =
        let x = each_among (InRange f m) xs q h.0 i in
        let y = each_among (InRange g l) ys q k.0 j in
        let u : x.0 < 2 ^ 64 = omega (arith, x.2, c, d) in
        let v : y.0 < 2 ^ 64 = omega (arith, y.2, d) in
        let same = token_same x.0 y.0 q u v x.3 y.3 in
        omega (arith, same, x.2, y.1, b)

-- ---- components of a token

components_range : (s : Span) (f l : ℕ) → f ≤ s.first → s.first ≤ l → (cs : List ℕ) →
    Each (InRange f l) (map (component_name (helper s)) cs)
components_range s f l a b [] = tt
components_range s f l a b (c ∷ cs) = ((s.first, a, b, inr (c, refl)), components_range s f l a b cs)

component_among : (h : List ℕ) (c : ℕ) (cs : List ℕ) → c < 2 ^ 64 → Each (λ d. d < 2 ^ 64) cs →
    IsOneOf (map (component_name h) cs) (component_name h c) → IsOneOf cs c
component_among h c [] a b i = absurd i
component_among h c (d ∷ cs) a b (inl e) = inl (component_same h d c b.0 a e)
component_among h c (d ∷ cs) a b (inr i) = inr (component_among h c cs a b.1 i)

pub components_differ : (h : List ℕ) (cs : List ℕ) → Each (λ d. d < 2 ^ 64) cs → AllDiffer cs →
    AllDiffer (map (component_name h) cs)
components_differ h [] b n = tt
components_differ h (c ∷ cs) b n =
    (λ i. n.0 (component_among h c cs b.0 b.1 i), components_differ h cs b.1 n.1)

pub components_ranged : (s : Span) (f l : ℕ) → f ≤ s.first → s.first ≤ l → (cs : List ℕ) →
    Each (λ d. d < 2 ^ 64) cs → AllDiffer cs → Ranged f l (map (component_name (helper s)) cs)
components_ranged s f l a b cs d n = (components_range s f l a b cs, components_differ (helper s) cs d n)

-- the token's own name is none of its components
own_apart : (s : Span) (cs : List ℕ) → IsOneOf (map (component_name (helper s)) cs) (helper s) → ⊥
own_apart s [] i = i
own_apart s (c ∷ cs) (inl e) = no_component s.first s.first c (sym e)
own_apart s (c ∷ cs) (inr i) = own_apart s cs i

pub own_ranged : (s : Span) (f l : ℕ) → f ≤ s.first → s.first ≤ l → (cs : List ℕ) →
    Ranged f l (map (component_name (helper s)) cs) → Ranged f l (helper s ∷ map (component_name (helper s)) cs)
own_ranged s f l a b cs h = (((s.first, a, b, inl refl), h.0), (own_apart s cs, h.1))

-- ---- numbers in a row

later_number : (first n c : ℕ) → c < first → IsOneOf (numbers first 1 n) c → ⊥
later_number first zero c l i = i
later_number first (suc n) c l (inl e) = omega (arith, e, l)
later_number first (suc n) c l (inr i) = later_number (first + 1) n c (omega (arith, l)) i

pub numbers_differ : (first n : ℕ) → AllDiffer (numbers first 1 n)
numbers_differ first zero = tt
numbers_differ first (suc n) = (
  later_number (first + 1) n first (omega arith),
  numbers_differ (first + 1) n,
)

pub numbers_small : (first n : ℕ) → first + n ≤ 16 → Each (λ d. d < 2 ^ 64) (numbers first 1 n)
numbers_small first zero h = tt
numbers_small first (suc n) h = (omega (arith, h), numbers_small (first + 1) n (omega (arith, h)))
