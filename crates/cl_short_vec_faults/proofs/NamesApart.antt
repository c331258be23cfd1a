-- Names that differ: those of a source, of components, and of helping variables.
use Rattle.std.proofs.Common.{◌≡◌, ℕ, zero, suc, ◌+◌, ◌/◌, ◌%◌, ◌≤◌, ◌<◌, ◌^◌, nat_eq, List, [], ◌∷◌, ◌++◌, Bool, true}
use Rattle.std.proofs.Common.{false, if◌then◌else◌, refl, ap, sym, ◌∙◌, arith, ◌⊎◌, inl, inr}
use Rattle.std.proofs.lemmas.Bool.{false≢true}
use Rattle.std.proofs.lemmas.Bool.Decides.{nat_tests}
use Rattle.std.proofs.lemmas.Fmt.{decimal_injective}
use Rattle.std.specs.Prelude.{codes, decimal, nat_lt, ◌||◌}
use Rattle.std.specs.Fmt.{digits, digits_onto, digit_glyph}
use Rattle.std.specs.Str.{bytes_eq}
use lib.Pointwise.{bytes_decides}
use Rattle.cl_short_vec.specs.declared.nodes.Span.{Span}
use Rattle.cl_short_vec.specs.Nodes.{component_name, helper}
use Rattle.cl_short_vec_faults.specs.Plainly.{has_point}
use Rattle.cl_short_vec_faults.specs.Beside.{IsName}

-- ---- names

-- two names that are told apart
abbrev pub Apart : List ℕ → List ℕ → Type 0
Apart x q = bytes_eq x q ≡ false

pub apart_from : (x q : List ℕ) → (x ≡ q → ⊥) → Apart x q
apart_from x q h = by (bytes_eq x q) refl
  where
    by : (b : Bool) → bytes_eq x q ≡ b → b ≡ false
    by true e = absurd (h ((bytes_decides x q).0 e))
    by false e = refl

pub same_name : (x : List ℕ) → bytes_eq x x ≡ true
same_name x = (bytes_decides x x).1 refl

-- a name with a point is no name of a source
pub pointed_apart : (x q : List ℕ) → has_point x ≡ true → has_point q ≡ false → Apart x q
pointed_apart x q h k = apart_from x q (λ e. false≢true (sym k ∙ (sym (ap has_point e) ∙ h)))

pub plain_apart : (x q : List ℕ) → has_point x ≡ false → has_point q ≡ true → Apart x q
plain_apart x q h k = apart_from x q (λ e. false≢true (sym h ∙ (ap has_point e ∙ k)))

or_false : (a b : Bool) → (a || b) ≡ false → (a ≡ false) × (b ≡ false)
or_false true b h = absurd (false≢true (sym h))
or_false false b h = (refl, h)

-- what is in front of the first point
abbrev front_of : List ℕ → List ℕ
front_of [] = []
front_of (b ∷ q) = if nat_eq b 46 then [] else b ∷ front_of q

front_component : (q rest : List ℕ) → has_point q ≡ false → front_of (q ++ (codes "." ++ rest)) ≡ q
front_component [] rest h = refl
front_component (b ∷ q) rest h =
    let p = or_false (nat_eq b 46) (has_point q) h in
    ap (λ z. if z then [] else b ∷ front_of (q ++ (codes "." ++ rest))) p.0 ∙
    ap (λ z. b ∷ z) (front_component q rest p.1)

front_plain : (q : List ℕ) → has_point q ≡ false → front_of q ≡ q
front_plain [] h = refl
front_plain (b ∷ q) h =
    let p = or_false (nat_eq b 46) (has_point q) h in
    ap (λ z. if z then [] else b ∷ front_of q) p.0 ∙ ap (λ z. b ∷ z) (front_plain q p.1)

-- the name of a component tells the variable
pub component_of_one : (x q : List ℕ) (c d : ℕ) → has_point x ≡ false → has_point q ≡ false →
    component_name x c ≡ component_name q d → x ≡ q
component_of_one x q c d h k e =
    sym (front_component x (decimal c) h) ∙ (ap front_of e ∙ front_component q (decimal d) k)

-- and the component, where both have few
abbrev behind_front : List ℕ → List ℕ
behind_front [] = []
behind_front (b ∷ q) = if nat_eq b 46 then q else behind_front q

behind_component : (q rest : List ℕ) → has_point q ≡ false → behind_front (q ++ (codes "." ++ rest)) ≡ rest
behind_component [] rest h = refl
behind_component (b ∷ q) rest h =
    let p = or_false (nat_eq b 46) (has_point q) h in
    ap (λ z. if z then q ++ (codes "." ++ rest) else behind_front (q ++ (codes "." ++ rest))) p.0 ∙
    behind_component q rest p.1

pub component_number : (x q : List ℕ) (c d : ℕ) → has_point x ≡ false → has_point q ≡ false → c < 2 ^ 64 → d < 2 ^ 64 →
    component_name x c ≡ component_name q d → c ≡ d
component_number x q c d h k m n e = decimal_injective c d m n
    (sym (behind_component x (decimal c) h) ∙ (ap behind_front e ∙ behind_component q (decimal d) k))

-- a name of a source does not begin with a point
abbrev begins : List ℕ → Bool
begins [] = false
begins (b ∷ q) = nat_eq b 46

name_begins : (q rest : List ℕ) → IsName q → begins (q ++ rest) ≡ false
name_begins [] rest h = absurd (false≢true h.some)
name_begins (b ∷ q) rest h = (or_false (nat_eq b 46) (has_point q) h.plain).0

-- the name begins with a point
abbrev pub Begins : List ℕ → Type 0
Begins y = begins y ≡ true

pub begins_apart : (y q rest : List ℕ) → Begins y → IsName q → Apart y (q ++ rest)
begins_apart y q rest h n =
    apart_from y (q ++ rest) (λ e. false≢true (sym (name_begins q rest n) ∙ (sym (ap begins e) ∙ h)))

pub apart_begins : (y q rest : List ℕ) → Begins y → IsName q → Apart (q ++ rest) y
apart_begins y q rest h n =
    apart_from (q ++ rest) y (λ e. false≢true (sym (name_begins q rest n) ∙ (ap begins e ∙ h)))

pub begins_point : (y : List ℕ) → Begins y → has_point y ≡ true
begins_point [] h = absurd (false≢true h)
begins_point (b ∷ y) h = ap (λ z. z || has_point y) h

-- ---- helping variables

glyph_plain : (d : ℕ) → nat_eq (digit_glyph false d) 46 ≡ false
glyph_plain d = by (nat_lt d 10)
  where
    by : (b : Bool) → nat_eq (if b then 48 + d else 87 + d) 46 ≡ false
    by true = grind (arith, nat_tests)
    by false = grind (arith, nat_tests)

more_plain : (b : ℕ) (q : List ℕ) → nat_eq b 46 ≡ false → has_point q ≡ false → has_point (b ∷ q) ≡ false
more_plain b q h k = ap (λ z. z || has_point q) h ∙ k

digits_plain : (k n : ℕ) (acc : List ℕ) → has_point acc ≡ false → has_point (digits_onto k 10 false n acc) ≡ false
digits_plain zero n acc h = h
digits_plain (suc k) n acc h =
    let g = more_plain (digit_glyph false (n % 10)) acc (glyph_plain (n % 10)) h in
    by (nat_eq (n / 10) 0) g (digits_plain k (n / 10) (digit_glyph false (n % 10) ∷ acc) g)
  where
    by : (b : Bool) → has_point (digit_glyph false (n % 10) ∷ acc) ≡ false →
        has_point (digits_onto k 10 false (n / 10) (digit_glyph false (n % 10) ∷ acc)) ≡ false →
        has_point (if b then digit_glyph false (n % 10) ∷ acc else
        digits_onto k 10 false (n / 10) (digit_glyph false (n % 10) ∷ acc)) ≡ false
    by true g i = g
    by false g i = i

pub decimal_plain : (n : ℕ) → has_point (decimal n) ≡ false
unfolding digits
decimal_plain n = digits_plain 64 n [] refl

abbrev tail_of : List ℕ → List ℕ
tail_of [] = []
tail_of (b ∷ q) = q

-- the name of a helping variable, or of one of its components
abbrev pub HelpingName : Span → List ℕ → Type 0
HelpingName s y = (y ≡ helper s) ⊎ ((c : ℕ) × (y ≡ component_name (helper s) c))

helping_front : (s : Span) (y : List ℕ) → HelpingName s y → front_of (tail_of y) ≡ decimal s.first
helping_front s y (inl e) = ap (λ z. front_of (tail_of z)) e ∙ front_plain (decimal s.first) (decimal_plain s.first)
helping_front s y (inr (c, e)) = ap (λ z. front_of (tail_of z)) e ∙
    front_component (decimal s.first) (decimal c) (decimal_plain s.first)

pub helping_begins : (s : Span) (y : List ℕ) → HelpingName s y → Begins y
helping_begins s y (inl e) = ap begins e
helping_begins s y (inr (c, e)) = ap begins e

-- of two tokens they differ
pub helping_token : (s t : Span) (y z : List ℕ) → HelpingName s y → HelpingName t z → s.first < 2 ^ 64 →
    t.first < 2 ^ 64 → y ≡ z → s.first ≡ t.first
helping_token s t y z h k m n e = decimal_injective s.first t.first m n
    (sym (helping_front s y h) ∙ (ap (λ x. front_of (tail_of x)) e ∙ helping_front t z k))

-- a helping variable of a token in front of that one
abbrev pub IsHelping : ℕ → List ℕ → Type 0
IsHelping n y = (s : Span) × (s.first < n) × (s.first < 2 ^ 64) × HelpingName s y

pub helping_apart : (n : ℕ) (y : List ℕ) (t : Span) (z : List ℕ) → IsHelping n y → n ≤ t.first → t.first < 2 ^ 64 →
    HelpingName t z → Apart y z
helping_apart n y t z h l m k = apart_from y z (λ e. differ (helping_token h.0 t y z h.3 k h.2 m e))
  where
    differ : h.0.first ≡ t.first → ⊥
    differ e = let a = h.1 in omega arith
