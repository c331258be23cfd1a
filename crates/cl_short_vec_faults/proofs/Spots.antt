-- Numbers of tokens in ascending order.
use Rattle.std.proofs.Common.{◌≡◌, ℕ, suc, ◌≤◌, ◌<◌, List, [], ◌∷◌, ◌++◌, refl, ap, sym, subst, arith}
use Rattle.cl_tree.specs.declared.terminal.Leaf.{Leaf}
use Rattle.cl_tree.specs.Syntax.{Forest}
use Rattle.cl_tree.specs.Nodes.{Spot, first_spot, last_spot}
use Rattle.cl_tree.specs.Grammar as grammar
use Rattle.cl_tree.specs.Grammar.{Spells, SpellsUnit, Value, one, list, Base, Core}

-- spots in ascending order, from n on and below m
abbrev pub SpotsIn : ℕ → List Spot → ℕ → Type 0
SpotsIn n [] m = n ≤ m
SpotsIn n (k ∷ ks) m = (n ≤ k.number) × SpotsIn (suc k.number) ks m

pub spots_le : (a : List Spot) (n m : ℕ) → SpotsIn n a m → n ≤ m
spots_le [] n m h = h
spots_le (k ∷ a) n m h = let q = spots_le a (suc k.number) m h.1 in let b = h.0 in omega arith

pub spots_from : (a : List Spot) (n k m : ℕ) → n ≤ k → SpotsIn k a m → SpotsIn n a m
spots_from [] n k m l h = omega arith
spots_from (s ∷ a) n k m l h = let b = h.0 in (omega arith, h.1)

pub spots_append : (a b : List Spot) (n k m : ℕ) → SpotsIn n a k → SpotsIn k b m → SpotsIn n (a ++ b) m
spots_append [] b n k m h j = spots_from b n k m h j
spots_append (s ∷ a) b n k m h j = (h.0, spots_append a b (suc s.number) k m h.1 j)

pub spots_to : (a : List Spot) (n k m : ℕ) → k ≤ m → SpotsIn n a k → SpotsIn n a m
spots_to [] n k m l h = omega arith
spots_to (s ∷ a) n k m l h = (h.0, spots_to a (suc s.number) k m l h.1)

-- the first and the last of them
pub first_within : (a : List Spot) (n m z : ℕ) → SpotsIn n a m → n ≤ z → n ≤ first_spot a z
first_within [] n m z h l = l
first_within (s ∷ a) n m z h l = h.0

pub last_within : (a : List Spot) (n m z : ℕ) → SpotsIn n a m → z < m → last_spot a z < m
last_within [] n m z h l = l
last_within (s ∷ a) n m z h l = last_within a (suc s.number) m s.number h.1
    (let q = spots_le a (suc s.number) m h.1 in omega arith)

pub last_behind : (a : List Spot) (n m z : ℕ) → SpotsIn n a m → z ≤ n → z ≤ last_spot a z
last_behind [] n m z h l = omega arith
last_behind (s ∷ a) n m z h l =
    let q = last_behind a (suc s.number) m s.number h.1 (omega arith) in let b = h.0 in omega arith

pub core_some : {d : List Spot} {f : Forest} {y : List Leaf} → Spells Core (list d f) y →
    (k : Spot) × (ks : List Spot) × (d ≡ k ∷ ks)
core_some (grammar.core_char m) = (m, [], refl)
core_some (grammar.core_int m) = (m, [], refl)
core_some (grammar.core_length m) = (m, [], refl)
core_some (grammar.core_length_int m i) = (m, i ∷ [], refl)

pub base_some : {d : List Spot} {f : Forest} {y : List Leaf} → Spells Base (list d f) y →
    (k : Spot) × (ks : List Spot) × (d ≡ k ∷ ks)
base_some (grammar.base_word m) = (m, [], refl)
base_some (grammar.base_sign m) = (m, [], refl)
base_some (grammar.base_core h) = core_some h
base_some (grammar.base_sign_core m {a} h) = (m, a, refl)

-- the words of a type, one of which is its base
pub type_spots : (a d c : List Spot) (n k j m : ℕ) → SpotsIn n a k → SpotsIn k d j → SpotsIn j c m →
    (q : (x : Spot) × (xs : List Spot) × (d ≡ x ∷ xs)) → SpotsIn n (a ++ (d ++ c)) m ×
    ((x : Spot) × (xs : List Spot) × (a ++ (d ++ c) ≡ x ∷ xs))
type_spots a d c n k j m h i l q = (
  spots_append a (d ++ c) n k m h (spots_append d c k j m i l),
  some a,
)
  where
    some : (a : List Spot) → (x : Spot) × (xs : List Spot) × (a ++ (d ++ c) ≡ x ∷ xs)
    some [] = (q.0, q.1 ++ c, ap (λ z. z ++ c) q.2)
    some (s ∷ a) = (s, a ++ (d ++ c), refl)

pub some_first : (a : List Spot) (n m : ℕ) → SpotsIn n a m → (x : Spot) (xs : List Spot) → a ≡ x ∷ xs →
    (n ≤ first_spot a 0) × (last_spot a 0 < m) × (first_spot a 0 ≤ last_spot a 0)
some_first a n m h x xs e = subst (λ z. (n ≤ first_spot z 0) × (last_spot z 0 < m) × (first_spot z 0 ≤ last_spot z 0))
    (sym e) (by (subst (λ z. SpotsIn n z m) e h))
  where
    by : SpotsIn n (x ∷ xs) m → (n ≤ x.number) × (last_spot xs x.number < m) × (x.number ≤ last_spot xs x.number)
    by h = (
      h.0,
      last_within xs (suc x.number) m x.number h.1 (let q = spots_le xs (suc x.number) m h.1 in omega arith),
      last_behind xs (suc x.number) m x.number h.1 (omega arith),
    )

pub first_below : (a : List Spot) (n m z : ℕ) → SpotsIn n a m → m ≤ z → first_spot a z ≤ z
first_below [] n m z h l = omega arith
first_below (s ∷ a) n m z h l = let q = spots_le a (suc s.number) m h.1 in omega arith

pub spot_pair : (a : List Spot) (n m z : ℕ) → SpotsIn n a m → m ≤ z → first_spot a z ≤ last_spot a z
spot_pair [] n m z h l = omega arith
spot_pair (s ∷ a) n m z h l = let q = last_behind a (suc s.number) m s.number h.1 (omega arith) in omega arith
