-- The nodes of a tree that tokens spell stand in the order of the tokens: each part behind the one before it.
use Rattle.std.proofs.Common.{◌≡◌, ℕ, suc, ◌+◌, ◌≤◌, ◌<◌, List, [], ◌∷◌, ◌++◌, length, refl, subst, arith}
use Rattle.cl_token.specs.declared.token.Token.{Token}
use Rattle.cl_tree.specs.declared.terminal.Leaf.{Leaf}
use Rattle.cl_tree.specs.declared.terminal.Terminal.TheVariants as terminals
use Rattle.cl_tree.specs.Leaves.{leaves_of}
use Rattle.cl_tree.specs.Syntax.{Syntax, node, Forest, none, more, joined, first_of, last_of, first_in, last_in}
use Rattle.cl_tree.specs.Nodes.{Spot, tok, first_spot, last_spot, forest1, params_node}
use Rattle.cl_meaning.specs.Declarations.{parts_of}
use Rattle.cl_tree.specs.Grammar as grammar
use Rattle.cl_tree.specs.Grammar.{Spells, SpellsUnit, Value, one, list, Base, Core}
use Rattle.cl_short_vec_faults.proofs.Spots.{SpotsIn, spots_le, spots_from, spots_append, spots_to, first_within}
use Rattle.cl_short_vec_faults.proofs.Spots.{last_within, last_behind}
use Rattle.cl_short_vec_faults.proofs.Spots.{base_some, type_spots, some_first, first_below, spot_pair}

-- ---- numbers of tokens

-- the tokens have the numbers from n on, up to m
abbrev pub From : ℕ → List Leaf → ℕ → Type 0
From n [] m = n ≡ m
From n (l ∷ ls) m = (l.number ≡ n) × From (suc n) ls m

pub from_split : (x y : List Leaf) (n m : ℕ) → From n (x ++ y) m → (k : ℕ) × From n x k × From k y m
from_split [] y n m h = (n, refl, h)
from_split (l ∷ x) y n m h = let q = from_split x y (suc n) m h.1 in (q.0, (h.0, q.1), q.2)

pub from_le : (x : List Leaf) (n m : ℕ) → From n x m → n ≤ m
from_le [] n m h = omega arith
from_le (l ∷ x) n m h = let q = from_le x (suc n) m h.1 in omega arith

-- ---- trees

abbrev mutual
  -- each part of a node stands behind the one before it, and in the node
  pub Ordered : Syntax → Type 0
  Ordered (node form w f l parts) = OrderedBy parts f l

  pub OrderedBy : Forest → (first last : ℕ) → Type 0
  OrderedBy none f l = f ≤ l
  OrderedBy (more p ps) f l = (f ≤ first_of p) × Ordered p × OrderedIn (suc (last_of p)) ps (suc l)

  pub OrderedIn : ℕ → Forest → ℕ → Type 0
  OrderedIn n none m = n ≤ m
  OrderedIn n (more p ps) m = (n ≤ first_of p) × Ordered p × OrderedIn (suc (last_of p)) ps m

mutual
  pub ordered_le : (t : Syntax) → Ordered t → first_of t ≤ last_of t
  ordered_le (node form w f l none) h = h
  ordered_le (node form w f l (more p ps)) h = let a = ordered_le p h.1 in let c = h.0 in
      let b = ordered_in_le ps (suc (last_of p)) (suc l) h.2 in omega arith

  pub ordered_in_le : (ts : Forest) (n m : ℕ) → OrderedIn n ts m → n ≤ m
  ordered_in_le none n m h = h
  ordered_in_le (more p ps) n m h =
      let a = ordered_le p h.1 in let b = ordered_in_le ps (suc (last_of p)) m h.2 in let c = h.0 in omega arith

pub in_from : (ts : Forest) (n k m : ℕ) → n ≤ k → OrderedIn k ts m → OrderedIn n ts m
in_from none n k m l h = omega arith
in_from (more p ps) n k m l h = let a = h.0 in (omega arith, h.1, h.2)

pub in_to : (ts : Forest) (n k m : ℕ) → k ≤ m → OrderedIn n ts k → OrderedIn n ts m
in_to none n k m l h = omega arith
in_to (more p ps) n k m l h = (h.0, h.1, in_to ps (suc (last_of p)) k m l h.2)

in_joined : (ts us : Forest) (n k m : ℕ) → OrderedIn n ts k → OrderedIn k us m → OrderedIn n (joined ts us) m
in_joined none us n k m h j = in_from us n k m h j
in_joined (more p ps) us n k m h j = (h.0, h.1, in_joined ps us (suc (last_of p)) k m h.2 j)

-- ---- what tokens spell

-- a tree stands where its tokens do, and so do lists of trees and the tokens between them
abbrev Spans : ℕ → Value → ℕ → Type 0
Spans n (one t) m = (n ≤ first_of t) × (last_of t < m) × Ordered t
Spans n (list a ts) m = SpotsIn n a m × OrderedIn n ts m

-- all but the unit itself
abbrev pub Inner : grammar.Sort → Type 0
Inner grammar.Source = ⊥
Inner (grammar.Maybe s) = Inner s
Inner (grammar.Many s) = Inner s
Inner (grammar.Just s) = Inner s
Inner (grammar.Comma s) = Inner s
Inner s = Unit {0}

one_part : (t : Syntax) (n m : ℕ) → Spans n (one t) m → OrderedIn n (more t none) m
one_part t n m h = (h.0, h.2, h.1)

two_parts : (a b : Syntax) (n k j m : ℕ) → k ≤ j → Spans n (one a) k → Spans j (one b) m →
    OrderedIn n (more a (more b none)) m
two_parts a b n k j m l h i = let x = h.1 in let y = i.0 in (h.0, h.2, (omega arith, i.2, i.1))

three_parts : (a b c : Syntax) (n k j i h m : ℕ) → k ≤ j → i ≤ h → Spans n (one a) k → Spans j (one b) i →
    Spans h (one c) m → OrderedIn n (more a (more b (more c none))) m
three_parts a b c n k j i h m l q x y z =
    let d = x.1 in let e = y.0 in (x.0, x.2, (omega arith, y.2, (let u = y.1 in let v = z.0 in omega arith, z.2, z.1)))

-- in a node that begins with its first part and ends with its last one
pair_ordered : (a b : Syntax) (n k j m : ℕ) → k ≤ j → Spans n (one a) k → Spans j (one b) m →
    OrderedIn (first_of a) (more a (more b none)) (suc (last_of b))
pair_ordered a b n k j m l h i =
    let x = h.1 in let y = i.0 in (omega arith, h.2, (omega arith, i.2, omega arith))

-- a node whose parts may be none, or are some behind others
by_forest : (ts : Forest) (f l : ℕ) → f ≤ l → OrderedIn f ts (suc l) → OrderedBy ts f l
by_forest none f l a h = a
by_forest (more p ps) f l a h = h

by_joined : (hs : Forest) (r : Syntax) (rs : Forest) (f l : ℕ) →
    OrderedIn f (joined hs (more r rs)) (suc l) → OrderedBy (joined hs (more r rs)) f l
by_joined none r rs f l h = h
by_joined (more p ps) r rs f l h = h

first_in_below : (ts : Forest) (n k z : ℕ) → OrderedIn n ts k → k ≤ z → first_in ts z ≤ z
first_in_below none n k z h l = omega arith
first_in_below (more p ps) n k z h l =
    let a = ordered_le p h.1 in let b = ordered_in_le ps (suc (last_of p)) k h.2 in omega arith

first_in_within : (ts : Forest) (n m z : ℕ) → OrderedIn n ts m → n ≤ z → n ≤ first_in ts z
first_in_within none n m z h l = l
first_in_within (more p ps) n m z h l = h.0

pub last_in_within : (ts : Forest) (n m z : ℕ) → OrderedIn n ts m → z < m → last_in ts z < m
last_in_within none n m z h l = l
last_in_within (more p ps) n m z h l = last_in_within ps (suc (last_of p)) m (last_of p) h.2
    (let q = ordered_in_le ps (suc (last_of p)) m h.2 in omega arith)

-- trees stand between the first of them and the last one
last_tight : (p : Syntax) (ps : Forest) (n m : ℕ) → OrderedIn n (more p ps) m →
    OrderedIn (first_of p) (more p ps) (suc (last_in ps (last_of p)))
last_tight p none n m h = (omega arith, h.1, omega arith)
last_tight p (more q qs) n m h =
    let r = last_tight q qs (suc (last_of p)) m h.2 in let a = h.2.0 in (omega arith, h.1, (a, r.1, r.2))

joined_tight : (hs : Forest) (r : Syntax) (rs : Forest) (n m : ℕ) → OrderedIn n (joined hs (more r rs)) m →
    OrderedIn (first_in hs (first_of r)) (joined hs (more r rs)) m
joined_tight none r rs n m h = (omega arith, h.1, h.2)
joined_tight (more p ps) r rs n m h = (omega arith, h.1, h.2)

-- brackets end with the last of them
brackets_end : {a : List Spot} {ds : Forest} {y : List Leaf} →
    Spells (grammar.Many grammar.Dimension) (list a ds) y → (n m z : ℕ) → From n y m → suc z ≡ n →
    suc (last_spot a z) ≡ m
brackets_end grammar.many_end n m z f e = omega arith
brackets_end (grammar.many_more {x = x} (grammar.dimension o {x = u} h c) {b = b} {y = y} k) n m z f e =
    let q = from_split x y n m f in
    let r = from_split u (tok terminals.CloseBracket c ∷ []) (suc n) q.0 q.1.1 in
    let g = r.2.0 in
    let j = r.2.1 in
    brackets_end k q.0 m c.number q.2 (omega arith)

params_span : (own : List Spot) (ts : Forest) (n k : ℕ) (c : Spot) → SpotsIn n own k → OrderedIn n ts k →
    c.number ≡ k → Spans n (one (params_node own ts c)) (suc k)
params_span own ts n k c h i e = (
  first_in_within ts n k (first_spot own c.number) i
      (first_within own n k c.number h (let q = spots_le own n k h in omega arith)),
  last_in_within ts n (suc k) (last_spot own c.number) (in_to ts n k (suc k) (omega arith) i)
      (last_within own n (suc k) c.number (spots_to own n k (suc k) (omega arith) h) (omega arith)),
  by ts i,
)
  where
    by : (ts : Forest) → OrderedIn n ts k → Ordered (params_node own ts c)
    by none i = spot_pair own n k c.number h (omega arith)
    by (more p ps) i = last_tight p ps n k i

-- the parts of a node between two tokens of its own
within_ordered : (ts : Forest) (n k a b : ℕ) → a ≤ n → k ≤ suc b → OrderedIn n ts k → OrderedIn a ts (suc b)
within_ordered ts n k a b l j h = in_to ts a k (suc b) j (in_from ts a n k l h)

-- what stands behind the star and the name of a declarator
stars_first : (ss ds : Forest) (n k z m : ℕ) → z ≡ k → OrderedIn n ss k → OrderedIn (suc k) ds m →
    OrderedIn (first_in ss z) (joined ss ds) m
stars_first none ds n k z m e h i = in_from ds z (suc k) m (omega arith) i
stars_first (more p ps) ds n k z m e h i =
    (omega arith, h.1, in_joined ps ds (suc (last_of p)) k m h.2 (in_from ds k (suc k) m (omega arith) i))

-- a statement that begins with what may stand in it
optional_first : (ts : Forest) (n k z : ℕ) → z ≡ k → OrderedIn n ts k → OrderedIn (first_in ts z) ts (suc z)
optional_first none n k z e h = omega arith
optional_first (more p ps) n k z e h = (omega arith, h.1, in_to ps (suc (last_of p)) k (suc z) (omega arith) h.2)

-- two parts behind a token, of which the last one ends the node
ended : (a b : Syntax) (z n k j m : ℕ) → z ≤ n → k ≤ j → Spans n (one a) k → Spans j (one b) m →
    OrderedIn z (more a (more b none)) (suc (last_of b))
ended a b z n k j m l h A B =
    let t = two_parts a b n k j m h A B in let c = t.0 in (omega arith, t.1, (t.2.0, t.2.1, omega arith))

pair_spans : (a b : Syntax) (n k j m : ℕ) → k ≤ j → Spans n (one a) k → Spans j (one b) m → (n ≤ first_of a) ×
    (last_of b < m) × OrderedIn (first_of a) (more a (more b none)) (suc (last_of b))
pair_spans a b n k j m l A B = (A.0, B.1, pair_ordered a b n k j m l A B)

pub spans : {s : grammar.Sort} {v : Value} {x : List Leaf} → Spells s v x → Inner s → (n m : ℕ) → From n x m →
    Spans n v m
spans grammar.maybe_none i n m f = (omega arith, omega arith)
spans (grammar.maybe_some {t = t} {x = x} h) i n m f = (from_le x n m f, one_part t n m (spans h i n m f))
spans grammar.many_end i n m f = (omega arith, omega arith)
spans (grammar.many_more {a = a} {ts = ts} {x = x} h {b = b} {us = us} {y = y} k) i n m f =
    let q = from_split x y n m f in
    let c = spans h i n q.0 q.1 in
    let d = spans k i q.0 m q.2 in
    (spots_append a b n q.0 m c.0 d.0, in_joined ts us n q.0 m c.1 d.1)
spans (grammar.just {t = t} {x = x} h) i n m f = (from_le x n m f, one_part t n m (spans h i n m f))
spans (grammar.comma k {t = t} {x = x} h) i n m f =
    let e = f.0 in
    let l = from_le x (suc n) m f.1 in (
      (omega arith, omega arith),
      in_from (more t none) n (suc n) m (omega arith) (one_part t (suc n) m
          (spans h i (suc n) m f.1)),
    )
spans (grammar.unit h) i n m f = absurd i
spans (grammar.item_declare h) i n m f = spans h tt n m f
spans (grammar.function {heads = hs} {x = x} hh {r = r} {y = y} hr k o {own = own} {ts = ts} {z = z} hp c {b = b}
    {w = w} hb) i n m f =
    let q = from_split x _ n m f in
    let u = from_split y _ q.0 m q.2 in
    let e = u.2.0 in
    let v = from_split z (tok terminals.Close c ∷ w) (suc (suc u.0)) m u.2.1.1 in
    let H = spans hh tt n q.0 q.1 in
    let R = spans hr tt q.0 u.0 u.1 in
    let A = spans hp tt (suc (suc u.0)) v.0 v.1 in
    let P = params_span own ts (suc (suc u.0)) v.0 c A.0 A.1 v.2.0 in
    let B = spans hb tt (suc v.0) m v.2.1 in
    let t = three_parts r (params_node own ts c) b q.0 u.0 (suc (suc u.0)) (suc v.0) (suc v.0) m (omega arith)
    (omega arith) R P B in (
      first_in_within hs n q.0 (first_of r) H.1 (let a = from_le x n q.0 q.1 in let d = R.0 in omega arith),
      B.1,
      by_joined hs r (more (params_node own ts c) (more b none)) (first_in hs (first_of r)) (last_of b)
          (joined_tight hs r (more (params_node own ts c) (more b none)) n (suc (last_of b)) (in_joined hs (more r
          (more (params_node own ts c) (more b none))) n q.0 (suc (last_of b)) H.1
          (t.0, t.1, (t.2.0, t.2.1, (t.2.2.0, t.2.2.1, omega arith))))),
    )
spans (grammar.prototype {heads = hs} {x = x} hh {r = r} {y = y} hr k o {own = own} {ts = ts} {z = z} hp c d) i n m
    f =
    let q = from_split x _ n m f in
    let u = from_split y _ q.0 m q.2 in
    let v = from_split z (tok terminals.Close c ∷ tok terminals.Semicolon d ∷ []) (suc (suc u.0)) m u.2.1.1 in
    let H = spans hh tt n q.0 q.1 in
    let R = spans hr tt q.0 u.0 u.1 in
    let A = spans hp tt (suc (suc u.0)) v.0 v.1 in
    let P = params_span own ts (suc (suc u.0)) v.0 c A.0 A.1 v.2.0 in
    let e = v.2.1.0 in
    let g = v.2.1.1 in
    let t = two_parts r (params_node own ts c) q.0 u.0 (suc (suc u.0)) (suc d.number) (omega arith) R
    (P.0, (let a = P.1 in omega arith), P.2) in (
      first_in_within hs n q.0 (first_of r) H.1 (let a = from_le x n q.0 q.1 in let b = R.0 in omega arith),
      omega arith,
      by_joined hs r (more (params_node own ts c) none) (first_in hs (first_of r)) d.number
          (joined_tight hs r (more (params_node own ts c) none) n (suc d.number)
          (in_joined hs (more r (more (params_node own ts c) none)) n q.0 (suc d.number) H.1 t)),
    )
spans (grammar.head_word k) i n m f = let e = f.0 in let g = f.1 in (omega arith, omega arith, omega arith)
spans (grammar.head_attribute {t = t} h) i n m f =
    let A = spans h tt n m f in (A.0, A.1, (omega arith, A.2, omega arith))
spans (grammar.attribute w o p k q {a = a} {x = x} ha j {b = b} {y = y} hb l {c = c} {z = z} hc e g d) i n m f =
    let r = from_split x _ (suc (suc (suc (suc (suc n))))) m f.1.1.1.1.1 in
    let u = from_split y _ (suc r.0) m r.2.1 in
    let v = from_split z _ (suc u.0) m u.2.1 in
    let A = spans ha tt (suc (suc (suc (suc (suc n))))) r.0 r.1 in
    let B = spans hb tt (suc r.0) u.0 u.1 in
    let C = spans hc tt (suc u.0) v.0 v.1 in
    let e0 = f.0 in
    let e1 = v.2.0 in
    let e2 = v.2.1.0 in
    let e3 = v.2.1.1.0 in
    let e4 = v.2.1.1.1 in
    let t = three_parts a b c (suc (suc (suc (suc (suc n))))) r.0 (suc r.0) u.0 (suc u.0) v.0 (omega arith)
    (omega arith) A B C in (
      omega arith,
      omega arith,
      in_to (more a (more b (more c none))) w.number v.0 (suc d.number) (omega arith)
          (in_from (more a (more b (more c none))) w.number (suc (suc (suc (suc (suc n))))) v.0 (omega arith) t),
    )
spans (grammar.result_void k) i n m f = let e = f.0 in let g = f.1 in (omega arith, omega arith, omega arith)
spans (grammar.result {t = t} h) i n m f =
    let A = spans h tt n m f in (A.0, A.1, (omega arith, A.2, omega arith))
spans grammar.params_none i n m f = (omega arith, omega arith)
spans (grammar.params_void k) i n m f = let e = f.0 in let g = f.1 in ((omega arith, omega arith), omega arith)
spans (grammar.params {t = t} {x = x} h {a = a} {ts = ts} {y = y} k) i n m f =
    let q = from_split x y n m f in
    let T = spans h tt n q.0 q.1 in
    let S = spans k tt q.0 m q.2 in
    let l = from_le x n q.0 q.1 in (
      spots_from a n q.0 m (omega arith) S.0,
      (T.0, T.2, in_from ts (suc (last_of t)) q.0 m (let b = T.1 in omega arith) S.1),
    )
spans (grammar.param {t = t} {x = x} h {ss = ss} {y = y} k o) i n m f =
    let q = from_split x _ n m f in
    let u = from_split y _ q.0 m q.2 in
    let T = spans h tt n q.0 q.1 in
    let S = spans k tt q.0 u.0 u.1 in
    let e = u.2.0 in
    let g = u.2.1 in (
      T.0,
      omega arith,
      (
        omega arith,
        T.2,
        in_to ss (suc (last_of t)) u.0 (suc o.number) (omega arith)
            (in_from ss (suc (last_of t)) q.0 u.0 (let b = T.1 in omega arith) S.1),
      ),
    )
spans (grammar.type_plain {a = a} {x = x} ha {d = d} {y = y} hd {c = c} {z = z} hc) i n m f =
    let q = from_split x _ n m f in
    let u = from_split y z q.0 m q.2 in
    let A = spans ha tt n q.0 q.1 in
    let D = spans hd tt q.0 u.0 u.1 in
    let C = spans hc tt u.0 m u.2 in
    let t = type_spots a d c n q.0 u.0 m A.0 D.0 C.0 (base_some hd) in
    let r = some_first (a ++ (d ++ c)) n m t.0 t.1.0 t.1.1 t.1.2 in
    let b = r.2 in
    (r.0, r.1, omega arith)
spans (grammar.type_front {a = a} {x = x} ha {s = s} {u = y} hs {b = b} {v = z} hb {d = d} {y = w} hd {c = c} {z = v}
    hc) i n m f =
    let q = from_split x _ n m f in
    let r = from_split y _ q.0 m q.2 in
    let t = from_split z _ r.0 m r.2 in
    let u = from_split w v t.0 m t.2 in
    let A = spans ha tt n q.0 q.1 in
    let S = spans hs tt q.0 r.0 r.1 in
    let B = spans hb tt r.0 t.0 t.1 in
    let D = spans hd tt t.0 u.0 u.1 in
    let C = spans hc tt u.0 m u.2 in
    let bs = base_some hd in
    let sf = some_first d t.0 u.0 D.0 bs.0 bs.1 bs.2 in
    let lb = last_behind c u.0 m (last_spot d 0) C.0 (let j = sf.1 in omega arith) in
    let fb = first_below a n q.0 (first_of s) A.0 S.0 in
    let o1 = sf.0 in
    let o2 = sf.2 in
    let o3 = S.1 in
    let o4 = from_le z r.0 t.0 t.1 in (
      first_within a n q.0 (first_of s) A.0 (let j = from_le x n q.0 q.1 in let k = S.0 in omega arith),
      last_within c u.0 m (last_spot d 0) C.0 (let j = sf.1 in let k = from_le v u.0 m u.2 in omega arith),
      (fb, S.2, omega arith),
    )
spans (grammar.type_behind {a = a} {x = x} ha {d = d} {y = y} hd {b = b} {v = z} hb {s = s} {u = w} hs {c = c} {z = v}
    hc) i n m f =
    let q = from_split x _ n m f in
    let r = from_split y _ q.0 m q.2 in
    let t = from_split z _ r.0 m r.2 in
    let u = from_split w v t.0 m t.2 in
    let A = spans ha tt n q.0 q.1 in
    let D = spans hd tt q.0 r.0 r.1 in
    let B = spans hb tt r.0 t.0 t.1 in
    let S = spans hs tt t.0 u.0 u.1 in
    let C = spans hc tt u.0 m u.2 in
    let bs = base_some hd in
    let sf = some_first d q.0 r.0 D.0 bs.0 bs.1 bs.2 in
    let lb = last_behind c u.0 m (last_of s) C.0 (let j = S.1 in omega arith) in
    let fb = first_below a n q.0 (first_spot d 0) A.0 sf.0 in
    let o1 = sf.1 in
    let o2 = sf.2 in
    let o3 = S.0 in
    let o4 = from_le z r.0 t.0 t.1 in (
      first_within a n q.0 (first_spot d 0) A.0 (let j = from_le x n q.0 q.1 in let k = sf.0 in omega arith),
      last_within c u.0 m (last_of s) C.0 (let j = S.1 in let k = from_le v u.0 m u.2 in omega arith),
      (omega arith, S.2, omega arith),
    )
spans (grammar.qualifier j k e) i n m f = let a = f.0 in let g = f.1 in ((omega arith, omega arith), omega arith)
spans (grammar.space k) i n m f = let e = f.0 in let g = f.1 in (omega arith, omega arith, omega arith)
spans (grammar.base_word k) i n m f = let e = f.0 in let g = f.1 in ((omega arith, omega arith), omega arith)
spans (grammar.base_sign k) i n m f = let e = f.0 in let g = f.1 in ((omega arith, omega arith), omega arith)
spans (grammar.base_core h) i n m f = spans h tt n m f
spans (grammar.base_sign_core k {a = a} {x = x} h) i n m f =
    let A = spans h tt (suc n) m f.1 in
    let e = f.0 in
    let l = A.1 in
    ((omega arith, spots_from a (suc k.number) (suc n) m (omega arith) A.0), omega arith)
spans (grammar.core_char k) i n m f = let e = f.0 in let g = f.1 in ((omega arith, omega arith), omega arith)
spans (grammar.core_int k) i n m f = let e = f.0 in let g = f.1 in ((omega arith, omega arith), omega arith)
spans (grammar.core_length k) i n m f = let e = f.0 in let g = f.1 in ((omega arith, omega arith), omega arith)
spans (grammar.core_length_int k o) i n m f =
    let e = f.0 in let g = f.1.0 in let j = f.1.1 in ((omega arith, (omega arith, omega arith)), omega arith)
spans (grammar.star o {a = a} {x = x} h) i n m f =
    let A = spans h tt (suc n) m f.1 in
    let e = f.0 in
    let l = from_le x (suc n) m f.1 in
    let b = last_behind a (suc n) m o.number A.0 (omega arith) in
    (omega arith, last_within a (suc n) m o.number A.0 (omega arith), omega arith)
spans (grammar.declare {t = t} {x = x} h {d = d} {y = y} j {a = a} {ds = ds} {z = z} k s) i n m f =
    let q = from_split x _ n m f in
    let u = from_split y _ q.0 m q.2 in
    let v = from_split z _ u.0 m u.2 in
    let T = spans h tt n q.0 q.1 in
    let D = spans j tt q.0 u.0 u.1 in
    let S = spans k tt u.0 v.0 v.1 in
    let e = v.2.0 in
    let g = v.2.1 in
    let b = T.1 in
    let c = D.0 in
    let o = D.1 in (
      T.0,
      omega arith,
      (
        omega arith,
        T.2,
        (
          omega arith,
          D.2,
          within_ordered ds u.0 v.0 (suc (last_of d)) s.number (omega arith) (omega arith) S.1,
        ),
      ),
    )
spans (grammar.declarator {ss = ss} {x = x} h k {a = a} {ds = ds} {y = y} j) i n m f =
    let q = from_split x _ n m f in
    let H = spans h tt n q.0 q.1 in
    let e = q.2.0 in
    let D = spans j tt (suc q.0) m q.2.1 in
    let z = brackets_end j (suc q.0) m k.number q.2.1 (omega arith) in
    let g = from_le y (suc q.0) m q.2.1 in
    let l = from_le x n q.0 q.1 in (
      first_in_within ss n q.0 k.number H.1 (omega arith),
      omega arith,
      by_forest (joined ss ds) (first_in ss k.number) (last_spot a k.number)
          (let b = first_in_below ss n q.0 k.number H.1 (omega arith) in omega arith)
          (stars_first ss ds n q.0 k.number (suc (last_spot a k.number)) e
          H.1 (in_to ds (suc q.0) m (suc (last_spot a k.number)) (omega arith) D.1)),
    )
spans (grammar.declarator_set {ss = ss} {x = x} h k {a = a} {ds = ds} {y = y} j e {i = t} {z = z} g) i n m f =
    let q = from_split x _ n m f in
    let u = from_split y _ (suc q.0) m q.2.1 in
    let H = spans h tt n q.0 q.1 in
    let e0 = q.2.0 in
    let D = spans j tt (suc q.0) u.0 u.1 in
    let T = spans g tt (suc u.0) m u.2.1 in
    let l = from_le x n q.0 q.1 in (
      first_in_within ss n q.0 k.number H.1 (omega arith),
      T.1,
      by_forest (joined ss (joined ds (forest1 t))) (first_in ss k.number) (last_of t)
          (let b = first_in_below ss n q.0 k.number H.1 (omega arith) in let c = ordered_le t T.2 in let d = T.0 in
          let j = from_le y (suc q.0) u.0 u.1 in omega arith)
          (stars_first ss (joined ds (forest1 t)) n q.0 k.number (suc (last_of t)) e0 H.1
          (in_joined ds (forest1 t) (suc q.0) u.0 (suc (last_of t)) D.1 (
            (let b = T.0 in omega arith),
            T.2,
            omega
                arith,
          ))),
    )
spans (grammar.dimension o {ts = ts} {x = x} h c) i n m f =
    let q = from_split x _ (suc n) m f.1 in
    let A = spans h tt (suc n) q.0 q.1 in
    let e = f.0 in
    let g = q.2.0 in
    let j = q.2.1 in
    let l = from_le x (suc n) q.0 q.1 in (
      (omega arith, (omega arith, omega arith)),
      in_from ts n (suc n) m (omega arith)
          (in_to ts (suc n) q.0 m (omega arith) A.1),
    )
spans (grammar.init_assign h) i n m f = spans h tt n m f
spans (grammar.init_list h) i n m f = spans h tt n m f
spans (grammar.initializers o {t = t} {x = x} h {a = a} {ts = ts} {y = y} k c) i n m f =
    let q = from_split x _ (suc n) m f.1 in
    let u = from_split y _ q.0 m q.2 in
    let T = spans h tt (suc n) q.0 q.1 in
    let S = spans k tt q.0 u.0 u.1 in
    let e = f.0 in
    let g = u.2.0 in
    let j = u.2.1 in
    let b = T.0 in
    let d = T.1 in (
      omega arith,
      omega arith,
      (
        omega arith,
        T.2,
        within_ordered ts q.0 u.0 (suc (last_of t)) c.number (omega arith) (omega arith) S.1,
      ),
    )
spans grammar.elements_end i n m f = (omega arith, omega arith)
spans (grammar.elements_comma k) i n m f = let e = f.0 in let g = f.1 in ((omega arith, omega arith), omega arith)
spans (grammar.elements_more k {t = t} {x = x} h {a = a} {ts = ts} {y = y} j) i n m f =
    let q = from_split x y (suc n) m f.1 in
    let T = spans h tt (suc n) q.0 q.1 in
    let S = spans j tt q.0 m q.2 in
    let e = f.0 in
    let l = from_le x (suc n) q.0 q.1 in
    let b = T.0 in
    let d = T.1 in (
      (omega arith, spots_from a (suc k.number) q.0 m (omega arith) S.0),
      (omega arith, T.2, in_from ts (suc (last_of t)) q.0 m (omega arith) S.1),
    )
spans (grammar.block o {ts = ts} {x = x} h c) i n m f =
    let q = from_split x _ (suc n) m f.1 in
    let A = spans h tt (suc n) q.0 q.1 in
    let e = f.0 in
    let g = q.2.0 in
    let j = q.2.1 in
    let l = from_le x (suc n) q.0 q.1 in (
      omega arith,
      omega arith,
      by_forest ts o.number c.number (omega arith)
          (within_ordered ts (suc n) q.0 o.number c.number (omega arith) (omega arith) A.1),
    )
spans (grammar.line_declare h) i n m f = spans h tt n m f
spans (grammar.line_statement h) i n m f = spans h tt n m f
spans (grammar.statement_block h) i n m f = spans h tt n m f
spans (grammar.statement_simple h) i n m f = spans h tt n m f
spans (grammar.simple {ts = ts} {x = x} h d) i n m f =
    let q = from_split x _ n m f in
    let A = spans h tt n q.0 q.1 in
    let e = q.2.0 in
    let g = q.2.1 in
    let l = from_le x n q.0 q.1 in (
      first_in_within ts n q.0 d.number A.1 (omega arith),
      omega arith,
      by_forest ts (first_in ts d.number) d.number
          (first_in_below ts n q.0 d.number A.1 (omega arith)) (optional_first ts n q.0 d.number e A.1),
    )
spans (grammar.if_short j o {e = t} {x = x} h c {s = b} {y = y} k) i n m f =
    let q = from_split x _ (suc (suc n)) m f.1.1 in
    let T = spans h tt (suc (suc n)) q.0 q.1 in
    let B = spans k tt (suc q.0) m q.2.1 in
    let e = f.0 in
    let l = B.0 in
    (omega arith, B.1, ended t b j.number (suc (suc n)) q.0 (suc q.0) m (omega arith) (omega arith) T B)
spans (grammar.if_long j o {e = t} {x = x} h c {s = b} {y = y} k cl d {u = w} {z = z} g) i n m f =
    let q = from_split x _ (suc (suc n)) m f.1.1 in
    let r = from_split y _ (suc q.0) m q.2.1 in
    let T = spans h tt (suc (suc n)) q.0 q.1 in
    let B = spans k tt (suc q.0) r.0 r.1 in
    let W = spans g tt (suc r.0) m r.2.1 in
    let e = f.0 in
    let t' = three_parts t b w (suc (suc n)) q.0 (suc q.0) r.0 (suc r.0) m (omega arith) (omega arith) T B W in
    let a = T.0 in
    (omega arith, W.1, (omega arith, t'.1, (t'.2.0, t'.2.1, (t'.2.2.0, t'.2.2.1, omega arith))))
spans (grammar.while w o {e = t} {x = x} h c {s = b} {y = y} k) i n m f =
    let q = from_split x _ (suc (suc n)) m f.1.1 in
    let T = spans h tt (suc (suc n)) q.0 q.1 in
    let B = spans k tt (suc q.0) m q.2.1 in
    let e = f.0 in
    (omega arith, B.1, ended t b w.number (suc (suc n)) q.0 (suc q.0) m (omega arith) (omega arith) T B)
spans (grammar.do_while d {s = b} {x = x} k w o {e = t} {y = y} h c j) i n m f =
    let q = from_split x _ (suc n) m f.1 in
    let r = from_split y _ (suc (suc q.0)) m q.2.1.1 in
    let B = spans k tt (suc n) q.0 q.1 in
    let T = spans h tt (suc (suc q.0)) r.0 r.1 in
    let e = f.0 in
    let g = r.2.0 in
    let u = r.2.1.0 in
    let v = r.2.1.1 in (
      omega arith,
      omega arith,
      within_ordered (more b (more t none)) (suc n) r.0 d.number j.number (omega arith)
          (omega arith) (two_parts b t (suc n) q.0 (suc (suc q.0)) r.0 (omega arith) B T),
    )
spans (grammar.for j o {d = d} {x = x} h {ts = ts} {y = y} k s' {us = us} {z = z} g c {b = b} {w = w} l) i n m f =
    let q = from_split x _ (suc (suc n)) m f.1.1 in
    let r = from_split y _ q.0 m q.2 in
    let u = from_split z _ (suc r.0) m r.2.1 in
    let D = spans h tt (suc (suc n)) q.0 q.1 in
    let T = spans k tt q.0 r.0 r.1 in
    let U = spans g tt (suc r.0) u.0 u.1 in
    let B = spans l tt (suc u.0) m u.2.1 in
    let e = f.0 in
    let a = D.0 in
    let v = D.1 in (
      omega arith,
      B.1,
      (
        omega arith,
        D.2,
        in_from (joined ts (joined us (forest1 b))) (suc (last_of d)) q.0
            (suc (last_of b)) (omega arith) (in_joined ts (joined us (forest1 b)) q.0 r.0 (suc (last_of b)) T.1
            (in_from (joined us (forest1 b)) r.0 (suc r.0) (suc (last_of b)) (omega arith)
            (in_joined us (forest1 b) (suc r.0) u.0 (suc (last_of b)) U.1
            ((let p = B.0 in omega arith), B.2, omega arith)))),
      ),
    )
spans (grammar.start_declare h) i n m f = spans h tt n m f
spans (grammar.start_simple h) i n m f = spans h tt n m f
spans (grammar.switch w o {e = t} {x = x} h c b {ts = ts} {y = y} k d) i n m f =
    let q = from_split x _ (suc (suc n)) m f.1.1 in
    let r = from_split y _ (suc (suc q.0)) m q.2.1.1 in
    let T = spans h tt (suc (suc n)) q.0 q.1 in
    let S = spans k tt (suc (suc q.0)) r.0 r.1 in
    let e = f.0 in
    let g = r.2.0 in
    let u = r.2.1 in
    let a = T.0 in
    let v = T.1 in (
      omega arith,
      omega arith,
      (
        omega arith,
        T.2,
        within_ordered ts (suc (suc q.0)) r.0 (suc (last_of t)) d.number
            (omega arith) (omega arith) S.1,
      ),
    )
spans (grammar.case w {e = t} {x = x} h c {s = b} {y = y} k) i n m f =
    let q = from_split x _ (suc n) m f.1 in
    let T = spans h tt (suc n) q.0 q.1 in
    let B = spans k tt (suc q.0) m q.2.1 in
    let e = f.0 in
    (omega arith, B.1, ended t b w.number (suc n) q.0 (suc q.0) m (omega arith) (omega arith) T B)
spans (grammar.default w c {s = b} {y = y} k) i n m f =
    let B = spans k tt (suc (suc n)) m f.1.1 in
    let e = f.0 in
    let a = B.0 in
    (omega arith, B.1, (omega arith, B.2, omega arith))
spans (grammar.break w d) i n m f =
    let e = f.0 in let g = f.1.0 in let j = f.1.1 in (omega arith, omega arith, omega arith)
spans (grammar.continue w d) i n m f =
    let e = f.0 in let g = f.1.0 in let j = f.1.1 in (omega arith, omega arith, omega arith)
spans (grammar.return w {ts = ts} {x = x} h d) i n m f =
    let q = from_split x _ (suc n) m f.1 in
    let A = spans h tt (suc n) q.0 q.1 in
    let e = f.0 in
    let g = q.2.0 in
    let j = q.2.1 in
    let l = from_le x (suc n) q.0 q.1 in (
      omega arith,
      omega arith,
      by_forest ts w.number d.number (omega arith)
          (within_ordered ts (suc n) q.0 w.number d.number (omega arith) (omega arith) A.1),
    )
spans (grammar.expr_assign h) i n m f = spans h tt n m f
spans (grammar.expr {l = a} {x = x} h k {r = b} {y = y} j) i n m f =
    let q = from_split x _ n m f in
    pair_spans a b n q.0 (suc q.0) m (omega arith) (spans h tt n q.0 q.1) (spans j tt (suc q.0) m q.2.1)
spans (grammar.assign_cond h) i n m f = spans h tt n m f
spans (grammar.assign {l = a} {x = x} h o k t {r = b} {y = y} j) i n m f =
    let q = from_split x _ n m f in
    pair_spans a b n q.0 (suc q.0) m (omega arith) (spans h tt n q.0 q.1) (spans j tt (suc q.0) m q.2.1)
spans (grammar.cond_level h) i n m f = spans h tt n m f
spans (grammar.cond {t = a} {x = x} h k {a = b} {y = y} j l {b = c} {z = z} g) i n m f =
    let q = from_split x _ n m f in
    let r = from_split y _ (suc q.0) m q.2.1 in
    let A = spans h tt n q.0 q.1 in
    let B = spans j tt (suc q.0) r.0 r.1 in
    let C = spans g tt (suc r.0) m r.2.1 in
    let t = three_parts a b c n q.0 (suc q.0) r.0 (suc r.0) m (omega arith) (omega arith) A B C in
    (A.0, C.1, (omega arith, t.1, (t.2.0, t.2.1, (t.2.2.0, t.2.2.1, omega arith))))
spans (grammar.level_cast h) i n m f = spans h tt n m f
spans (grammar.level_next h) i n m f = spans h tt n m f
spans (grammar.level {l = a} {x = x} h o k t {r = b} {y = y} j) i n m f =
    let q = from_split x _ n m f in
    pair_spans a b n q.0 (suc q.0) m (omega arith) (spans h tt n q.0 q.1) (spans j tt (suc q.0) m q.2.1)
spans (grammar.cast_unary h) i n m f = spans h tt n m f
spans (grammar.cast o {t = t} {x = x} h c {e = b} {y = y} k) i n m f =
    let q = from_split x _ (suc n) m f.1 in
    let T = spans h tt (suc n) q.0 q.1 in
    let B = spans k tt (suc q.0) m q.2.1 in
    let e = f.0 in
    (omega arith, B.1, ended t b o.number (suc n) q.0 (suc q.0) m (omega arith) (omega arith) T B)
spans (grammar.unary_postfix h) i n m f = spans h tt n m f
spans (grammar.unary_step k {t = t} h) i n m f =
    let T = spans h tt (suc n) m f.1 in
    let e = f.0 in
    let a = T.0 in
    (omega arith, T.1, (omega arith, T.2, omega arith))
spans (grammar.unary_prefix j k p {t = t} h) i n m f =
    let T = spans h tt (suc n) m f.1 in
    let e = f.0 in
    let a = T.0 in
    (omega arith, T.1, (omega arith, T.2, omega arith))
spans (grammar.unary_sizeof w o {t = t} {x = x} h c) i n m f =
    let q = from_split x _ (suc (suc n)) m f.1.1 in
    let T = spans h tt (suc (suc n)) q.0 q.1 in
    let e = f.0 in
    let g = q.2.0 in
    let j = q.2.1 in
    let a = T.0 in
    let b = T.1 in
    (omega arith, omega arith, (omega arith, T.2, omega arith))
spans (grammar.postfix_primary h) i n m f = spans h tt n m f
spans (grammar.index {l = a} {x = x} h o {e = b} {y = y} k c) i n m f =
    let q = from_split x _ n m f in
    let r = from_split y _ (suc q.0) m q.2.1 in
    let A = spans h tt n q.0 q.1 in
    let B = spans k tt (suc q.0) r.0 r.1 in
    let g = r.2.0 in
    let j = r.2.1 in
    let t = two_parts a b n q.0 (suc q.0) r.0 (omega arith) A B in
    (A.0, omega arith, (omega arith, t.1, (t.2.0, t.2.1, (let d = B.1 in omega arith))))
spans (grammar.step {l = a} {x = x} h k) i n m f =
    let q = from_split x _ n m f in
    let A = spans h tt n q.0 q.1 in
    let g = q.2.0 in
    let j = q.2.1 in
    (A.0, omega arith, (omega arith, A.2, (let d = A.1 in omega arith)))
spans (grammar.selection {l = a} {x = x} h d k) i n m f =
    let q = from_split x _ n m f in
    let A = spans h tt n q.0 q.1 in
    let g = q.2.1.0 in
    let j = q.2.1.1 in
    (A.0, omega arith, (omega arith, A.2, (let b = A.1 in omega arith)))
spans (grammar.number k) i n m f = let e = f.0 in let g = f.1 in (omega arith, omega arith, omega arith)
spans (grammar.truth k) i n m f = let e = f.0 in let g = f.1 in (omega arith, omega arith, omega arith)
spans (grammar.variable k) i n m f = let e = f.0 in let g = f.1 in (omega arith, omega arith, omega arith)
spans (grammar.call_none k o c) i n m f =
    let e = f.0 in let g = f.1.1.0 in let j = f.1.1.1 in (omega arith, omega arith, omega arith)
spans (grammar.call k o {t = t} {x = x} h {a = a} {ts = ts} {y = y} l c) i n m f =
    let q = from_split x _ (suc (suc n)) m f.1.1 in
    let r = from_split y _ q.0 m q.2 in
    let T = spans h tt (suc (suc n)) q.0 q.1 in
    let S = spans l tt q.0 r.0 r.1 in
    let e = f.0 in
    let g = r.2.0 in
    let j = r.2.1 in
    let b = T.0 in
    let d = T.1 in (
      omega arith,
      omega arith,
      (
        omega arith,
        T.2,
        within_ordered ts q.0 r.0 (suc (last_of t)) c.number (omega arith) (omega arith) S.1,
      ),
    )
spans (grammar.paren o {t = t} {x = x} h c) i n m f =
    let q = from_split x _ (suc n) m f.1 in
    let T = spans h tt (suc n) q.0 q.1 in
    let e = f.0 in
    let g = q.2.0 in
    let j = q.2.1 in
    let a = T.0 in
    let b = T.1 in
    (omega arith, omega arith, (omega arith, T.2, omega arith))

-- ---- a unit

pub leaves_from : (tokens : List Token) (n : ℕ) → From n (leaves_of n tokens) (n + length tokens)
leaves_from [] n = omega arith
leaves_from (t ∷ tokens) n = (
  refl,
  subst (From (suc n) (leaves_of (suc n) tokens)) (let q : suc n + length tokens ≡ n + suc (length tokens) =
      omega arith in q) (leaves_from tokens (suc n)),
)

-- the items of a unit that tokens spell stand in the order of the tokens
pub unit_ordered : (unit : Syntax) (tokens : List Token) → SpellsUnit unit tokens →
    OrderedIn 0 (parts_of unit) (length tokens)
unit_ordered unit tokens (grammar.unit h) = (spans h tt 0 (length tokens) (subst (From 0 (leaves_of 0 tokens))
    (let q : 0 + length tokens ≡ length tokens = omega arith in q) (leaves_from tokens 0))).1
