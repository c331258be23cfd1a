-- The view of a tree and of trees.
use Rattle.std.proofs.Common.{◌≡◌, ℕ, suc, ◌+◌, ◌≤◌, max, min, List, [], ◌∷◌, ◌++◌, ap, sym, ◌∙◌, refl, arith}
use Rattle.cl_tree.specs.Syntax.{Syntax, node, more, view, view_step, views, joined, nesting, deepest, last_of, last_in}
use Rattle.std.proofs.Common.{◌<◌, ◌⊎◌, inl, inr, append_assoc, length, get_or, take, drop, drop-cons}
use Rattle.std.proofs.lemmas.List.{drop_all, length-take, length-map}
use Rattle.std.proofs.Math.Seq.{take-suc}
use Rattle.std.specs.Borrow.{Bor}
use Rattle.cl_tree.specs.declared.terminal.Leaf.{Leaf}
use Rattle.cl_read.specs.Gives.{spot_of, spots}
use Rattle.std.specs.Prelude.{nat_le}
use Rattle.std.proofs.lemmas.Bool.{cases_lt}
use Rattle.std.proofs.lemmas.Bool.Decides.{nat_tests}
use Rattle.cl_tree.specs.Nodes.{Spot, forest1, spelled}
use Rattle.cl_tree.specs.declared.tree.Tree.{Tree}
use Rattle.cl_tree.specs.declared.tree.Tree.TheOpen.{Tree-F}
use Rattle.cl_tree.specs.declared.tree.Tree.TheViews.{roll-Tree, out-Tree}
use Rattle.cl_tree.specs.declared.tree.Tree.TheFolds.{fold-roll-Tree, fold_out-Tree}

pub view_roll : (x : Tree-F Tree) → view (roll-Tree x) ≡ node x.form x.word x.first x.last (views x.parts.items)
view_roll = fold-roll-Tree Syntax view_step

pub view_out : (t : Tree) → view t ≡ node (out-Tree t).form (out-Tree t).word (out-Tree t).first (out-Tree t).last
    (views (out-Tree t).parts.items)
view_out = fold_out-Tree Syntax view_step

pub views_pushed : (ts : List Tree) (t : Tree) → views (ts ++ t ∷ []) ≡ joined (views ts) (forest1 (view t))
views_pushed [] t = refl
views_pushed (u ∷ ts) t = ap (more (view u)) (views_pushed ts t)

pub views_append : (ts us : List Tree) → views (ts ++ us) ≡ joined (views ts) (views us)
views_append [] us = refl
views_append (t ∷ ts) us = ap (more (view t)) (views_append ts us)

pub deepest_pushed : (ts : List Tree) (t : Tree) →
    deepest (views (ts ++ t ∷ [])) ≡ max (deepest (views ts)) (nesting (view t))
deepest_pushed [] t = omega arith
deepest_pushed (u ∷ ts) t = omega (arith, deepest_pushed ts t)

pub deepest_append : (ts us : List Tree) → deepest (views (ts ++ us)) ≡ max (deepest (views ts)) (deepest (views us))
deepest_append [] us = omega arith
deepest_append (t ∷ ts) us = omega (arith, deepest_append ts us)

-- ---- spellings

pub spelled_first : (ms : List Spot) (m : Spot) → ms ≡ [] → spelled (ms ++ (m ∷ [])) ≡ m.word
spelled_first [] m e = refl
spelled_first (n ∷ ms) m e = absurd cc

pub spelled_next : (n : Spot) (ms : List Spot) (m : Spot) →
    spelled ((n ∷ ms) ++ (m ∷ [])) ≡ (spelled (n ∷ ms) ++ (32 ∷ [])) ++ m.word
spelled_next n [] m = sym (append_assoc n.word (32 ∷ []) m.word)
spelled_next n (k ∷ ms) m =
    ap (λ l. n.word ++ (32 ∷ l)) (spelled_next k ms m) ∙
    sym (append_assoc n.word (32 ∷ (spelled (k ∷ ms) ++ (32 ∷ []))) m.word ∙ refl) ∙
    ap (λ l. l ++ m.word) (sym (append_assoc n.word (32 ∷ spelled (k ∷ ms)) (32 ∷ [])))

pub measured_le : (h n room : ℕ) → h ≡ min n 4294967295 → room < 4294967295 → nat_le h room ≡ nat_le n room
measured_le h n room e d = go (cases_lt room n)
  where
    go : (room < n) ⊎ (n ≤ room) → nat_le h room ≡ nat_le n room
    go (inl lt) = let a : room < h = omega arith in grind (arith, nat_tests)
    go (inr le) = let a : h ≡ n = omega arith in ap (λ k. nat_le k room) a

pub views_drop : (ts : List Tree) (i : ℕ) (t : Tree) → i < length ts → t ≡ get_or ts i t →
    views (drop i ts) ≡ more (view t) (views (drop (i + 1) ts))
views_drop ts i t h e =
    let one : suc i ≡ i + 1 = omega arith in
    ap views (drop-cons ts i t h) ∙ ap (λ (u : Tree). more (view u) (views (drop (suc i) ts))) (sym e) ∙
    ap (λ j. more (view t) (views (drop j ts))) one

pub last_drop : (ts : List Tree) (i : ℕ) (t : Tree) (n : ℕ) → i < length ts → t ≡ get_or ts i t →
    last_in (views (drop i ts)) n ≡ last_in (views (drop (i + 1) ts)) (last_of (view t))
last_drop ts i t n h e = ap (λ f. last_in f n) (views_drop ts i t h e)

pub last_end : (ts : List Tree) (i n : ℕ) → length ts ≤ i → last_in (views (drop i ts)) n ≡ n
last_end ts i n h = ap (λ (l : List Tree). last_in (views l) n) (drop_all i ts h)

pub spots_take : (i : ℕ) (bs : List (Bor Leaf)) (b : Bor Leaf) → i < length bs →
    spots (take (i + 1) bs) ≡ spots (take i bs) ++ (spot_of (get_or bs i b).now ∷ [])
spots_take i bs b h =
    let one : i + 1 ≡ suc i = omega arith in
    ap (λ j. spots (take j bs)) one ∙ ap spots (take-suc bs i b h) ∙ map_snoc (take i bs) (get_or bs i b)
  where
    map_snoc : (xs : List (Bor Leaf)) (y : Bor Leaf) → spots (xs ++ (y ∷ [])) ≡ spots xs ++ (spot_of y.now ∷ [])
    map_snoc [] y = refl
    map_snoc (x ∷ xs) y = ap (λ l. spot_of x.now ∷ l) (map_snoc xs y)

pub spelled_zero : (bs : List (Bor Leaf)) (b : Bor Leaf) (i : ℕ) → i < length bs → i ≡ 0 →
    spelled (spots (take (i + 1) bs)) ≡ (get_or bs i b).now.word
spelled_zero [] b i h e = absurd (omega arith)
spelled_zero (c ∷ bs) b i h e = let s : spots (take (i + 1) (c ∷ bs)) ≡ spot_of c.now ∷ [] =
    ap (λ j. spots (take (j + 1) (c ∷ bs))) e in
    ap spelled s ∙ ap (λ j. (get_or (c ∷ bs) j b).now.word) (sym e)

long_enough : (ms : List Spot) (m : Spot) → 0 < length ms → spelled (ms ++ (m ∷ [])) ≡ (spelled ms ++ (32 ∷ [])) ++
    m.word
long_enough [] m h = absurd (omega arith)
long_enough (n ∷ ms) m h = spelled_next n ms m

pub spelled_more : (bs : List (Bor Leaf)) (b : Bor Leaf) (i : ℕ) → i < length bs → 0 < i →
    spelled (spots (take (i + 1) bs)) ≡ (spelled (spots (take i bs)) ++ (32 ∷ [])) ++ (get_or bs i b).now.word
spelled_more bs b i h d =
    let l : length (spots (take i bs)) ≡ i =
    length-map (take i bs) (λ (b : Bor Leaf). spot_of b.now) ∙ omega (arith, length-take i bs) in
    ap spelled (spots_take i bs b h) ∙ long_enough (spots (take i bs)) (spot_of (get_or bs i b).now) (omega arith)

pub spots_append : (a b : List (Bor Leaf)) → spots (a ++ b) ≡ spots a ++ spots b
spots_append [] b = refl
spots_append (x ∷ a) b = ap (λ l. spot_of x.now ∷ l) (spots_append a b)
