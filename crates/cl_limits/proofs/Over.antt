-- What a capped count says of a limit.
use Rattle.std.proofs.Common.{◌≡◌, ℕ, zero, suc, ◌+◌, ◌≤◌, ◌<◌, min, Bool, true, false, nat_eq, nat_lt, List, [], ◌∷◌}
use Rattle.std.proofs.Common.{◌++◌, length, map, get_or, drop, append_assoc, refl, ap, sym, subst, ◌∙◌, ◌⊎◌, inl, inr}
use Rattle.std.proofs.Common.{arith, if◌then◌else◌}
use Rattle.std.specs.Prelude.{slice_get}
use Rattle.std.proofs.lemmas.Bool.{cases_lt}
use Rattle.std.proofs.lemmas.Bool.Decides.{nat_tests}
use Rattle.cl_tree.specs.declared.tree.Tree.{Tree}
use Rattle.cl_tree.specs.declared.tree.Tree.TheViews.{out-Tree}
use Rattle.cl_tree.specs.Syntax.{Syntax, Forest, more, view, views}
use Rattle.cl_meaning.proofs.Views.{view_out}
use Rattle.cl_meaning.specs.Faults.{Call}
use Rattle.cl_limits.specs.Limits.{count_nodes, called_sum, with_called, total, whole}
use Rattle.cl_limits.specs.Heights.{is_function}
use Rattle.cl_limits.specs.Kernel.{block_nodes, blocks_in, weights_of}
use Rattle.cl_limits.proofs.Lists.{chosen, not_chosen, capped_at, capped_length}
use Rattle.cl_limits.proofs.Onto.{views_dropped}
use Rattle.cl_limits.proofs.Summing.{own_there, own_absent}

pub above : (n x y cap : ℕ) → cap ≡ n + 1 → y ≡ min x cap → nat_lt n y ≡ nat_lt n x
above n x y cap d e = go (cases_lt n x)
  where
    go : (n < x) ⊎ (x ≤ n) → nat_lt n y ≡ nat_lt n x
    go (inl h) = let a : n < y = omega arith in grind (arith, nat_tests)
    go (inr h) = let a : y ≡ x = omega arith in ap (nat_lt n) a

chosen_both : (b : Bool) (x y cap : ℕ) → min x cap ≡ min y cap →
    min (if b then x else 0) cap ≡ min (if b then y else 0) cap
chosen_both true x y cap h = h
chosen_both false x y cap h = refl

sum_both : (p q r s cap : ℕ) → min p cap ≡ min q cap → min r cap ≡ min s cap → min (p + r) cap ≡ min (q + s) cap
sum_both p q r s cap h k = omega arith

called_both : (cap : ℕ) (g h : ℕ → ℕ) → ((k : ℕ) → min (g k) cap ≡ min (h k) cap) → (cs : List Call) (f : ℕ) →
    min (called_sum g cs f) cap ≡ min (called_sum h cs f) cap
called_both cap g h e [] f = refl
called_both cap g h e (c ∷ cs) f =
    sum_both (if nat_eq c.caller f then g c.called else 0) (if nat_eq c.caller f then h c.called else 0)
    (called_sum g cs f) (called_sum h cs f) cap
    (chosen_both (nat_eq c.caller f) (g c.called) (h c.called) cap (e c.called)) (called_both cap g h e cs f)

own_both : (w v o p s t cap most : ℕ) → cap ≤ most → w ≡ o + s → v ≡ p + t → o ≡ min p most → min s cap ≡ min t cap →
    min w cap ≡ min v cap
own_both w v o p s t cap most l e h k q = omega arith

total_capped : (n cap most : ℕ) (own : List ℕ) (calls : List Call) (f : ℕ) → cap ≤ most →
    min (total n (map (λ k. min k most) own) calls f) cap ≡ min (total n own calls f) cap
unfolding total
total_capped zero cap most own calls f l = refl
total_capped (suc n) cap most own calls f l = elim (cases_lt f (length own)) [
  | inl h ↦ own_both (with_called (slice_get (map (λ k. min k most) own) f)
      (called_sum (total n (map (λ k. min k most) own) calls) calls f))
      (with_called (slice_get own f) (called_sum (total n own calls) calls f))
      (get_or (map (λ k. min k most) own) f 0) (get_or own f 0)
      (called_sum (total n (map (λ k. min k most) own) calls) calls f) (called_sum (total n own calls) calls f)
      cap most l
      (own_there (map (λ k. min k most) own) f (called_sum (total n (map (λ k. min k most) own) calls) calls f)
      (subst (λ z. f < z) (sym (capped_length most own)) h))
      (own_there own f (called_sum (total n own calls) calls f) h)
      (capped_at most own f)
      (called_both cap (total n (map (λ k. min k most) own) calls) (total n own calls)
      (λ k. total_capped n cap most own calls k l) calls f)
  | inr h ↦ ap (λ z. min z cap) (own_absent (map (λ k. min k most) own) f
      (called_sum (total n (map (λ k. min k most) own) calls) calls f)
      (subst (λ z. z ≤ f) (sym (capped_length most own)) h)
      ∙ sym (own_absent own f (called_sum (total n own calls) calls f) h))
]

whole_capped : (cap most : ℕ) (own : List ℕ) (calls : List Call) (f : ℕ) → cap ≤ most →
    min (whole (map (λ k. min k most) own) calls f) cap ≡ min (whole own calls f) cap
whole_capped cap most own calls f l =
    ap (λ n. min (total n (map (λ k. min k most) own) calls f) cap) (capped_length most own) ∙
    total_capped (length own) cap most own calls f l

pub above_whole : (n cap most : ℕ) (own capped : List ℕ) (calls : List Call) (f v : ℕ) → cap ≡ n + 1 → cap ≤ most →
    capped ≡ map (λ k. min k most) own → v ≡ min (whole capped calls f) cap
    → nat_lt n v ≡ nat_lt n (whole own calls f)
above_whole n cap most own capped calls f v d l e h =
    above n (whole own calls f) v cap d (h ∙
    (ap (λ ws. min (whole ws calls f) cap) e ∙ whole_capped cap most own calls f l))

-- ---- the blocks of functions

pub last_block : (ts : List Tree) (n : ℕ) (t : Tree) → n + 1 ≡ length ts → t ≡ get_or ts n t →
    block_nodes (views ts) ≡ count_nodes (view t)
last_block [] n t h e = absurd (omega (arith, h))
last_block (x ∷ []) zero t h e = ap (λ u. count_nodes (view u)) (sym e)
last_block (x ∷ []) (suc n) t h e = absurd (omega (arith, h))
last_block (x ∷ (y ∷ ts)) zero t h e = absurd (omega (arith, h))
last_block (x ∷ (y ∷ ts)) (suc n) t h e = last_block (y ∷ ts) n t (omega (arith, h)) e

abbrev capped : ℕ → List ℕ → List ℕ
capped most ns = map (λ n. min n most) ns

blocks_out : (t : Tree) (ts : Forest) →
    blocks_in (more (view t) ts) ≡
    (if is_function (out-Tree t).form then block_nodes (views (out-Tree t).parts.items) ∷
    blocks_in ts else blocks_in ts)
blocks_out t ts = ap (λ (s : Syntax). blocks_in (more s ts)) (view_out t)

pub block_kept : (ts : List Tree) (i : ℕ) (t : Tree) (most w : ℕ) (ws r : List ℕ) → i < length ts →
    t ≡ get_or ts i t → is_function (out-Tree t).form ≡ true →
    w ≡ min (block_nodes (views (out-Tree t).parts.items)) most
    → ws ++ capped most (blocks_in (views (drop i ts))) ≡ r →
    (ws ++ w ∷ []) ++ capped most (blocks_in (views (drop (i + 1) ts))) ≡ r
block_kept ts i t most w ws r h e b k q =
    let rest : Forest = views (drop (i + 1) ts) in
    let p : blocks_in (views (drop i ts)) ≡ block_nodes (views (out-Tree t).parts.items) ∷ blocks_in rest =
    ap blocks_in (views_dropped ts i t h e) ∙
    (blocks_out t rest ∙ chosen (is_function (out-Tree t).form) (block_nodes (views (out-Tree t).parts.items) ∷
    blocks_in rest) (blocks_in rest) b) in
    append_assoc ws (w ∷ []) (capped most (blocks_in rest)) ∙ (ap (λ n. ws ++ (n ∷ capped most (blocks_in rest))) k ∙
    (sym (ap (λ ns. ws ++ capped most ns) p) ∙ q))

pub block_skipped : (ts : List Tree) (i : ℕ) (t : Tree) (most : ℕ) (ws r : List ℕ) → i < length ts →
    t ≡ get_or ts i t → is_function (out-Tree t).form ≡ false
    → ws ++ capped most (blocks_in (views (drop i ts))) ≡ r →
    ws ++ capped most (blocks_in (views (drop (i + 1) ts))) ≡ r
block_skipped ts i t most ws r h e b q =
    let rest : Forest = views (drop (i + 1) ts) in
    let p : blocks_in (views (drop i ts)) ≡ blocks_in rest = ap blocks_in (views_dropped ts i t h e) ∙
    (blocks_out t rest ∙ not_chosen (is_function (out-Tree t).form)
    (block_nodes (views (out-Tree t).parts.items) ∷ blocks_in rest) (blocks_in rest) b) in
    sym (ap (λ ns. ws ++ capped most ns) p) ∙ q

pub weights_out : (t : Tree) → weights_of (view t) ≡ blocks_in (views (out-Tree t).parts.items)
weights_out t = ap weights_of (view_out t)
