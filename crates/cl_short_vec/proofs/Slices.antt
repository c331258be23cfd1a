-- Parts in a list of one, two or more, and lists of trees that grow.
use Rattle.std.proofs.Common.{ℕ, List, [], ◌∷◌, ◌++◌, ◌<◌, ◌≤◌, length, get_or, ◌≡◌, refl, sym, ap, ◌∙◌, arith}
use Rattle.std.proofs.Common.{◌-◌, ◌+◌, suc, nat_lt, Bool, true, false, drop, drop-cons}
use Rattle.std.proofs.lemmas.Bool.Decides.{nat_tests}
use Rattle.std.proofs.lemmas.List.{drop_all}
use Rattle.wg_num.specs.declared.types.IntType.{IntType}
use Rattle.wg_num.specs.declared.types.Bin.{Bin}
use Rattle.cl_tree.specs.declared.tree.Tree.{Tree}
use Rattle.cl_tree.specs.Syntax.{Syntax, Forest, none, more, joined, view, views}
use Rattle.cl_short_vec.specs.declared.marks.Marked.{Marked}
use Rattle.cl_short_vec.specs.declared.marks.Marked.TheViews.{out-Marked}
use Rattle.cl_short_vec.specs.declared.nodes.Span.{Span}
use Rattle.cl_short_vec.specs.declared.kinds.Kind.{Kind}
use Rattle.cl_short_vec.specs.declared.made.Made.TheVariants as made
use Rattle.cl_short_vec.specs.Marks.{Mark, mark, Marks}
use Rattle.cl_short_vec.specs.Made.{made_of}
use Rattle.cl_short_vec.specs.Order.{type_in}
use Rattle.cl_short_vec.specs.Nodes.{span_of, component_joined}
use Rattle.cl_short_vec.specs.Parts.{item_part, front_part, second_part, all_parts, part_in, number_part, width_of}
use Rattle.cl_short_vec.specs.View.{mark_of, marks_of}
use Rattle.cl_short_vec.proofs.Views.{mark_out}

pub second_none : (ps : List Marked) (t : Syntax) (c : ℕ) → length ps ≡ 1 →
    number_part t ≡ second_part (marks_of ps) t c
unfolding second_part
second_none [] t c h = refl
second_none (p ∷ []) t c h = refl
second_none (p ∷ q ∷ ps) t c h = absurd (omega (arith, h))

pub second_some : (ps : List Marked) (q : Marked) (t : Syntax) (c : ℕ) → 2 ≤ length ps → q ≡ get_or ps 1 q →
    part_in false (mark_of q) c ≡ second_part (marks_of ps) t c
unfolding second_part
second_some [] q t c h e = absurd (omega (arith, h))
second_some (p ∷ []) q t c h e = absurd (omega (arith, h))
second_some (p ∷ r ∷ ps) q t c h e = ap (λ (x : Marked). part_in false (mark_of x) c) e

pub item_alone : (ps : List Marked) (p : Marked) (t : Syntax) (c : ℕ) → length ps ≡ 1 → p ≡ get_or ps 0 p →
    part_in true (mark_of p) c ≡ item_part (marks_of ps) t c
unfolding item_part
item_alone [] p t c h e = absurd (omega (arith, h))
item_alone (q ∷ []) p t c h e = ap (λ (x : Marked). part_in true (mark_of x) c) e
item_alone (q ∷ r ∷ ps) p t c h e = absurd (omega (arith, h))

pub item_front : (ps : List Marked) (p : Marked) (t : Syntax) (c n : ℕ) → 2 ≤ length ps → p ≡ get_or ps 0 p →
    n ≡ width_of (mark_of p) → c < n → part_in true (mark_of p) c ≡ item_part (marks_of ps) t c
unfolding item_part
item_front [] p t c n h e w l = absurd (omega (arith, h))
item_front (q ∷ []) p t c n h e w l = absurd (omega (arith, h))
item_front (q ∷ r ∷ ps) p t c n h e w l =
    let v : n ≡ width_of (mark_of q) = w ∙ ap (λ (x : Marked). width_of (mark_of x)) e in
    let b : nat_lt c n ≡ true = grind (arith, nat_tests, l) in
    let k : nat_lt c (width_of (mark_of q)) ≡ true = ap (λ z. nat_lt c z) (sym v) ∙ b in
    ap (λ (x : Marked). part_in true (mark_of x) c) e ∙ sym (rw k refl)

pub item_last : (ps : List Marked) (p q : Marked) (t : Syntax) (c n : ℕ) → 2 ≤ length ps → p ≡ get_or ps 0 p →
    q ≡ get_or ps 1 q → n ≡ width_of (mark_of p) → n ≤ c →
    part_in false (mark_of q) (c - n) ≡ item_part (marks_of ps) t c
unfolding item_part
item_last [] p q t c n h e d w l = absurd (omega (arith, h))
item_last (r ∷ []) p q t c n h e d w l = absurd (omega (arith, h))
item_last (r ∷ s ∷ ps) p q t c n h e d w l =
    let v : n ≡ width_of (mark_of r) = w ∙ ap (λ (x : Marked). width_of (mark_of x)) e in
    let b : nat_lt c n ≡ false = grind (arith, nat_tests, l) in
    let k : nat_lt c (width_of (mark_of r)) ≡ false = ap (λ z. nat_lt c z) (sym v) ∙ b in
    ap (λ (x : Marked). part_in false (mark_of x) (c - n)) d ∙
    (ap (λ z. part_in false (mark_of s) (c - z)) v ∙ sym (rw k refl))

-- trees, and one more behind them
pub views_push : (ts : List Tree) (t : Tree) (us : Forest) →
    joined (views (ts ++ t ∷ [])) us ≡ joined (views ts) (more (view t) us)
views_push [] t us = refl
views_push (u ∷ ts) t us = ap (λ (z : Forest). more (view u) z) (views_push ts t us)

pub views_end : (ts : List Tree) → joined (views ts) none ≡ views ts
views_end [] = refl
views_end (t ∷ ts) = ap (λ (z : Forest). more (view t) z) (views_end ts)

-- one part more of all
pub parts_more : (ps : List Marked) (i : ℕ) (p : Marked) (c : ℕ) (done done' : List Tree) (t : Tree) (goal : Forest) →
    i < length ps → p ≡ get_or ps i p → view t ≡ part_in false (mark_of p) c → done' ≡ done ++ t ∷ [] →
    joined (views done) (all_parts (marks_of (drop i ps)) c) ≡ goal →
    joined (views done') (all_parts (marks_of (drop (i + 1) ps)) c) ≡ goal
unfolding all_parts
parts_more ps i p c done done' t goal h e k d inner =
    let one : suc i ≡ i + 1 = omega arith in
    let rest : Forest = all_parts (marks_of (drop (i + 1) ps)) c in
    ap (λ (z : List Tree). joined (views z) rest) d ∙ (views_push done t rest ∙
    (ap (λ (z : Syntax). joined (views done) (more z rest)) k ∙
    (ap (λ (x : Marked). joined (views done) (more (part_in false (mark_of x) c) rest)) e ∙
    (ap (λ j. joined (views done) (more (part_in false (mark_of (get_or ps i p)) c)
    (all_parts (marks_of (drop j ps)) c)))
    (sym one) ∙
    (ap (λ (z : List Marked). joined (views done) (all_parts (marks_of z) c)) (sym (drop-cons ps i p h)) ∙ inner)))))

pub parts_done : (ps : List Marked) (i c : ℕ) (done : List Tree) (goal : Forest) → length ps ≤ i →
    joined (views done) (all_parts (marks_of (drop i ps)) c) ≡ goal → views done ≡ goal
unfolding all_parts
parts_done ps i c done goal h inner = sym (views_end done) ∙
    (ap (λ (z : List Marked). joined (views done) (all_parts (marks_of z) c)) (sym (drop_all i ps h)) ∙ inner)

-- an operator between two components
joined_in : (listed : Bool) (t : Syntax) (k : Kind) (ms : Marks) (op : Bin) (c : ℕ) →
    made.Joined op ≡ made_of listed t k →
    component_joined op (type_in k) (span_of t) (front_part ms t c) (second_part ms t c) ≡
    part_in listed (mark t k ms) c
unfolding part_in
joined_in listed t k ms op c h = rw (sym h) refl

pub joined_found : (listed : Bool) (m : Marked) (op : Bin) (c : ℕ) (of : IntType) (s : Span) (a b : Syntax) →
    made.Joined op ≡ made_of listed (view (out-Marked m).tree.now) (out-Marked m).kind →
    of ≡ type_in (out-Marked m).kind → s ≡ span_of (view (out-Marked m).tree.now) →
    a ≡ front_part (marks_of (out-Marked m).parts.items) (view (out-Marked m).tree.now) c →
    b ≡ second_part (marks_of (out-Marked m).parts.items) (view (out-Marked m).tree.now) c →
    component_joined op of s a b ≡ part_in listed (mark_of m) c
joined_found listed m op c of s a b h h1 h2 h3 h4 =
    let t = view (out-Marked m).tree.now in
    let k = (out-Marked m).kind in
    let ms = marks_of (out-Marked m).parts.items in
    ap (λ z. component_joined op z s a b) h1 ∙ (ap (λ z. component_joined op (type_in k) z a b) h2 ∙
    (ap (λ z. component_joined op (type_in k) (span_of t) z b) h3 ∙
    (ap (λ z. component_joined op (type_in k) (span_of t) (front_part ms t c) z) h4 ∙
    (joined_in listed t k ms op c h ∙ sym (ap (λ (z : Mark). part_in listed z c) (mark_out m))))))
