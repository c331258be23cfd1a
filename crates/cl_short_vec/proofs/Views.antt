-- The view of a marked tree.
use Rattle.std.proofs.Common.{ℕ, List, [], ◌∷◌, ◌<◌, ◌≤◌, length, drop, get_or, ◌≡◌, sym, ap, ◌∙◌, arith}
use Rattle.std.proofs.Common.{Some, suc, zero}
use Rattle.cl_tree.specs.Syntax.{view}
use Rattle.cl_meaning.proofs.Views.{view_out}
use Rattle.cl_short_vec.specs.declared.marks.Marked.{Marked}
use Rattle.cl_short_vec.specs.declared.marks.Marked.TheViews.{out-Marked}
use Rattle.cl_short_vec.specs.declared.marks.Marked.TheFolds.{fold_out-Marked}
use Rattle.cl_short_vec.specs.Marks.{Mark, mark, Marks, unmarked, marking, tree_at, kind_at, back}
use Rattle.cl_short_vec.specs.View.{mark_of, marks_of, mark_step}

pub mark_out : (m : Marked) →
    mark_of m ≡ mark (view (out-Marked m).tree.now) (out-Marked m).kind (marks_of (out-Marked m).parts.items)
mark_out = fold_out-Marked Mark mark_step

pub tree_seen : (m : Marked) → tree_at (mark_of m) ≡ view (out-Marked m).tree.now
tree_seen m = ap tree_at (mark_out m)

pub kind_seen : (m : Marked) → kind_at (mark_of m) ≡ (out-Marked m).kind
kind_seen m = ap kind_at (mark_out m)

pub ruleset seen = (tree_seen, kind_seen)

-- the view of a node with these parts
with_parts : Marked → Marks → Mark
with_parts m ms = mark (view (out-Marked m).tree.now) (out-Marked m).kind ms

pub no_parts : (m : Marked) (ps : List Marked) → ps ≡ (out-Marked m).parts.items → length ps < 1 →
    mark_of m ≡ mark (view (out-Marked m).tree.now) (out-Marked m).kind unmarked
unfolding with_parts
no_parts m [] e h = mark_out m ∙ ap (λ qs. with_parts m (marks_of qs)) (sym e)
no_parts m (p ∷ ps) e h = absurd (omega (arith, h))

pub some_parts : (m a : Marked) (ps : List Marked) → ps ≡ (out-Marked m).parts.items → 1 ≤ length ps →
    a ≡ get_or ps 0 a → mark_of m ≡ mark (view (out-Marked m).tree.now) (out-Marked m).kind
    (marking (mark_of a) (marks_of (drop 1 ps)))
unfolding with_parts
some_parts m a [] e h k = absurd (omega (arith, h))
some_parts m a (p ∷ ps) e h k = mark_out m ∙ ap (λ qs. with_parts m (marks_of qs)) (sym e) ∙
    ap (λ q. with_parts m (marking (mark_of q) (marks_of ps))) (sym k)

-- a node of one part, of two, and of more
pub one_part : (m a : Marked) (ps : List Marked) → ps ≡ (out-Marked m).parts.items → length ps ≡ 1 →
    a ≡ get_or ps 0 a → mark_of m ≡ mark (view (out-Marked m).tree.now) (out-Marked m).kind
    (marking (mark_of a) unmarked)
unfolding with_parts
one_part m a [] e h k = absurd (omega (arith, h))
one_part m a (p ∷ []) e h k = mark_out m ∙ ap (λ qs. with_parts m (marks_of qs)) (sym e) ∙
    ap (λ q. with_parts m (marking (mark_of q) unmarked)) (sym k)
one_part m a (p ∷ q ∷ ps) e h k = absurd (omega (arith, h))

pub two_parts : (m a b : Marked) (ps : List Marked) → ps ≡ (out-Marked m).parts.items → length ps ≡ 2 →
    a ≡ get_or ps 0 a → b ≡ get_or ps 1 b → mark_of m ≡ mark (view (out-Marked m).tree.now) (out-Marked m).kind
    (marking (mark_of a) (marking (mark_of b) unmarked))
unfolding with_parts
two_parts m a b [] e h k l = absurd (omega (arith, h))
two_parts m a b (p ∷ []) e h k l = absurd (omega (arith, h))
two_parts m a b (p ∷ q ∷ []) e h k l = mark_out m ∙ ap (λ rs. with_parts m (marks_of rs)) (sym e) ∙
    ap (λ x. with_parts m (marking (mark_of x) (marking (mark_of q) unmarked))) (sym k) ∙
    ap (λ y. with_parts m (marking (mark_of a) (marking (mark_of y) unmarked))) (sym l)
two_parts m a b (p ∷ q ∷ r ∷ ps) e h k l = absurd (omega (arith, h))

-- the last part
pub back_is : (ps : List Marked) (n : ℕ) (p : Marked) → suc n ≡ length ps → p ≡ get_or ps n p →
    Some (mark_of p) ≡ back (marks_of ps)
back_is [] n p h e = absurd (omega arith)
back_is (q ∷ []) zero p h e = ap (λ (x : Marked). Some (mark_of x)) e
back_is (q ∷ []) (suc n) p h e = absurd (omega arith)
back_is (q ∷ r ∷ rs) zero p h e = absurd (omega arith)
back_is (q ∷ r ∷ rs) (suc n) p h e = back_is (r ∷ rs) n p (omega arith) e

pub ruleset parted = (no_parts, some_parts)

pub ruleset counted_parts = (no_parts, one_part, two_parts)

-- a marked node by its fields, with its tree by its own, with its parts, and with both
pub ruleset node_seen = (mark_out, view_out)

pub ruleset parts_seen = (no_parts, some_parts, mark_out)

pub ruleset parts_of_node = (no_parts, some_parts, view_out)
