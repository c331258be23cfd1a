use Rattle.std.proofs.Common.{◌≡◌, ◌≢◌, ◌<◌, ◌+◌, ◌-◌, ℕ, zero, suc, Bool, true, false, List, ◌∷◌, length, drop}
use Rattle.std.proofs.Common.{get_or, slice_index, refl, ap, sym, ◌∙◌, arith, if◌then◌else◌}
use Rattle.cl_tree.specs.declared.tree.Tree.{Tree}
use Rattle.cl_tree.specs.declared.tree.Tree.TheViews.{out-Tree}
use Rattle.cl_tree.specs.Syntax.{Syntax, Forest, more, view, views}
use Rattle.cl_meaning.proofs.Views.{view_out}
use Rattle.cl_limits.specs.Heights.{is_function}
use Rattle.cl_check.specs.Checked.{starts_in}
use Rattle.cl_check.proofs.Judging.{views_drop}
use Rattle.cl_check.proofs.unit.start_token.Goals as goal
use Rattle.cl_check.proofs.unit.start_token.Goals.{then-is_function+else-before-eq0, else-is_function}

chosen : (b : Bool) (x y : List ℕ) → b ≡ true → (if b then x else y) ≡ x
chosen true x y h = refl
chosen false x y h = cc

not_chosen : (b : Bool) (x y : List ℕ) → b ≡ false → (if b then x else y) ≡ y
not_chosen false x y h = refl
not_chosen true x y h = cc

starts_out : (t : Tree) (ts : Forest) →
    starts_in (more (view t) ts) ≡ (if is_function (out-Tree t).form then (out-Tree t).first ∷
    starts_in ts else starts_in ts)
starts_out t ts = ap (λ (s : Syntax). starts_in (more s ts)) (view_out t)

behind_first : (x n m : ℕ) (xs : List ℕ) → n ≢ 0 → m ≡ n - 1 → slice_index (x ∷ xs) n ≡ slice_index xs m
behind_first x zero m xs h e = absurd (h refl)
behind_first x (suc n) m xs h e = let i : n ≡ m = omega (arith, e) in ap (λ j. slice_index xs j) i

skipped : (ts : List Tree) (i : ℕ) (t : Tree) (b : Bool) (n m r : ℕ) → i < length ts → t ≡ get_or ts i t →
    b ≡ is_function (out-Tree t).form → b ≡ false → m ≡ n →
    slice_index (starts_in (views (drop i ts))) n ≡ r → slice_index (starts_in (views (drop (i + 1) ts))) m ≡ r
skipped ts i t b n m r h e k f q x =
    let rest : Forest = views (drop (i + 1) ts) in
    let p : starts_in (views (drop i ts)) ≡ starts_in rest =
    ap (λ (z : Forest). starts_in z) (views_drop ts i t h e) ∙
    (starts_out t rest ∙ not_chosen (is_function (out-Tree t).form) ((out-Tree t).first ∷ starts_in rest)
    (starts_in rest) (sym k ∙ f)) in
    ap (λ j. slice_index (starts_in rest) j) q ∙ (sym (ap (λ (l : List ℕ). slice_index l n) p) ∙ x)

passed : (ts : List Tree) (i : ℕ) (t : Tree) (b : Bool) (n m r : ℕ) → i < length ts → t ≡ get_or ts i t →
    b ≡ is_function (out-Tree t).form → b ≡ true → n ≢ 0 → m ≡ n - 1 →
    slice_index (starts_in (views (drop i ts))) n ≡ r → slice_index (starts_in (views (drop (i + 1) ts))) m ≡ r
passed ts i t b n m r h e k f z q x =
    let rest : Forest = views (drop (i + 1) ts) in
    let p : starts_in (views (drop i ts)) ≡ (out-Tree t).first ∷ starts_in rest =
    ap (λ (z : Forest). starts_in z) (views_drop ts i t h e) ∙
    (starts_out t rest ∙ chosen (is_function (out-Tree t).form) ((out-Tree t).first ∷ starts_in rest)
    (starts_in rest) (sym k ∙ f)) in
    sym (behind_first (out-Tree t).first n m (starts_in rest) z q) ∙ (sym (ap (λ (l : List ℕ). slice_index l n) p) ∙ x)

pub loop-tree-preserved : goal.loop-tree-preserved
loop-tree-preserved c =
    elim c.if-is_function.branch [
      | then-is_function+else-before-eq0 w ↦
          passed c.args.trees.now c.loop-tree.tree-index c.tree-item.result c.is_function.result c.loop-tree.before
          c.if-is_function.before _ c.loop-tree-test.true c.tree-item.is c.is_function.ensures
          w.if-is_function.true w.if-before-eq0.false w.before-is c.loop-tree.invariant
      | else-is_function w ↦
          skipped c.args.trees.now c.loop-tree.tree-index c.tree-item.result c.is_function.result c.loop-tree.before
          c.if-is_function.before _ c.loop-tree-test.true c.tree-item.is c.is_function.ensures
          w.if-is_function.false w.before-is c.loop-tree.invariant
    ]
