use Rattle.std.proofs.Common.{◌≡◌, ℕ, List, ◌∙◌, ap, arith, length, take, true}
use Rattle.cl_tree.specs.declared.tree.Tree.TheViews.{out-Tree}
use Rattle.cl_tree.specs.Syntax.{view, views}
use Rattle.cl_short_vec.specs.Kinds.{Names, within, later}
use Rattle.cl_short_vec.specs.Marks.{marked_parts}
use Rattle.cl_short_vec.specs.View.{marks_of, names_of}
use Rattle.cl_short_vec.proofs.Marking.{marks_more, marks_done, tree_marked, ok_onto}
use Rattle.cl_short_vec.proofs.Stacks.{kept_on}
use Rattle.cl_short_vec.proofs.marks.+mark.Goals as goal

pub mark_parts-loop-tree-preserved : goal.mark_parts-loop-tree-preserved
mark_parts-loop-tree-preserved t c = record {
  marked = marks_more c.args.form (views c.args.trees.now) c.args.trees.now c.loop-tree.tree-index
      c.loop-tree.parts.items (names_of c.loop-tree.names.items) c.loop-tree.front
      (marked_parts c.args.form (views c.args.trees.now) (names_of c.args.names.now.items) true
      (views c.args.trees.now))
      c.loop-tree.invariant.marked c.tree-item.result c.in_ok-part.part c.push.new.list.items
      (names_of c.later.new.names.items) c.loop-tree-test.true c.tree-item.is c.in_ok-part.ensures.marked
      c.in_ok-push.ensures
      (c.in_ok-later.ensures.declared ∙ ap (λ es. later c.args.form (views c.args.trees.now) (names_of es)
      c.loop-tree.front (view c.tree-item.result)) c.in_ok-part.ensures.kept);
  kept = kept_on c.args.names.now.items c.mark_tree.new.names.items c.later.new.names.items
      (ap (λ es. take (length c.args.names.now.items) es) c.in_ok-part.ensures.kept ∙ c.loop-tree.invariant.kept)
      c.in_ok-later.ensures.kept;
}

pub mark_parts-returns-clause-marked : goal.mark_parts-returns-clause-marked
mark_parts-returns-clause-marked t c =
    marks_done c.args.form (views c.args.trees.now) c.args.trees.now c.loop-tree.tree-index
    c.loop-tree.parts.items (names_of c.loop-tree.names.items) c.loop-tree.front
    (marked_parts c.args.form (views c.args.trees.now) (names_of c.args.names.now.items) true (views c.args.trees.now))
    c.loop-tree.invariant.marked c.loop-tree-test.false

pub mark_tree-returns-clause-marked : goal.mark_tree-returns-clause-marked
mark_tree-returns-clause-marked t c =
    let depth : c.len-depth.result ≡ length c.args.names.now.items =
    omega (arith, c.len-depth.ensures, c.args.names.now.ok) in
    ok_onto c.mark_node.result _ _ c.mark_node.ensures
    (λ m h. h ∙ tree_marked (names_of c.args.names.now.items) (names_of c.deref-2.result.now) c.args.tree.now
    (marks_of c.in_ok-parts.parts.items)
    (ap (λ es. names_of es) (c.deref-2.ensures.value ∙ (c.truncate.ensures.items ∙
    (ap (λ n. take n c.mark_parts.new.names.items) depth ∙ kept_on c.args.names.now.items c.within.new.names.items
    c.mark_parts.new.names.items c.in_ok-within.ensures.kept c.in_ok-parts.ensures.kept))))
    (c.in_ok-parts.ensures.marked ∙ (ap (λ ts. marked_parts (out-Tree c.args.tree.now).form (views ts)
    (names_of c.within.new.names.items) true (views ts)) c.deref.ensures.value ∙
    ap (λ (n : Names). marked_parts (out-Tree c.args.tree.now).form (views (out-Tree c.args.tree.now).parts.items) n true
    (views (out-Tree c.args.tree.now).parts.items)) (c.in_ok-within.ensures.declared ∙
    ap (λ (w : List ℕ). within (out-Tree c.args.tree.now).form w (names_of c.args.names.now.items)) c.bytes.ensures))))
