-- The view of a tree.
use Rattle.std.proofs.Common.{◌≡◌}
use Rattle.cl_tree.specs.Syntax.{Syntax, node, view, view_step, views}
use Rattle.cl_tree.specs.declared.tree.Tree.{Tree}
use Rattle.cl_tree.specs.declared.tree.Tree.TheViews.{out-Tree}
use Rattle.cl_tree.specs.declared.tree.Tree.TheFolds.{fold_out-Tree}

pub view_out : (t : Tree) → view t ≡ node (out-Tree t).form (out-Tree t).word (out-Tree t).first (out-Tree t).last
    (views (out-Tree t).parts.items)
view_out = fold_out-Tree Syntax view_step
