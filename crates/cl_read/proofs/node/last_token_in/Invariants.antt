use Rattle.std.proofs.Common.{◌≡◌, drop}
use Rattle.cl_tree.specs.Syntax.{views, last_in}
use Rattle.cl_read.proofs.node.last_token_in.Given as goal

abbrev pub invariant-loop-tree : goal.invariant-loop-tree
invariant-loop-tree l = last_in (views (drop l.tree-index l.tree-items)) l.last ≡ last_in (views l.tree-items) l.other
