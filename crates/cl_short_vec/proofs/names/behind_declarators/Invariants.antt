use Rattle.std.proofs.Common.{◌≡◌, drop, take, length}
use Rattle.cl_tree.specs.Syntax.{view, views}
use Rattle.cl_short_vec.specs.Kinds as spec
use Rattle.cl_short_vec.specs.View.{names_of}
use Rattle.cl_short_vec.proofs.names.behind_declarators.Given as goal

abbrev pub invariant-loop-tree : goal.invariant-loop-tree
invariant-loop-tree l = record {
  declared : spec.behind_declarators (names_of l.names.items) (view l.base) (views (drop l.tree-index l.trees)) ≡
      spec.behind_declarators (names_of l.fn.names.items) (view l.base) (views l.trees);
  kept : take (length l.fn.names.items) l.names.items ≡ l.fn.names.items;
}
