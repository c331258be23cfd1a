use Rattle.std.proofs.Common.{◌≡◌, drop, take, length, true}
use Rattle.cl_tree.specs.Syntax.{views}
use Rattle.cl_short_vec.specs.Marks as spec
use Rattle.cl_short_vec.specs.View.{names_of}
use Rattle.cl_short_vec.proofs.Marking.{onto}
use Rattle.cl_short_vec.proofs.marks.+mark.Given as goal

abbrev pub invariant-mark_parts-loop-tree : goal.invariant-mark_parts-loop-tree
invariant-mark_parts-loop-tree l = record {
  marked : onto l.parts.items (spec.marked_parts l.form (views l.trees) (names_of l.names.items) l.front
      (views (drop l.tree-index l.trees))) ≡
      spec.marked_parts l.form (views l.trees) (names_of l.fn.names.items) true (views l.trees);
  kept : take (length l.fn.names.items) l.names.items ≡ l.fn.names.items;
}
