use Rattle.std.proofs.Common.{◌≡◌, slice_index, drop}
use Rattle.cl_tree.specs.Syntax.{views}
use Rattle.cl_check.specs.Checked.{starts_in}
use Rattle.cl_check.proofs.unit.start_token.Given as goal

abbrev pub invariant-loop-tree : goal.invariant-loop-tree
invariant-loop-tree l = slice_index (starts_in (views (drop l.tree-index l.trees))) l.before ≡
    slice_index (starts_in (views l.trees)) l.number
