use Rattle.std.proofs.Common.{◌≡◌, ◌++◌, map, drop}
use Rattle.cl_tree.specs.Syntax.{view}
use Rattle.cl_meaning.specs.Declarations.{all_bytes}
use Rattle.cl_scope.proofs.table.push_constants.Given as goal

abbrev pub invariant-loop-tree : goal.invariant-loop-tree
invariant-loop-tree l = l.fn.bytes.items ++ all_bytes l.of (map view l.trees) ≡ l.bytes.items ++
    all_bytes l.of (map view (drop l.tree-index l.trees))
