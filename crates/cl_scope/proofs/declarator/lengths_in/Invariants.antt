use Rattle.std.proofs.Common.{◌≡◌, ◌≤◌, map, drop}
use Rattle.std.specs.List.{All}
use Rattle.cl_tree.specs.Syntax.{view}
use Rattle.cl_meaning.specs.Declarations.{lengths_in}
use Rattle.cl_scope.proofs.Trees.{in_front}
use Rattle.cl_scope.proofs.declarator.lengths_in.Given as goal

abbrev pub invariant-loop-tree : goal.invariant-loop-tree
invariant-loop-tree l = record {
  read : lengths_in (map view l.trees) ≡ in_front l.lengths.items (lengths_in (map view (drop l.tree-index l.trees)));
  most : All (λ n. n ≤ 1048576) l.lengths.items;
}
