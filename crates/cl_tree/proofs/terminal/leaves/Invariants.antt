use Rattle.std.proofs.Common.{◌≡◌, take}
use Rattle.cl_tree.specs.Leaves.{leaves_of}
use Rattle.cl_tree.proofs.terminal.leaves.Given as goal

abbrev pub invariant-loop-token : goal.invariant-loop-token
invariant-loop-token l = record {
  so_far : l.all.items ≡ leaves_of 0 (take l.token-index l.tokens);
  count : l.number ≡ l.token-index;
}
