use Rattle.std.proofs.Common.{◌≡◌, drop}
use Rattle.cl_tree.specs.Nodes.{last_spot}
use Rattle.cl_read.specs.Gives.{spots}
use Rattle.cl_read.proofs.node.last_of_own.Given as goal

abbrev pub invariant-loop-leaf : goal.invariant-loop-leaf
invariant-loop-leaf l = last_spot (spots (drop l.leaf-index l.own)) l.last ≡ last_spot (spots l.own) l.other
