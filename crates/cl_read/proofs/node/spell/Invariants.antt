use Rattle.std.proofs.Common.{◌≡◌, take}
use Rattle.cl_tree.specs.Nodes.{spelled}
use Rattle.cl_read.specs.Gives.{spots}
use Rattle.cl_read.proofs.node.spell.Given as goal

abbrev pub invariant-loop-i : goal.invariant-loop-i
invariant-loop-i l = l.bytes.items ≡ spelled (spots (take l.i l.own))
