use Rattle.std.proofs.Common.{◌≡◌, ◌-◌, ◌+◌, ◌*◌}
use Rattle.wg_object.specs.Reading.{works_at, work_at}
use Rattle.wg_object.proofs.NodeLoops.{joined}
use Rattle.wg_object.proofs.node_parts.+node.Given as goal

-- a node needs one less for what is in it
abbrev pub decreases-node_at : goal.decreases-node_at
decreases-node_at l = 3 * l.depth

abbrev pub decreases-nodes_at : goal.decreases-nodes_at
decreases-nodes_at l = 3 * l.depth + 1

abbrev pub decreases-seq_at : goal.decreases-seq_at
decreases-seq_at l = 3 * l.depth + 2

abbrev pub decreases-vote_at : goal.decreases-vote_at
decreases-vote_at l = 3 * l.depth + 2

abbrev pub decreases-loop_at : goal.decreases-loop_at
decreases-loop_at l = 3 * l.depth + 2

abbrev pub invariant-nodes_at-loop : goal.invariant-nodes_at-loop
invariant-nodes_at-loop l = joined l.nodes.items (works_at (work_at l.depth) (l.count - l.counter) l.rest) ≡
    works_at (work_at l.depth) l.count l.bytes
