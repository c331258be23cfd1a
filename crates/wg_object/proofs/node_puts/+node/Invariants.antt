use Rattle.std.proofs.Common.{◌≡◌, ◌++◌, drop}
use Rattle.wg_object.specs.Nodes.{nodes_text, AreNodes}
use Rattle.wg_object.proofs.node_puts.+node.Given as goal

-- what is still to be put completes the text, and if that is of works, all is
abbrev pub invariant-put_nodes-loop-one : goal.invariant-put_nodes-loop-one
invariant-put_nodes-loop-one l =
    record {
      put : l.out.items ++ nodes_text (drop l.one-index l.one-items) ≡ l.fn.out.items ++ nodes_text l.one-items;
      fit : AreNodes (drop l.one-index l.one-items) → AreNodes l.one-items;
    }
