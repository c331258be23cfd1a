use Rattle.std.proofs.Common.{◌≡◌, ◌++◌, drop}
use Rattle.lane_code.specs.Listing.{nodes_text}
use Rattle.lane_code.proofs.listings.+node.Given as goal

-- what is still to be put completes the text
abbrev pub invariant-put_nodes-loop-one : goal.invariant-put_nodes-loop-one
invariant-put_nodes-loop-one l = l.out.items ++ nodes_text l.indent (drop l.one-index l.one-items) ≡ l.fn.out.items ++
    nodes_text l.indent l.one-items
