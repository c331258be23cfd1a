use Rattle.std.proofs.Common.{◌++◌, sym, ap, ap₂, ◌∙◌, codes, append_assoc}
use Rattle.lane_code.specs.Listing.{deeper, line_text, nodes_text}
use Rattle.lane_code.proofs.NodeRows.{node_seq}
use Rattle.lane_code.proofs.listings.+node.Goals as goal

pub put_node-returns-in-Seq : goal.put_node-returns-in-Seq
put_node-returns-in-Seq t c =
    let out = c.args.out.now.items in
    let indent = c.args.indent.now in
    let nodes = c.in-Seq.nodes in
    c.in_ok-put_nodes-in-Seq.ensures
    ∙ ap₂ (λ a b. a ++ nodes_text b nodes.items) c.in_ok-put_line-in-Seq.ensures (c.deref.ensures.value ∙
    c.in_ok-inner.ensures)
    ∙ append_assoc out (line_text indent (codes "seq")) (nodes_text (deeper indent) nodes.items)
    ∙ sym (ap (λ t. out ++ t) (node_seq indent c.args.node.now nodes c.in-Seq.is))
