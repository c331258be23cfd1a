use Rattle.std.proofs.Common.{◌≡◌, ◌++◌, ◌^◌, ◌<◌, length, rules}
use Rattle.lane_code.specs.Program.{work_of}
use Rattle.wg_object.specs.Text.{work_text}
use Rattle.wg_object.specs.Nodes.{nodes_text, AreNodes}
use Rattle.wg_object.specs.Valid.{IsWork}
use Rattle.wg_object.proofs.NodeRows.{on_ok, seq_put, node_seq, node_seq_fits}
use Rattle.wg_object.proofs.node_puts.+node.Goals as goal

pub put_node-returns-in_ok-put_pieces-in-Seq-clause-put :
    goal.put_node-returns-in_ok-put_pieces-in-Seq-clause-put
put_node-returns-in_ok-put_pieces-in-Seq-clause-put t c =
    let nodes = c.in-Seq.list in
    on_ok c.put_nodes.result (c.put_nodes.new.out.items ≡ c.put_pieces.new.out.items ++ nodes_text nodes.items)
    (c.put_nodes.new.out.items ≡ c.args.out.now.items ++ work_text (work_of c.args.node.now))
    (seq_put c.args.out.now.items c.put_pieces.new.out.items c.put_nodes.new.out.items c.eight.result
    (work_text (work_of c.args.node.now)) c.len.result nodes.items c.in_ok-put_pieces-in-Seq.ensures c.eight.ensures
    (search rules) (node_seq c.args.node.now nodes c.in-Seq.is)) c.put_nodes.ensures.put

pub put_node-returns-in_ok-put_pieces-in-Seq-clause-fits :
    goal.put_node-returns-in_ok-put_pieces-in-Seq-clause-fits
put_node-returns-in_ok-put_pieces-in-Seq-clause-fits t c =
    let nodes = c.in-Seq.list in
    let few : length nodes.items < 2 ^ 64 = search rules in
    on_ok c.put_nodes.result (AreNodes nodes.items) (IsWork (work_of c.args.node.now))
    (node_seq_fits c.args.node.now nodes c.in-Seq.is few) c.put_nodes.ensures.fits
