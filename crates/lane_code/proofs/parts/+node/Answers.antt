use Rattle.std.proofs.Common.{sym, ◌∙◌}
use Rattle.lane_code.specs.Program.{names_of}
use Rattle.lane_code.specs.Parts.{parts_of}
use Rattle.lane_code.proofs.NodeRows.{node_seq_fits}
use Rattle.lane_code.proofs.parts.+node.Goals as goal

pub node_fits_in-returns-in-Seq : goal.node_fits_in-returns-in-Seq
node_fits_in-returns-in-Seq t c =
    c.nodes_fit_in.ensures ∙ sym (node_seq_fits (names_of (parts_of c.args.parts.now)) c.args.node.now c.in-Seq.nodes
    c.in-Seq.is)
