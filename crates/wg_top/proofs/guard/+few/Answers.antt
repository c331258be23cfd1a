use Rattle.std.proofs.Common.{sym, ◌∙◌}
use Rattle.wg_top.proofs.GuardLemmas.{node_seq_few}
use Rattle.wg_top.proofs.guard.+few.Goals as goal

pub has_few_in-returns-in-Seq : goal.has_few_in-returns-in-Seq
has_few_in-returns-in-Seq t c =
    c.have_few.ensures ∙ sym (node_seq_few c.args.most c.args.node.now c.in-Seq.nodes c.in-Seq.is)
