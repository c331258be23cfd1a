use Rattle.std.proofs.Common.{ap, ◌∙◌}
use Rattle.std.proofs.lemmas.Result.{IfOk-weaker}
use Rattle.lane_code.specs.Program.{work_of}
use Rattle.wg_object.proofs.NodeRows.{seq_is}
use Rattle.wg_object.proofs.node_parts.seq_made.Goals as goal

pub returns : goal.returns
returns c = IfOk-weaker c.boxed.result _ _ (λ b e. ap work_of e ∙ seq_is c.args.nodes) c.boxed.ensures.value
