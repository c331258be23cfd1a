use Rattle.cl_model.proofs.Rows.{switch_listed}
use Rattle.cl_model.proofs.statement.switch.Goals as goal

pub returns : goal.returns
returns c = switch_listed c.args.site c.args.value c.args.arms
