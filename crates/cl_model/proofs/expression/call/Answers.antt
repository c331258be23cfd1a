use Rattle.cl_model.proofs.Rows.{call_listed}
use Rattle.cl_model.proofs.expression.call.Goals as goal

pub returns : goal.returns
returns c = call_listed c.args.site c.args.function c.args.args
