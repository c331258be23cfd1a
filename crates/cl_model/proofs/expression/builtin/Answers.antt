use Rattle.cl_model.proofs.Rows.{builtin_listed}
use Rattle.cl_model.proofs.expression.builtin.Goals as goal

pub returns : goal.returns
returns c = builtin_listed c.args.f c.args.of c.args.args
