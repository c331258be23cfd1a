use Rattle.cl_model.proofs.Rows.{block_listed}
use Rattle.cl_model.proofs.statement.block.Goals as goal

pub returns : goal.returns
returns c = block_listed c.args.list
