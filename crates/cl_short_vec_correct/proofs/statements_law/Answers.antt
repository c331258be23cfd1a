use Rattle.cl_short_vec_correct.proofs.Statements.{statements_do}
use Rattle.cl_short_vec_correct.proofs.statements_law.Goals as goal

pub returns : goal.returns
returns c = statements_do
