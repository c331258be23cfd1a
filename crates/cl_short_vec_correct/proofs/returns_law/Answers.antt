use Rattle.cl_short_vec_correct.proofs.Returns.{returns_refused}
use Rattle.cl_short_vec_correct.proofs.returns_law.Goals as goal

pub returns : goal.returns
returns c = returns_refused
