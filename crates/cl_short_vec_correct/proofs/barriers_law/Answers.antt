use Rattle.cl_short_vec_correct.proofs.Barriers.{barriers_refused}
use Rattle.cl_short_vec_correct.proofs.barriers_law.Goals as goal

pub returns : goal.returns
returns c = barriers_refused
