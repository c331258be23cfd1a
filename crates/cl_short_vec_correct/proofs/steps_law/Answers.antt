use Rattle.cl_short_vec_correct.proofs.Does.{steps_done}
use Rattle.cl_short_vec_correct.proofs.steps_law.Goals as goal

pub returns : goal.returns
returns c = steps_done
