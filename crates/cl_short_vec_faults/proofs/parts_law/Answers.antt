use Rattle.cl_short_vec_faults.proofs.PartsLaw.{parts_follow}
use Rattle.cl_short_vec_faults.proofs.parts_law.Goals as goal

pub returns : goal.returns
returns c = parts_follow
