use Rattle.cl_short_vec_faults.proofs.LineDeclarations.{initials_follow}
use Rattle.cl_short_vec_faults.proofs.initials_law.Goals as goal

pub returns : goal.returns
returns c = initials_follow
