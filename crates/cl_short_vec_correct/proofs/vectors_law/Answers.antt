use Rattle.cl_short_vec_correct.proofs.Lists.{vectors_are}
use Rattle.cl_short_vec_correct.proofs.vectors_law.Goals as goal

pub returns : goal.returns
returns c = vectors_are
