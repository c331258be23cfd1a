use Rattle.cl_short_vec_correct.proofs.Offsets.{numbers_scaled, offsets_scaled, contents_stand}
use Rattle.cl_short_vec_correct.proofs.offsets_law.Goals as goal

pub returns-clause-scaled : goal.returns-clause-scaled
returns-clause-scaled c = numbers_scaled

pub returns-clause-indexed : goal.returns-clause-indexed
returns-clause-indexed c = offsets_scaled

pub returns-clause-pointed : goal.returns-clause-pointed
returns-clause-pointed c = contents_stand
