use Rattle.cl_short_vec_faults.proofs.UnitsStand.{units_stand}
use Rattle.cl_short_vec_faults.proofs.units_law.Goals as goal

pub returns : goal.returns
returns c = units_stand
