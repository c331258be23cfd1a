use Rattle.cl_check_sound.proofs.Accepted.{units_valid}
use Rattle.cl_check_sound.proofs.valid_law.Goals as goal

pub returns : goal.returns
returns c = units_valid
