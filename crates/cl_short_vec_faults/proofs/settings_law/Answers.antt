use Rattle.cl_short_vec_faults.proofs.LineSettings.{settings_follow}
use Rattle.cl_short_vec_faults.proofs.settings_law.Goals as goal

pub returns : goal.returns
returns c = settings_follow
