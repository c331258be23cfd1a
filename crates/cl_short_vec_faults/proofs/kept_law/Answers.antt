use Rattle.cl_short_vec_faults.proofs.KeptUnits.{forms_keep}
use Rattle.cl_short_vec_faults.proofs.kept_law.Goals as goal

pub returns : goal.returns
returns c = forms_keep
