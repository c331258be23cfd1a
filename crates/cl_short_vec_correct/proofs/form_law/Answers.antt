use Rattle.cl_short_vec_correct.proofs.FormUnits.{forms_shaped}
use Rattle.cl_short_vec_correct.proofs.form_law.Goals as goal

pub returns : goal.returns
returns c = forms_shaped
