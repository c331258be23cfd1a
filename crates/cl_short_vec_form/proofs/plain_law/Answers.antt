use Rattle.cl_short_vec_form.proofs.Plain.{forms_plain}
use Rattle.cl_short_vec_form.proofs.plain_law.Goals as goal

pub returns : goal.returns
returns c = forms_plain
