use Rattle.cl_short_vec_form.proofs.Forms.{forms_are}
use Rattle.cl_short_vec_form.proofs.scalar_form_law.Goals as goal

pub returns : goal.returns
returns c = forms_are
