use Rattle.cl_short_vec_form.proofs.StatementCounts.{forms_small}
use Rattle.cl_short_vec_form.proofs.sizes_law.Goals as goal

pub returns : goal.returns
returns c = forms_small
