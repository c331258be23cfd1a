use Rattle.cl_short_vec_form.proofs.Long.{forms_long}
use Rattle.cl_short_vec_form.proofs.Store.{forms_store}
use Rattle.cl_short_vec_form.proofs.storage_law.Goals as goal

pub returns-clause-stored : goal.returns-clause-stored
returns-clause-stored c = forms_store

pub returns-clause-long : goal.returns-clause-long
returns-clause-long c = forms_long
