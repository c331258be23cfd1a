use Rattle.cl_front.proofs.FaultLemmas.{forms_hold}
use Rattle.cl_front.proofs.laws.forms_law.Goals as goal

pub returns : goal.returns
returns c = forms_hold
