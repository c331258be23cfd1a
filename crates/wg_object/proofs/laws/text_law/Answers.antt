use Rattle.wg_object.proofs.DeepEnough.{one_object}
use Rattle.wg_object.proofs.laws.text_law.Goals as goal

pub returns : goal.returns
returns c = one_object
