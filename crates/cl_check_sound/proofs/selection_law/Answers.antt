use Rattle.cl_check_sound.proofs.Unselected.{none_selected}
use Rattle.cl_check_sound.proofs.selection_law.Goals as goal

pub returns : goal.returns
returns c = none_selected
