use Rattle.cl_check_sound.proofs.Spelled.{spelled_wide}
use Rattle.cl_check_sound.proofs.wide_shape_law.Goals as goal

pub returns : goal.returns
returns c = spelled_wide
