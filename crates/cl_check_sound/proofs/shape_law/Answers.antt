use Rattle.cl_check_sound.proofs.Spelled.{spelled_shape}
use Rattle.cl_check_sound.proofs.shape_law.Goals as goal

pub returns : goal.returns
returns c = spelled_shape
