use Rattle.cl_check_sound.proofs.Expanded.{expanded_read}
use Rattle.cl_check_sound.proofs.numbers_law.Goals as goal

pub returns : goal.returns
returns c = expanded_read
