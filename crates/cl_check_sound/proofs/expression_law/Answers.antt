use Rattle.cl_check_sound.proofs.Expressions.{fits_expression}
use Rattle.cl_check_sound.proofs.expression_law.Goals as goal

pub returns : goal.returns
returns c = fits_expression
