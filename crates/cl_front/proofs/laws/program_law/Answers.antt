use Rattle.cl_front.proofs.ValidLemmas.{compiled_valid}
use Rattle.cl_front.proofs.laws.program_law.Goals as goal

pub returns : goal.returns
returns c = compiled_valid
