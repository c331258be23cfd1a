use Rattle.cl_model.specs.View.{program_of}
use Rattle.diverge_exact.proofs.Answers.{varying_exact}
use Rattle.diverge_exact.proofs.exact_law.Goals as goal

pub returns : goal.returns
returns c = varying_exact (program_of c.args.program.now) c.requires
