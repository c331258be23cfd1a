use Rattle.cl_model.specs.View.{program_of}
use Rattle.diverge.specs.Known.{state_of}
use Rattle.diverge.proofs.Shapes.{answer_shape}
use Rattle.diverge.proofs.Ending.{is_settled}
use Rattle.diverge.proofs.rounds.analyse.Goals as goal

pub returns-clause-shape : goal.returns-clause-shape
returns-clause-shape c =
    answer_shape (program_of c.args.program.now) c.listed.result (state_of c.settle.new.known)
    (c.settle.ensures c.in_ok-known.ensures) c.listed.ensures

pub returns-clause-settled : goal.returns-clause-settled
returns-clause-settled c = is_settled (program_of c.args.program.now)

pub returns-in_err-known-clause-settled : goal.returns-in_err-known-clause-settled
returns-in_err-known-clause-settled c = is_settled (program_of c.args.program.now)
