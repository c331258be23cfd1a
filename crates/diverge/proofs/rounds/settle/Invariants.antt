use Rattle.std.proofs.Common.{◌≡◌}
use Rattle.cl_model.specs.View.{program_of}
use Rattle.diverge.specs.Known.{state_of}
use Rattle.diverge.specs.Rounds.{rounds, start, known_of}
use Rattle.diverge.proofs.Ending.{all_lacking}
use Rattle.diverge.proofs.Settling.{enough}
use Rattle.diverge.proofs.rounds.settle.Given as goal

abbrev pub invariant-loop-known : goal.invariant-loop-known
invariant-loop-known l = state_of l.fn.known ≡ start (program_of l.program) →
    rounds (program_of l.program) (enough (state_of l.known)) (state_of l.known) ≡ known_of (program_of l.program)

abbrev pub decreases-loop-known : goal.decreases-loop-known
decreases-loop-known l = all_lacking (state_of l.known).rows
