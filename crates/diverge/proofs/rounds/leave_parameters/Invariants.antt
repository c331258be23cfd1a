use Rattle.std.proofs.Common.{◌≡◌}
use Rattle.diverge.specs.Known.{state_of}
use Rattle.diverge.specs.Rounds.{parameters_left}
use Rattle.diverge.proofs.rounds.leave_parameters.Given as goal

abbrev pub invariant-loop-x : goal.invariant-loop-x
invariant-loop-x l = state_of l.known ≡ parameters_left l.function l.x (state_of l.fn.known)
