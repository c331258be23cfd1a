use Rattle.std.proofs.Common.{◌≡◌, drop, map}
use Rattle.cl_model.specs.View.{function_of, program_of}
use Rattle.diverge.specs.Known.{state_of}
use Rattle.diverge.specs.Rounds.{over_functions, round}
use Rattle.diverge.proofs.rounds.round.Given as goal

abbrev pub invariant-loop-function : goal.invariant-loop-function
invariant-loop-function l =
    over_functions l.program.kernel l.function (map function_of (drop l.function l.own-items)) (state_of l.known) ≡
    round (program_of l.program) (state_of l.fn.known)
