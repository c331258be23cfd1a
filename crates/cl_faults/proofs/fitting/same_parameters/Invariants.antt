use Rattle.std.proofs.Common.{◌≡◌, drop}
use Rattle.cl_meaning.specs.Faults.{same_parameters}
use Rattle.cl_faults.proofs.fitting.same_parameters.Given as goal

abbrev pub invariant-loop-parameter : goal.invariant-loop-parameter
invariant-loop-parameter l = same_parameters (drop l.parameter-index l.left) l.others ≡ same_parameters l.left l.right
