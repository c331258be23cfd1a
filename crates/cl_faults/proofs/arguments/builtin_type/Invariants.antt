use Rattle.std.proofs.Common.{◌≡◌, length}
use Rattle.cl_faults.specs.Known.{known}
use Rattle.cl_faults.proofs.arguments.builtin_type.Given as goal

abbrev pub invariant-loop-rest : goal.invariant-loop-rest
invariant-loop-rest l = known l.rest ≡ known l.kinds

abbrev pub decreases-loop-rest : goal.decreases-loop-rest
decreases-loop-rest l = length l.rest
