use Rattle.std.proofs.Common.{◌≡◌, length}
use Rattle.cl_short_vec.specs.Types as spec
use Rattle.cl_short_vec.proofs.selections.all_differ.Given as goal

abbrev pub invariant-loop-rest : goal.invariant-loop-rest
invariant-loop-rest l = spec.all_differ l.rest ≡ spec.all_differ l.numbers

abbrev pub decreases-loop-rest : goal.decreases-loop-rest
decreases-loop-rest l = length l.rest
