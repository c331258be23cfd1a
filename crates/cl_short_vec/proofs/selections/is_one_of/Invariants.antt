use Rattle.std.proofs.Common.{◌≡◌, drop}
use Rattle.cl_short_vec.specs.Types as spec
use Rattle.cl_short_vec.proofs.selections.is_one_of.Given as goal

abbrev pub invariant-loop-other : goal.invariant-loop-other
invariant-loop-other l = spec.is_one_of l.number (drop l.other-index l.numbers) ≡ spec.is_one_of l.number l.numbers
