use Rattle.std.proofs.Common.{◌≡◌, drop}
use Rattle.cl_short_vec.specs.Types as spec
use Rattle.cl_short_vec.proofs.selections.all_below.Given as goal

abbrev pub invariant-loop-number : goal.invariant-loop-number
invariant-loop-number l = spec.all_below l.limit (drop l.number-index l.numbers) ≡ spec.all_below l.limit l.numbers
