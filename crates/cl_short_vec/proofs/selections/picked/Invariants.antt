use Rattle.std.proofs.Common.{◌≡◌, ◌++◌, drop}
use Rattle.cl_short_vec.specs.Types as spec
use Rattle.cl_short_vec.proofs.selections.picked.Given as goal

abbrev pub invariant-loop-number : goal.invariant-loop-number
invariant-loop-number l = l.list.items ++ spec.picked l.components (drop l.number-index l.numbers) ≡
    spec.picked l.components l.numbers
