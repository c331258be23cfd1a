use Rattle.std.proofs.Common.{◌≡◌, ◌++◌, drop}
use Rattle.mask_lower.specs.Registers.{constants}
use Rattle.mask_lower.proofs.placing.lower_constants.Given as goal

abbrev pub invariant-loop-atom : goal.invariant-loop-atom
invariant-loop-atom l = l.fn.code.items ++ constants l.fn.next l.atom-items ≡ l.code.items ++
    constants l.next (drop l.atom-index l.atom-items)
