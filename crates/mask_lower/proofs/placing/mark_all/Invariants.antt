use Rattle.std.proofs.Common.{◌≡◌, drop}
use Rattle.mask_lower.specs.Registers.{marked}
use Rattle.mask_lower.proofs.placing.mark_all.Given as goal

abbrev pub invariant-loop-atom : goal.invariant-loop-atom
invariant-loop-atom l = marked l.fn.marks.items l.atom-items ≡ marked l.marks.items (drop l.atom-index l.atom-items)
