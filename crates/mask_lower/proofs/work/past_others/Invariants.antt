use Rattle.std.proofs.Common.{◌≡◌, drop}
use Rattle.mask_lower.specs.Registers.{past}
use Rattle.mask_lower.proofs.work.past_others.Given as goal

abbrev pub invariant-loop-i : goal.invariant-loop-i
invariant-loop-i l = past l.after (drop l.i l.args.items) ≡ past l.fn.next (drop 3 l.args.items)
