use Rattle.std.proofs.Common.{◌≡◌, take}
use Rattle.diverge.specs.Known.{state_of}
use Rattle.diverge.specs.Listed.{all_closed}
use Rattle.diverge.proofs.statements.close_all.Given as goal

abbrev pub invariant-loop-number : goal.invariant-loop-number
invariant-loop-number l =
    all_closed l.at (take l.number l.list) (state_of l.known) ≡ all_closed l.at l.list (state_of l.fn.known)
