use Rattle.std.proofs.Common.{◌≡◌, drop, length}
use Rattle.lane_code.specs.Fits.{all_steps, is_code_step, is_code}
use Rattle.lane_code.proofs.checking.are_well.Given as goal

-- what is still to be tested decides
abbrev pub invariant-loop-i : goal.invariant-loop-i
invariant-loop-i l = all_steps (is_code_step l.counts (length l.steps)) l.i (drop l.i l.steps) ≡ is_code l.counts l.steps
