use Rattle.std.proofs.Common.{◌≡◌, drop}
use Rattle.lane_code.specs.Fits.{all_steps}
use Rattle.lane_tidy.specs.Ready.{is_ready_step, is_ready}
use Rattle.lane_tidy.proofs.ready.is_ready.Given as goal

-- what is still to be tested decides
abbrev pub invariant-loop-i : goal.invariant-loop-i
invariant-loop-i l = all_steps (is_ready_step l.c) l.i (drop l.i l.steps) ≡ is_ready l.c l.steps
