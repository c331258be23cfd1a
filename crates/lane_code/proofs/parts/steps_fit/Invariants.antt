use Rattle.std.proofs.Common.{◌≡◌, drop, length}
use Rattle.lane_code.specs.Fits.{all_steps, step_fits}
use Rattle.lane_code.specs.Program.{names_of}
use Rattle.lane_code.specs.Parts.{parts_of}
use Rattle.lane_code.proofs.parts.steps_fit.Given as goal

-- what is still to be tested decides
abbrev pub invariant-loop-i : goal.invariant-loop-i
invariant-loop-i l =
    all_steps (step_fits (names_of (parts_of l.parts)) l.counts (length l.steps)) l.i (drop l.i l.steps)
    ≡ all_steps (step_fits (names_of (parts_of l.parts)) l.counts (length l.steps)) 0 l.steps
