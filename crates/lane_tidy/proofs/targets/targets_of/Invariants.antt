use Rattle.std.proofs.Common.{◌≡◌, ℕ, ◌≤◌, ◌+◌, length, get_or, drop, ◌||◌, false}
use Rattle.lane_tidy.specs.Known.{is_target}
use Rattle.lane_tidy.proofs.targets.targets_of.Given as goal

-- a place is marked, or the target of a step still to be looked at, where it is a target
abbrev pub invariant-loop-step : goal.invariant-loop-step
invariant-loop-step l = record {
  room : length l.marks.items ≡ length l.steps + 1;
  targets : (n : ℕ) → n ≤ length l.steps →
      (get_or l.marks.items n false || is_target (drop l.step-index l.steps) n) ≡ is_target l.steps n;
}
