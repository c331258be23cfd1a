use Rattle.std.proofs.Common.{◌≡◌, drop, max}
use Rattle.lane_code.specs.Counting.{counted_in}
use Rattle.lane_code.proofs.checking.count_in.Given as goal

-- with what the steps still to be looked at count it is the whole count
abbrev pub invariant-loop-step : goal.invariant-loop-step
invariant-loop-step l = max l.count (counted_in l.bank (drop l.step-index l.steps)) ≡ counted_in l.bank l.steps
