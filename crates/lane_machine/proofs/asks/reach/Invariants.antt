use Rattle.std.proofs.Common.{◌≡◌, ◌≤◌, ◌<◌, ◌+◌, ℕ, true, false, get_or}
use Rattle.lane_machine.proofs.asks.reach.Given as goal

abbrev pub invariant-loop-i : goal.invariant-loop-i
invariant-loop-i g l = record {
  within : l.count ≤ l.i;
  off : (k : ℕ) → l.count ≤ k → k < l.i → get_or l.mask k false ≡ false;
  highest : (k : ℕ) → l.count ≡ k + 1 → get_or l.mask k false ≡ true;
}
