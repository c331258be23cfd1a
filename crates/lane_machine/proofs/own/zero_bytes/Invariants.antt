use Rattle.std.proofs.Common.{◌≡◌, ℕ, length, take, map}
use Rattle.lane_machine.proofs.own.zero_bytes.Given as goal

abbrev pub invariant-loop-i : goal.invariant-loop-i
invariant-loop-i l = record {
  long : length l.bytes ≡ length l.fn.bytes;
  written : take l.i l.bytes ≡ take l.i (map (λ (b : ℕ). 0) l.fn.bytes);
}
