use Rattle.std.proofs.Common.{◌≡◌, drop}
use Rattle.lane_code.specs.Program.{roots_are_own}
use Rattle.lane_code.proofs.parts.own_roots.Given as goal

-- what is still to be tested decides
abbrev pub invariant-loop-n : goal.invariant-loop-n
invariant-loop-n l = roots_are_own l.n (drop l.n l.params) ≡ roots_are_own 0 l.params
