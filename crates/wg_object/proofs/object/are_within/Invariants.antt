use Rattle.std.proofs.Common.{◌≤◌, drop, ◌↔◌}
use Rattle.std.specs.Prelude.{sum}
use Rattle.wg_object.proofs.object.are_within.Given as goal

-- what is still to be added has to fit into what is left
abbrev pub invariant-loop-n : goal.invariant-loop-n
invariant-loop-n l = (sum l.numbers ≤ l.most) ↔ (sum (drop l.n-index l.numbers) ≤ l.left)
