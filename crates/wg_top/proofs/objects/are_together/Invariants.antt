use Rattle.std.proofs.Common.{◌≡◌, drop}
use Rattle.std.specs.Prelude.{sum}
use Rattle.wg_top.proofs.objects.are_together.Given as goal

-- what is left is what is still to come, if the numbers are together so many
abbrev pub invariant-loop-n : goal.invariant-loop-n
invariant-loop-n l = sum (drop l.n-index l.numbers) ≡ l.left → sum l.numbers ≡ l.total
