use Rattle.std.proofs.Common.{◌≡◌, drop}
use Rattle.kir.specs.Fits.{roots_are_own}
use Rattle.kir.proofs.fitting.roots_are_own.Given as goal

abbrev pub invariant-loop-n : goal.invariant-loop-n
invariant-loop-n l = roots_are_own 0 l.params ≡ roots_are_own l.n (drop l.n l.params)
