use Rattle.std.proofs.Common.{◌≡◌, ◌%◌, take}
use Rattle.std.specs.Prelude.{sum}
use Rattle.wg_top.proofs.sample.sum_of.Given as goal

abbrev pub invariant-loop-k : goal.invariant-loop-k
invariant-loop-k l = l.total ≡ sum (take l.k l.list.items) % 4294967296
