use Rattle.std.proofs.Common.{◌≡◌, ◌++◌, ◌-◌}
use Rattle.wg_top.specs.Sample.{words_from}
use Rattle.wg_top.proofs.sample.first_words.Given as goal

abbrev pub invariant-loop-k : goal.invariant-loop-k
invariant-loop-k l = l.list.items ++ words_from l.number l.k (l.count - l.k) ≡ words_from l.number 0 l.count
