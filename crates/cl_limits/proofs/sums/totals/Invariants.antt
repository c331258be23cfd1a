use Rattle.std.proofs.Common.{◌≡◌, map}
use Rattle.cl_meaning.specs.Calls.{call_of}
use Rattle.cl_limits.specs.Rounds.{totals_after}
use Rattle.cl_limits.proofs.sums.totals.Given as goal

abbrev pub invariant-loop-round : goal.invariant-loop-round
invariant-loop-round l = l.counts.items ≡ totals_after l._round l.cap l.own (map call_of l.calls)
