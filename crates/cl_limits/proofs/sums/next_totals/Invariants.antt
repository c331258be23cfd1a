use Rattle.std.proofs.Common.{◌≡◌, map, drop}
use Rattle.cl_meaning.specs.Calls.{call_of}
use Rattle.cl_limits.specs.Rounds.{with_calls, next_totals}
use Rattle.cl_limits.proofs.sums.next_totals.Given as goal

abbrev pub invariant-loop-call : goal.invariant-loop-call
invariant-loop-call l = with_calls l.cap l.counts l.sums.items (map call_of (drop l.call-index l.calls)) ≡
    next_totals l.cap l.own (map call_of l.calls) l.counts
