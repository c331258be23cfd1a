use Rattle.std.proofs.Common.{◌≡◌, drop, map}
use Rattle.cl_meaning.specs.Calls.{call_of}
use Rattle.cl_faults.specs.Reach.{most}
use Rattle.cl_faults.proofs.reach.most_number.Given as goal

abbrev pub invariant-loop-call : goal.invariant-loop-call
invariant-loop-call l = most l.number (map call_of (drop l.call-index l.calls)) ≡ most l.fn.from (map call_of l.calls)
