use Rattle.std.proofs.Common.{◌≡◌, drop, map}
use Rattle.cl_meaning.specs.Calls.{call_of}
use Rattle.cl_faults.specs.Reach.{open_in}
use Rattle.cl_faults.proofs.reach.open_call.Given as goal

abbrev pub invariant-loop-call : goal.invariant-loop-call
invariant-loop-call l =
    open_in l.reached (map call_of (drop l.call-index l.calls)) ≡ open_in l.reached (map call_of l.calls)
