use Rattle.std.proofs.Common.{map}
use Rattle.cl_meaning.specs.Calls.{call_of}
use Rattle.cl_faults.specs.Reach.{Spreads}
use Rattle.cl_faults.proofs.spread.follow_row.Given as goal

abbrev pub invariant-loop-place : goal.invariant-loop-place
invariant-loop-place l = Spreads (map call_of l.calls) l.fn.search.marks.items l.reached.marks.items

abbrev pub decreases-loop-place : goal.decreases-loop-place
decreases-loop-place l = l.place
