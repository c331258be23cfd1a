use Rattle.std.proofs.Common.{map}
use Rattle.cl_meaning.specs.Calls.{call_of}
use Rattle.cl_faults.specs.Reach.{Spreads}
use Rattle.cl_faults.proofs.spread.spread.Given as goal

abbrev pub invariant-loop-turn : goal.invariant-loop-turn
invariant-loop-turn l = Spreads (map call_of l.calls) l.fn.search.marks.items l.reached.marks.items
