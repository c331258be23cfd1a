use Rattle.std.proofs.Common.{◌≡◌, suc, true, length, map}
use Rattle.cl_meaning.specs.Calls.{call_of}
use Rattle.cl_faults.specs.Reach.{marked, unmarked, most, Sound}
use Rattle.cl_faults.proofs.reach.leads_back.Given as goal

abbrev pub invariant-loop-called : goal.invariant-loop-called
invariant-loop-called l = record {
  sound : Sound (map call_of l.calls) l.from l.marks.items;
  begins : marked l.marks.items l.from ≡ true;
  within : length l.marks.items ≡ suc (most l.from (map call_of l.calls));
}

abbrev pub decreases-loop-called : goal.decreases-loop-called
decreases-loop-called l = unmarked l.marks.items
