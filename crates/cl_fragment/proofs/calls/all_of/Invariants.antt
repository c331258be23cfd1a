use Rattle.std.proofs.Common.{◌≡◌, drop}
use Rattle.cl_meaning.specs.Kinds.{all_of}
use Rattle.cl_fragment.proofs.calls.all_of.Given as goal

abbrev pub invariant-loop-other : goal.invariant-loop-other
invariant-loop-other l = all_of l.of (drop l.other-index l.types) ≡ all_of l.of l.types
