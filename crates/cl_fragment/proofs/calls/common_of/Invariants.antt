use Rattle.std.proofs.Common.{◌≡◌, drop}
use Rattle.cl_meaning.specs.Kinds.{common_of}
use Rattle.cl_fragment.proofs.calls.common_of.Given as goal

abbrev pub invariant-loop-other : goal.invariant-loop-other
invariant-loop-other l = common_of l.all (drop l.other-index l.types) ≡ common_of l.fn.of l.types
