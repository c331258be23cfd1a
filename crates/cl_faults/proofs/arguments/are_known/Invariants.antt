use Rattle.std.proofs.Common.{◌≡◌, drop}
use Rattle.cl_meaning.specs.Kinds as spec
use Rattle.cl_faults.proofs.arguments.are_known.Given as goal

abbrev pub invariant-loop-kind : goal.invariant-loop-kind
invariant-loop-kind l =
    spec.is_some (spec.all_known (drop l.kind-index l.kinds)) ≡ spec.is_some (spec.all_known l.kinds)
