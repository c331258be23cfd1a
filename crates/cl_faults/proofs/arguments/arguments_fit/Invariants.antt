use Rattle.std.proofs.Common.{◌≡◌, drop}
use Rattle.cl_meaning.specs.Kinds as spec
use Rattle.cl_faults.specs.Known.{known}
use Rattle.cl_faults.proofs.arguments.arguments_fit.Given as goal

abbrev pub invariant-loop-kind : goal.invariant-loop-kind
invariant-loop-kind l =
    spec.arguments_fit l.left (known (drop l.kind-index l.kinds)) ≡ spec.arguments_fit l.parameters (known l.kinds)
