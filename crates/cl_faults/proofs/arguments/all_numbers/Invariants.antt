use Rattle.std.proofs.Common.{◌≡◌, drop}
use Rattle.cl_meaning.specs.Kinds as spec
use Rattle.cl_faults.specs.Known.{known}
use Rattle.cl_faults.proofs.arguments.all_numbers.Given as goal

abbrev pub invariant-loop-kind : goal.invariant-loop-kind
invariant-loop-kind l = spec.all_numbers (known (drop l.kind-index l.kinds)) ≡ spec.all_numbers (known l.kinds)
