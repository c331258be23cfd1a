use Rattle.std.proofs.Common.{◌≡◌, drop, map}
use Rattle.cl_meaning.specs.Faults as spec
use Rattle.cl_scope.specs.View.{signature_of}
use Rattle.cl_faults.proofs.signatures.find_definition.Given as goal

abbrev pub invariant-loop-function : goal.invariant-loop-function
invariant-loop-function l = spec.signature_of l.name (map signature_of (drop l.function-index l.functions)) ≡
    spec.signature_of l.name (map signature_of l.functions)
