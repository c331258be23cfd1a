use Rattle.std.proofs.Common.{◌≡◌, drop, map}
use Rattle.cl_meaning.specs.Faults.{defines_kernel}
use Rattle.cl_scope.specs.View.{signature_of}
use Rattle.cl_faults.proofs.labels.defines_kernel.Given as goal

abbrev pub invariant-loop-function : goal.invariant-loop-function
invariant-loop-function l = defines_kernel l.name (map signature_of (drop l.function-index l.functions)) ≡
    defines_kernel l.name (map signature_of l.functions)
