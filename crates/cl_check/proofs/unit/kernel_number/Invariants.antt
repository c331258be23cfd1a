use Rattle.std.proofs.Common.{◌≡◌, map, drop}
use Rattle.cl_meaning.specs.Meant.{kernel_from}
use Rattle.cl_scope.specs.View.{signature_of}
use Rattle.cl_check.proofs.unit.kernel_number.Given as goal

abbrev pub invariant-loop-number : goal.invariant-loop-number
invariant-loop-number l = kernel_from l.kernel l.number (map signature_of (drop l.number l.functions)) ≡
    kernel_from l.kernel 0 (map signature_of l.functions)
