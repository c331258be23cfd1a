use Rattle.std.proofs.Common.{◌≡◌, map, drop}
use Rattle.cl_meaning.specs.Visible.{definition_from}
use Rattle.cl_scope.specs.View.{signature_of}
use Rattle.cl_scope.proofs.lookup.definition_of.Given as goal

abbrev pub invariant-loop-number : goal.invariant-loop-number
invariant-loop-number l = definition_from l.name l.number (map signature_of (drop l.number l.function-items)) ≡
    definition_from l.name 0 (map signature_of l.environment.functions.items)
