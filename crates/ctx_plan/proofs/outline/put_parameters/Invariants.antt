use Rattle.std.proofs.Common.{◌≡◌}
use Rattle.std.proofs.Common.{◌-◌}
use Rattle.ctx_plan.specs.Outline.{Outline, pieces_then, parameters_then}
use Rattle.ctx_plan.proofs.outline.put_parameters.Given as goal

abbrev pub invariant-loop-parameter : goal.invariant-loop-parameter
invariant-loop-parameter l = (rest : Outline) →
    pieces_then l.pieces.items (parameters_then l.parameter (l.count - l.parameter) rest) ≡
    pieces_then l.fn.pieces.items (parameters_then 0 l.count rest)
