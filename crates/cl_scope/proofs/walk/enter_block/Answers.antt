use Rattle.std.proofs.Common.{◌∙◌, refl}
use Rattle.cl_scope.proofs.walk.enter_block.Goals as goal

pub returns-clause-inside : goal.returns-clause-inside
returns-clause-inside c =
    λ places. c.in_ok-open.ensures places ∙ rw (c.if-environment.false, c.take-labels.ensures.after) refl
