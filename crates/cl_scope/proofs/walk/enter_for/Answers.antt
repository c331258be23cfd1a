use Rattle.std.proofs.Common.{◌∙◌, ap}
use Rattle.cl_meaning.specs.Environment.{Env}
use Rattle.cl_meaning.specs.Visible.{opened}
use Rattle.cl_scope.proofs.walk.enter_for.Goals as goal

pub returns-clause-inside : goal.returns-clause-inside
returns-clause-inside c =
    λ places. c.in_ok-open.ensures places ∙ ap (λ (e : Env). opened e) (c.enter_loop-labels.ensures.inside places)
