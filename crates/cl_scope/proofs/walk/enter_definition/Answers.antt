use Rattle.std.proofs.Common.{ℕ, ◌∙◌, ap, true}
use Rattle.cl_meaning.specs.Visible.{in_function}
use Rattle.cl_scope.specs.View.{env_of}
use Rattle.cl_scope.proofs.walk.enter_definition.Goals as goal

pub returns-clause-inside : goal.returns-clause-inside
returns-clause-inside c = λ places.
    c.take_body.ensures.inside places
    ∙ ap (λ (n : ℕ). in_function (env_of places c.args.environment.now) n true) c.in_ok-number.ensures
