use Rattle.std.proofs.Common.{◌∙◌, ap}
use Rattle.std.proofs.lemmas.Result.{on_ok_weaker}
use Rattle.cl_meaning.specs.Spelling.{name_in}
use Rattle.cl_scope.specs.View.{env_of}
use Rattle.cl_scope.proofs.Departures.{parameter_at}
use Rattle.cl_scope.proofs.leaving.leave_parameter.Goals as goal

pub returns : goal.returns
returns c = on_ok_weaker c.add_parameter.result
    (λ h. h ∙ parameter_at (env_of c.args.places.now c.args.environment.now) c.args.tree.now _ _
    (c.name_of-name.ensures ∙ ap name_in c.bytes.ensures) c.deref.ensures.value)
    c.add_parameter.ensures
