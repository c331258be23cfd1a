use Rattle.std.proofs.Common.{List, ◌∙◌, arith}
use Rattle.std.proofs.lemmas.Result.{on_ok_weaker}
use Rattle.wg_num.specs.declared.types.Place.{Place}
use Rattle.cl_scope.specs.View.{env_of}
use Rattle.cl_scope.proofs.Declaring.{counted, pointer_parameter_is}
use Rattle.cl_scope.proofs.declare.add_pointer_parameter.Goals as goal
use Rattle.cl_meaning.specs.View.{variable_of}

pub returns : goal.returns
returns c = on_ok_weaker c.add_variable.result
    (λ h (places : List Place).
    h places
    ∙ pointer_parameter_is (env_of places c.args.environment.now) c.args.declared c.args.name.now
    c.pointed_space-space.result c.args.place c.args.fixed c.in_ok-number.number
    c.pointed_space-space.ensures
    (counted variable_of c.in_ok-number.number c.args.environment.now.variables.items (omega (
      arith,
      c.in_ok-number.ensures,
      c.len.ensures,
      c.args.environment.now.variables.ok,
    ))))
    c.add_variable.ensures
