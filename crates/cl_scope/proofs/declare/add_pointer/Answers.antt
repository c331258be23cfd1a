use Rattle.std.proofs.Common.{◌∙◌, arith}
use Rattle.std.proofs.lemmas.Result.{on_ok_weaker}
use Rattle.cl_scope.specs.View.{env_of}
use Rattle.cl_scope.proofs.Declaring.{counted, pointer_is}
use Rattle.cl_scope.proofs.declare.add_pointer.Goals as goal
use Rattle.cl_meaning.specs.View.{variable_of}

pub returns : goal.returns
returns c = on_ok_weaker c.add_variable.result
    (λ h.
    h c.args.places.now
    ∙ pointer_is (env_of c.args.places.now c.args.environment.now) c.args.declared c.args.declarator.now.name.now
    c.pointed_space-space.result c.place_of-place.result _ c.args.root c.args.fixed c.in_ok-number.number
    c.pointed_space-space.ensures c.place_of-place.ensures
    (counted variable_of c.in_ok-number.number c.args.environment.now.variables.items (omega (
      arith,
      c.in_ok-number.ensures,
      c.len.ensures,
      c.args.environment.now.variables.ok,
    ))))
    c.add_variable.ensures
