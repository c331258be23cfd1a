use Rattle.std.proofs.Common.{◌∙◌, ap}
use Rattle.std.proofs.lemmas.Result.{on_ok_weaker}
use Rattle.wg_num.specs.declared.types.Place.{Place}
use Rattle.cl_scope.specs.View.{env_of}
use Rattle.cl_scope.specs.Declarators.{scalar_at, pointer_parameter_at}
use Rattle.cl_scope.proofs.Declaring.{parameter_is}
use Rattle.cl_scope.proofs.declare.add_parameter.Goals as goal

pub returns-in-Some-second_star : goal.returns-in-Some-second_star
returns-in-Some-second_star c = on_ok_weaker c.add_pointer_parameter.result
    (λ h.
    h c.args.places.now
    ∙ ap (λ (p : Place). pointer_parameter_at (env_of c.args.places.now c.args.environment.now) c.in-Some.declared
    c.args.name.now p c.in-Some-second_star.fixed) c.place_of-place.ensures
    ∙ parameter_is (env_of c.args.places.now c.args.environment.now) c.args.name.now c.args.token _ _ _ _
    c.in-Some.ensures c.in-Some-second_star.ensures)
    c.add_pointer_parameter.ensures

pub returns-in-None : goal.returns-in-None
returns-in-None c = on_ok_weaker c.add_number.result
    (λ h.
    h c.args.places.now
    ∙ ap (λ (p : Place). scalar_at (env_of c.args.places.now c.args.environment.now) c.in-Some.declared
    c.args.name.now p) c.place_of-place.ensures
    ∙ parameter_is (env_of c.args.places.now c.args.environment.now) c.args.name.now c.args.token _ _ _ _
    c.in-Some.ensures c.in-None.ensures)
    c.add_number.ensures
