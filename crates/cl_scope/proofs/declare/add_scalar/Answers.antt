use Rattle.std.proofs.Common.{◌∙◌, sym, ap}
use Rattle.std.proofs.lemmas.Result.{on_ok_weaker}
use Rattle.wg_num.specs.declared.types.Place.{Place}
use Rattle.cl_model.specs.declared.program.Space.{Space}
use Rattle.cl_meaning.specs.Declarations.{with_scalar}
use Rattle.cl_scope.specs.View.{env_of}
use Rattle.cl_scope.specs.Declarators.{declarator_view, scalar_at}
use Rattle.cl_scope.proofs.declare.add_scalar.Goals as goal

pub returns-in-Private : goal.returns-in-Private
returns-in-Private c = on_ok_weaker c.add_number.result
    (λ h.
    h c.args.places.now
    ∙ ap (λ (p : Place). scalar_at (env_of c.args.places.now c.args.environment.now) c.args.declared
    c.args.declarator.now.name.now p) c.place_of-place.ensures
    ∙ ap (λ (s : Space). with_scalar (env_of c.args.places.now c.args.environment.now) c.args.declared
    (declarator_view c.args.declarator.now) s) (sym c.in-Private.is ∙ c.kept_in-space.ensures))
    c.add_number.ensures
