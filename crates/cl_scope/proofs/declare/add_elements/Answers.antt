use Rattle.std.proofs.Common.{◌∙◌, ap}
use Rattle.std.proofs.lemmas.Result.{on_ok_weaker}
use Rattle.cl_meaning.specs.Environment.{Array}
use Rattle.cl_meaning.specs.Declarations.{each_of}
use Rattle.cl_meaning.specs.View.{array_of}
use Rattle.cl_scope.specs.View.{env_of}
use Rattle.cl_scope.specs.Declarators.{declarator_view}
use Rattle.cl_scope.proofs.Declaring.{elements_are, next_root_same}
use Rattle.cl_scope.proofs.declare.add_elements.Goals as goal

pub add_array-requires : goal.add_array-requires
add_array-requires c = ap (λ (a : Array). a.name) (c.in_ok-array.ensures c.args.environment.now)

pub returns : goal.returns
returns c = on_ok_weaker c.add_array.result
    (λ h.
    h c.args.places.now
    ∙ elements_are (env_of c.args.places.now c.args.environment.now) c.args.declared
    (declarator_view c.args.declarator.now) c.kept_in-space.result _ c.in_ok-dims.dims.items _
    (array_of c.in_ok-array.array) c.in_ok-root.root c.each_of-each.result
    (c.in_ok-array.ensures c.args.environment.now)
    (c.in_ok-root.ensures ∙ next_root_same c.args.places.now c.args.environment.now c.kept_in-space.result)
    (c.each_of-each.ensures ∙ ap each_of c.deref.ensures.value)
    c.kept_in-space.ensures c.in_ok-dims.ensures)
    c.add_array.ensures
