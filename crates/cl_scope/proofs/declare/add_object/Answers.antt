use Rattle.std.proofs.Common.{◌∙◌, ap}
use Rattle.std.proofs.lemmas.Result.{on_ok_weaker}
use Rattle.cl_meaning.specs.Environment.{Array}
use Rattle.cl_meaning.specs.View.{array_of}
use Rattle.cl_scope.specs.View.{env_of}
use Rattle.cl_scope.specs.Declarators.{declarator_view}
use Rattle.cl_scope.proofs.Declaring.{object_is, next_root_same}
use Rattle.cl_scope.proofs.declare.add_object.Goals as goal

pub add_array-requires : goal.add_array-requires
add_array-requires c = ap (λ (a : Array). a.name) (c.in_ok-array.ensures c.args.environment.now)

pub returns : goal.returns
returns c = on_ok_weaker c.add_array.result
    (λ h.
    h c.args.places.now
    ∙ object_is (env_of c.args.places.now c.args.environment.now) c.args.declared
    (declarator_view c.args.declarator.now) c.args.space c.in_ok-dims.dims.items (array_of c.in_ok-array.array)
    c.in_ok-root.root
    (c.in_ok-array.ensures c.args.environment.now)
    (c.in_ok-root.ensures ∙ next_root_same c.args.places.now c.args.environment.now c.args.space)
    c.in_ok-dims.ensures)
    c.add_array.ensures
