use Rattle.std.proofs.Common.{◌∙◌}
use Rattle.std.proofs.lemmas.Result.{on_ok_weaker}
use Rattle.cl_scope.specs.View.{env_of}
use Rattle.cl_scope.specs.Declarators.{declarator_view}
use Rattle.cl_scope.proofs.Departures.{declared_is}
use Rattle.cl_scope.proofs.leaving.leave_declarator.Goals as goal

pub returns : goal.returns
returns c = on_ok_weaker c.add_declarator.result
    (λ h. h ∙ declared_is (env_of c.args.places.now c.args.environment.now) c.args.tree.now c.args.kinds.now _ _
    (declarator_view c.in_ok-declarator.declarator) c.last_kind.result c.in_ok-declarator.ensures
    c.bytes.ensures c.deref.ensures.value c.last_kind.ensures)
    c.add_declarator.ensures
