use Rattle.std.proofs.Common.{map, List, ap}
use Rattle.cl_tree.specs.Syntax.{view}
use Rattle.cl_scope.specs.View.{env_of}
use Rattle.cl_meaning.specs.declared.call.Call.{Call}
use Rattle.cl_meaning.specs.Calls.{call_of}
use Rattle.cl_check.proofs.Answering.{asked_is}
use Rattle.cl_check.proofs.unit.asked_for.Goals as goal

pub returns : goal.returns
returns c =
    asked_is c.args.places.now c.args.kernel.now c.in_ok-kernel.kernel (view c.args.unit.now)
    (env_of c.args.places.now c.in_ok-environment.environment)
    (env_of c.args.places.now c.gather_tree.new.environment) c.in_ok-gather_tree.field-0
    (map call_of c.new.result.items) (map call_of c.gather_tree.new.found.calls.items) c.new-2.result.items
    c.gather_tree.new.found.missing.items
    (c.in_ok-environment.ensures c.args.places.now) (ap (λ (l : List Call). map call_of l) c.new.ensures.items)
    c.new-2.ensures.items c.in_ok-gather_tree.ensures c.in_ok-kernel.ensures
