use Rattle.std.proofs.Common.{map, drop}
use Rattle.cl_tree.specs.Syntax.{views}
use Rattle.cl_scope.specs.View.{env_of}
use Rattle.cl_meaning.specs.Calls.{call_of}
use Rattle.cl_check.specs.Gather.{GatheredAlong}
use Rattle.cl_check.proofs.gather.+gather.Given as goal

abbrev pub invariant-gather_parts-loop-part : goal.invariant-gather_parts-loop-part
invariant-gather_parts-loop-part l =
    GatheredAlong l.form (env_of l.places l.fn.environment) (views l.trees) (env_of l.places l.environment) l.front
    l.kinds.items (map call_of l.fn.found.calls.items) (map call_of l.found.calls.items) l.fn.found.missing.items
    l.found.missing.items (views (drop l.part-index l.trees))
