use Rattle.std.proofs.Common.{◌≡◌, ◌++◌, drop}
use Rattle.cl_short_vec.specs.Order as spec
use Rattle.cl_short_vec.specs.View.{mark_of, steps_from}
use Rattle.cl_short_vec.proofs.steps.push_loads.Given as goal

abbrev pub invariant-loop-component : goal.invariant-loop-component
invariant-loop-component l =
    steps_from l.steps.items ++ spec.loads (mark_of l.element) (drop l.component-index l.components) ≡
    steps_from l.fn.steps.items ++ spec.loads (mark_of l.element) l.components
