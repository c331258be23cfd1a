use Rattle.std.proofs.Common.{◌≡◌, drop, option_map}
use Rattle.cl_tree.specs.Syntax.{joined, views}
use Rattle.cl_short_vec.specs.Unit as spec
use Rattle.cl_short_vec.specs.View.{mark_of, assigned_from, steps_from}
use Rattle.cl_short_vec.proofs.unit.put_lines.Given as goal

abbrev pub invariant-loop-step : goal.invariant-loop-step
invariant-loop-step l =
    joined (views l.lines.items) (spec.lines_of (option_map (λ m. mark_of m.now) l.base) (assigned_from l.assigned)
    (steps_from (drop l.step-index l.steps))) ≡ joined (views l.fn.lines.items)
    (spec.lines_of (option_map (λ m. mark_of m.now) l.base) (assigned_from l.assigned) (steps_from l.steps))
