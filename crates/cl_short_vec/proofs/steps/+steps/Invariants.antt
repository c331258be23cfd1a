use Rattle.std.proofs.Common.{◌≡◌, ◌++◌, drop}
use Rattle.cl_short_vec.specs.Order as spec
use Rattle.cl_short_vec.specs.View.{marks_of, steps_from}
use Rattle.cl_short_vec.proofs.steps.+steps.Given as goal

abbrev pub invariant-push_all-loop-part : goal.invariant-push_all-loop-part
invariant-push_all-loop-part l =
    steps_from l.steps.items ++ spec.all_steps l.items l.of (marks_of (drop l.part-index l.parts)) ≡
    steps_from l.fn.steps.items ++ spec.all_steps l.listed l.of (marks_of l.parts)

abbrev pub invariant-push_lists-loop-part : goal.invariant-push_lists-loop-part
invariant-push_lists-loop-part l =
    steps_from l.steps.items ++ spec.list_steps l.of (marks_of (drop l.part-index l.parts)) ≡
    steps_from l.fn.steps.items ++ spec.list_steps l.of (marks_of l.parts)
