use Rattle.std.proofs.Common.{◌≡◌, drop}
use Rattle.cl_model.specs.View.{listed_statements}
use Rattle.cl_model.specs.Listed.{listed_arms}
use Rattle.ctx_plan.specs.Points.{all_onto, arms_onto}
use Rattle.ctx_plan.proofs.holding.+points.Given as goal

abbrev pub invariant-put_all_points-loop-s : goal.invariant-put_all_points-loop-s
invariant-put_all_points-loop-s l = all_onto (listed_statements (drop l.s-index l.list)) l.points.items ≡
    all_onto (listed_statements l.list) l.fn.points.items

abbrev pub invariant-put_arm_points-loop-arm : goal.invariant-put_arm_points-loop-arm
invariant-put_arm_points-loop-arm l =
    arms_onto (listed_arms (drop l.arm-index l.arms)) l.points.items ≡ arms_onto (listed_arms l.arms) l.fn.points.items
