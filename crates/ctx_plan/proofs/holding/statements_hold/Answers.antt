use Rattle.std.proofs.Common.{ap, ◌∙◌, []}
use Rattle.cl_model.specs.View.{listed_statements}
use Rattle.ctx_plan.specs.Points.{entry, points_hold, all_onto}
use Rattle.ctx_plan.proofs.Held.{statements_behind}
use Rattle.ctx_plan.proofs.holding.statements_hold.Goals as goal

pub returns : goal.returns
returns c =
    c.some_hold.ensures
    ∙ (ap (points_hold (entry c.args.inside.now)) (c.deref.ensures.value ∙
    (c.in_ok-put_all_points.ensures ∙
    ap (all_onto (listed_statements c.args.list.now)) c.new-points.ensures.items))
    ∙ statements_behind (entry c.args.inside.now) (listed_statements c.args.list.now) [])
