use Rattle.std.proofs.Common.{ap, ◌∙◌, []}
use Rattle.cl_model.specs.View.{statement_of}
use Rattle.ctx_plan.specs.Points.{entry, points_hold, points_onto}
use Rattle.ctx_plan.proofs.Held.{statement_behind}
use Rattle.ctx_plan.proofs.holding.statement_holds.Goals as goal

pub returns : goal.returns
returns c =
    c.some_hold.ensures
    ∙ (ap (points_hold (entry c.args.inside.now)) (c.deref.ensures.value ∙
    (c.in_ok-put_points.ensures ∙ ap (points_onto (statement_of c.args.s.now)) c.new-points.ensures.items))
    ∙ statement_behind (entry c.args.inside.now) (statement_of c.args.s.now) [])
