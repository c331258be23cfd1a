use Rattle.std.proofs.Common.{◌≡◌, ◌∙◌, sym, ap, get_or, length, replicate, arith, rules}
use Rattle.cl_model.specs.View.{launch_of}
use Rattle.lane_code.specs.Acts.{answers}
use Rattle.lane_machine.proofs.AskLaws.{length-answers}
use Rattle.lane_machine.proofs.MaskLaws.{sel_below}
use Rattle.lane_machine.proofs.asks.answers64.Goals as goal

pub returns-in-Some : goal.returns-in-Some
returns-in-Some g c =
    let launch = launch_of c.args.launch.now in
    let item = c.args.item.number in
    let what = c.args.what in
    let same : c.args.dims ≡ replicate g.row.W c.in-Some.d = c.in-Some.ensures in
    let long : length c.args.dims ≡ g.row.W = search rules in
    let counted : length c.counted64.result ≡ g.row.W = search rules in
    let all = answers 64 launch item what c.args.dims in
    λ old.
    sel_below c.args.mask c.reach.result c.counted64.result all old
    (counted ∙ sym (length-answers 64 launch item what c.args.dims ∙ long)) c.reach.ensures.off
    (λ k h l. c.counted64.ensures k (omega (arith, l, counted)) (omega (arith, h, c.if-is_row.ensures))
    ∙ ap (λ dims. get_or (answers 64 launch item what dims) k 0) (sym same))
