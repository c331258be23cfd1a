use Rattle.std.proofs.Common.{◌≡◌, ap, ◌∙◌, subst, IfOk, take, drop, ◌-◌}
use Rattle.kir.specs.Listed.{lines_of}
use Rattle.regions.specs.Tree.{NoRegion}
use Rattle.regions.specs.View.{region_of}
use Rattle.regions.specs.Cutting.{stacked, region_with, ended_by}
use Rattle.regions.proofs.Trees.{stacked_push}
use Rattle.regions.proofs.splitting.close.Goals as goal

pub returns : goal.returns
returns c =
    let L = lines_of (take (c.args.ending.end - c.args.number) (drop c.args.number c.args.lines.now)) in
    let e = c.args.ending in
    let is : region_of c.in_ok-region.region ≡ region_with L e.answer e.live.items =
    subst (λ r. IfOk r (λ x. region_of x ≡ region_with L e.answer e.live.items)) c.in_ok-region.ensures.made
    c.region_of_lines.ensures in
    ap (λ xs. stacked xs NoRegion) c.in_ok-push.ensures
    ∙ (stacked_push e.behind.items c.with_choice.result NoRegion
    ∙ (c.with_choice.ensures L e.answer e.live.items (stacked e.behind.items NoRegion) is
    ∙ ap (λ o. ended_by o L e.answer e.live.items (stacked e.behind.items NoRegion)) c.in_ok-region.ensures.kept))
