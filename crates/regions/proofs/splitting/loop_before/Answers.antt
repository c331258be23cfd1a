use Rattle.std.proofs.Common.{ap, ◌∙◌}
use Rattle.regions.specs.Tree.{NoRegion}
use Rattle.regions.specs.Cutting.{stacked}
use Rattle.regions.proofs.Trees.{stacked_push, loop_tree}
use Rattle.regions.proofs.splitting.loop_before.Goals as goal

pub returns : goal.returns
returns c =
    ap (λ xs. stacked xs NoRegion) c.in_ok-push.ensures
    ∙ (stacked_push c.args.trees.items _ NoRegion
    ∙ loop_tree c.args.round.test_first c.args.round.test c.args.round.body c.args.round.rest
    (stacked c.args.trees.items NoRegion))
