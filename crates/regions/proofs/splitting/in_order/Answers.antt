use Rattle.std.proofs.Common.{ap, ◌∙◌}
use Rattle.regions.specs.Tree.{NoRegion}
use Rattle.regions.proofs.Trees.{seq_listed, all_before, all_before-reverse}
use Rattle.regions.proofs.splitting.in_order.Goals as goal

pub returns : goal.returns
returns c = seq_listed c.reverse.new.self NoRegion ∙ (ap (λ xs. all_before xs NoRegion) c.reverse.ensures.items ∙
    all_before-reverse c.args.trees.items NoRegion)
