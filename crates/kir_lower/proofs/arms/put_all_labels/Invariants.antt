use Rattle.std.proofs.Common.{◌≡◌, length}
use Rattle.kir.specs.Listed.{lines_of}
use Rattle.kir.specs.Tree.{joined_to}
use Rattle.kir_lower.specs.Actions.{all_labels_code}
use Rattle.kir_lower.specs.View.{made_of}
use Rattle.cl_model.specs.Listed.{listed_arms}
use Rattle.kir_lower.proofs.arms.put_all_labels.Given as goal

abbrev pub invariant-loop-arm : goal.invariant-loop-arm
invariant-loop-arm l =
    let all = all_labels_code l.of.site l.of.value l.of.chosen 0 (listed_arms l.arms) (made_of l.fn.made) in
    let left = all_labels_code l.of.site l.of.value l.of.chosen l.k (listed_arms l.rest) (made_of l.made) in
    (joined_to (lines_of l.fn.lines.items) all.lines ≡ joined_to (lines_of l.lines.items) left.lines) ×
    (all.made ≡ left.made)

abbrev pub decreases-loop-arm : goal.decreases-loop-arm
decreases-loop-arm l = length l.rest
