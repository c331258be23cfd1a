use Rattle.std.proofs.Common.{◌≡◌, length}
use Rattle.kir.specs.Listed.{lines_of}
use Rattle.kir.specs.Tree.{joined_to}
use Rattle.kir_lower.specs.Actions.{labels_code}
use Rattle.kir_lower.specs.View.{made_of}
use Rattle.kir_lower.proofs.arms.put_labels.Given as goal

abbrev pub invariant-loop-label : goal.invariant-loop-label
invariant-loop-label l =
    let all = labels_code l.of.site l.of.value l.of.chosen l.number l.labels (made_of l.fn.made) in
    let left = labels_code l.of.site l.of.value l.of.chosen l.number l.rest (made_of l.made) in
    (joined_to (lines_of l.fn.lines.items) all.lines ≡ joined_to (lines_of l.lines.items) left.lines) ×
    (all.made ≡ left.made)

abbrev pub decreases-loop-label : goal.decreases-loop-label
decreases-loop-label l = length l.rest
