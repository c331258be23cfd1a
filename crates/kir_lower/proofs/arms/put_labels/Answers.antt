use Rattle.std.proofs.Common.{sym, ap, ◌∙◌}
use Rattle.kir.specs.Listed.{lines_of}
use Rattle.kir.specs.Tree.{joined_to}
use Rattle.kir_lower.specs.Actions.{labels_code}
use Rattle.kir_lower.specs.View.{made_of}
use Rattle.kir_lower.proofs.Lists.{empty_list, join_none}
use Rattle.kir_lower.proofs.arms.put_labels.Goals as goal

pub returns-clause-lines : goal.returns-clause-lines
returns-clause-lines c =
    let lines = lines_of c.loop-label.lines.items in
    sym (c.loop-label.invariant.0 ∙
    ap (λ z. joined_to lines ((labels_code c.args.of.site c.args.of.value c.args.of.chosen c.args.number z
    (made_of c.loop-label.made)).lines)) (empty_list c.loop-label.rest.now c.in_default.ensures.cases) ∙
    join_none lines)
