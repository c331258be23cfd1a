use Rattle.std.proofs.Common.{sym, ap, ◌∙◌}
use Rattle.kir.specs.Listed.{lines_of}
use Rattle.kir.specs.Tree.{joined_to}
use Rattle.cl_model.specs.Listed.{listed_arms}
use Rattle.kir_lower.specs.Actions.{all_labels_code}
use Rattle.kir_lower.specs.View.{made_of}
use Rattle.kir_lower.proofs.Lists.{empty_list, join_none}
use Rattle.kir_lower.proofs.arms.put_all_labels.Goals as goal

pub returns-clause-lines : goal.returns-clause-lines
returns-clause-lines c =
    let lines = lines_of c.loop-arm.lines.items in
    sym (c.loop-arm.invariant.0 ∙ ap
    (λ z. joined_to lines ((all_labels_code c.args.of.site c.args.of.value c.args.of.chosen c.loop-arm.k
    (listed_arms z) (made_of c.loop-arm.made)).lines))
    (empty_list c.loop-arm.rest.now c.in_default.ensures.cases) ∙ join_none lines)
