use Rattle.std.proofs.Common.{sym, ap, ◌∙◌}
use Rattle.kir.specs.Listed.{lines_of}
use Rattle.kir.specs.Tree.{joined_to}
use Rattle.kir_lower.specs.Whole.{parameter_lines}
use Rattle.kir_lower.proofs.Lists.{empty_list, join_none}
use Rattle.kir_lower.proofs.entering.put_parameters.Goals as goal

pub returns : goal.returns
returns c =
    let lines = lines_of c.loop-value.lines.items in
    sym (c.loop-value.invariant ∙ ap (λ z. joined_to lines (parameter_lines c.loop-value.cell z))
    (empty_list c.loop-value.rest.now c.in_default.ensures.cases) ∙ join_none lines)
