use Rattle.std.proofs.Common.{sym, ap, ◌∙◌}
use Rattle.kir.specs.Listed.{lines_of}
use Rattle.kir.specs.Tree.{joined_to}
use Rattle.kir_lower.specs.Whole.{bound_lines}
use Rattle.kir_lower.proofs.Lists.{empty_list, join_none}
use Rattle.kir_lower.proofs.entering.put_bound.Goals as goal

pub returns : goal.returns
returns c =
    let lines = lines_of c.loop-others.lines.items in
    sym (c.loop-others.invariant ∙
    ap (λ z. joined_to lines (bound_lines c.loop-others.cell c.loop-others.n z))
    (empty_list c.loop-others.rest.now c.in_default.ensures.cases) ∙ join_none lines)
