use Rattle.std.proofs.Common.{nat_eq, ap, ◌∙◌}
use Rattle.mask_lower.proofs.Lowering.{no_line}
use Rattle.mask_lower.proofs.lines.is_no_line.Goals as goal

pub returns : goal.returns
returns c = c.is_empty.ensures ∙ ap (λ n. nat_eq n 0) c.args.lines.now.ok.0 ∙ no_line c.args.lines.now.items
