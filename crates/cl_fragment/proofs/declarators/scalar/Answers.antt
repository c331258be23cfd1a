use Rattle.std.proofs.Common.{ap, ◌∙◌}
use Rattle.cl_fragment.specs.Declares.{kept_line, scalar_what}
use Rattle.cl_fragment.proofs.declarators.scalar.Goals as goal

pub returns : goal.returns
unfolding scalar_what
returns c = c.in_ok-what.ensures ∙ ap (kept_line c.args.kept c.args.count) c.in_ok-value.ensures
