use Rattle.std.proofs.Common.{sym, ◌∙◌}
use Rattle.cl_tree.specs.Syntax.{view}
use Rattle.cl_meaning.specs.declared.kind.Role.TheVariants as roles
use Rattle.cl_check.proofs.Aside.{kind_aside}
use Rattle.cl_check.proofs.gather.kind_here.Goals as goal

pub returns : goal.returns
returns c = λ places. c.kind_of.ensures ∙
    sym (kind_aside places c.args.environment.now roles.Other (view c.args.tree.now) c.args.kinds.now)
