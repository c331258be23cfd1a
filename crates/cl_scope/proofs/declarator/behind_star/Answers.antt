use Rattle.cl_scope.proofs.Trees.{star_gone, no_star_gone}
use Rattle.cl_scope.proofs.declarator.behind_star.Goals as goal

pub returns-in-StarNode : goal.returns-in-StarNode
returns-in-StarNode c =
    star_gone c.args.parts.now c.part-item.result c.in-len1-up.len_at_least c.part-item.is c.in-StarNode.is

pub returns-in_default : goal.returns-in_default
returns-in_default c =
    no_star_gone c.args.parts.now c.part-item.result c.in-len1-up.len_at_least c.part-item.is c.in_default.not-StarNode
