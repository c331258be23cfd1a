use Rattle.cl_fragment.proofs.Loops.{second_none, second_at}
use Rattle.cl_fragment.proofs.statements.second_is_test.Goals as goal

pub returns-in-len1 : goal.returns-in-len1
returns-in-len1 c = second_none c.args.parts.now c.in-len1.len_at_least c.in-len1.len_below

pub returns-in-len2-up : goal.returns-in-len2-up
returns-in-len2-up c =
    second_at c.args.parts.now c.first-item.result c.second-item.result c.from.result c.from-in-len2-up.result
    c.in-len2-up.len_at_least c.first-item.is c.second-item.is c.from.ensures c.from-in-len2-up.ensures
