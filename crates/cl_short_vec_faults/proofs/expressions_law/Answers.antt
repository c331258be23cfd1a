use Rattle.cl_short_vec_faults.proofs.Expressions.{expressions_follow, components_follow}
use Rattle.cl_short_vec_faults.proofs.expressions_law.Goals as goal

pub returns-clause-expressions : goal.returns-clause-expressions
returns-clause-expressions c = expressions_follow

pub returns-clause-components : goal.returns-clause-components
returns-clause-components c = components_follow
