use Rattle.wg_num.proofs.WrapLaws.{IsWrapped-wrap, wrap_is_wrapped, wrap_value}
use Rattle.wg_num.proofs.laws.wrap_law.Goals as goal

pub returns-clause-a_value : goal.returns-clause-a_value
returns-clause-a_value c = IsWrapped-wrap

pub returns-clause-the_value : goal.returns-clause-the_value
returns-clause-the_value c = wrap_is_wrapped

pub returns-clause-keeps : goal.returns-clause-keeps
returns-clause-keeps c = wrap_value
