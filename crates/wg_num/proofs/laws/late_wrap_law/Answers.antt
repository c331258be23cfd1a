use Rattle.wg_num.proofs.WrapLaws.{wrap-add, wrap-sub, wrap-mul}
use Rattle.wg_num.proofs.laws.late_wrap_law.Goals as goal

pub returns-clause-sums : goal.returns-clause-sums
returns-clause-sums c = record { late = wrap-add }

pub returns-clause-differences : goal.returns-clause-differences
returns-clause-differences c = record { late = wrap-sub }

pub returns-clause-products : goal.returns-clause-products
returns-clause-products c = record { late = wrap-mul }
