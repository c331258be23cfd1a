use Rattle.wg_num.proofs.OperatorLaws.{IsValue-unary, IsValue-binary}
use Rattle.wg_num.proofs.BuiltinLaws.{IsValue-builtin}
use Rattle.wg_num.proofs.laws.result_law.Goals as goal

pub returns-clause-unary : goal.returns-clause-unary
returns-clause-unary c = IsValue-unary

pub returns-clause-binary : goal.returns-clause-binary
returns-clause-binary c = IsValue-binary

pub returns-clause-builtin : goal.returns-clause-builtin
returns-clause-builtin c = IsValue-builtin
