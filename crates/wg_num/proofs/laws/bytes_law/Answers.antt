use Rattle.wg_num.proofs.ByteLaws.{value-bytes, length-bytes}
use Rattle.wg_num.proofs.laws.bytes_law.Goals as goal

pub returns-clause-value : goal.returns-clause-value
returns-clause-value c = value-bytes

pub returns-clause-size : goal.returns-clause-size
returns-clause-size c = length-bytes
