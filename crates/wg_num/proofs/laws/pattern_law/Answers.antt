use Rattle.wg_num.proofs.WrapLaws.{value-bits, bits-value}
use Rattle.wg_num.proofs.ByteLaws.{value-low_half}
use Rattle.wg_num.proofs.laws.pattern_law.Goals as goal

pub returns-clause-value : goal.returns-clause-value
returns-clause-value c = value-bits

pub returns-clause-pattern : goal.returns-clause-pattern
returns-clause-pattern c = bits-value

pub returns-clause-low_half : goal.returns-clause-low_half
returns-clause-low_half c = value-low_half
