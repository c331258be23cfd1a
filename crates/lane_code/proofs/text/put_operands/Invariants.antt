use Rattle.std.proofs.Common.{◌≡◌, ◌++◌, take}
use Rattle.lane_code.specs.Text.{operands_text}
use Rattle.lane_code.proofs.text.put_operands.Given as goal

abbrev pub invariant-loop-operand : goal.invariant-loop-operand
invariant-loop-operand l = l.out.items ≡ l.fn.out.items ++ operands_text l.name (take l.operand-index l.operands)
