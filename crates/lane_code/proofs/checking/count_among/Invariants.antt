use Rattle.std.proofs.Common.{◌≡◌, drop, max}
use Rattle.lane_code.specs.Counting.{counted_among}
use Rattle.lane_code.proofs.checking.count_among.Given as goal

-- with what the operands still to be looked at count it is the whole count
abbrev pub invariant-loop-operand : goal.invariant-loop-operand
invariant-loop-operand l =
    max l.count (counted_among l.bank (drop l.operand-index l.operands)) ≡ counted_among l.bank l.operands
