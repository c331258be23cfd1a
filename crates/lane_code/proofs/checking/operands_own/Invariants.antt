use Rattle.std.proofs.Common.{◌≡◌, drop, true}
use Rattle.lane_code.specs.Fits.{all_pass, own_test}
use Rattle.lane_code.proofs.checking.operands_own.Given as goal

-- what is still to be tested decides
abbrev pub invariant-loop-operand : goal.invariant-loop-operand
invariant-loop-operand l =
    all_pass own_test l.own (drop l.operand-index l.operands) ≡ all_pass own_test true l.operands
