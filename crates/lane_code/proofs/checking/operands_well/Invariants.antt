use Rattle.std.proofs.Common.{◌≡◌, drop, true}
use Rattle.lane_code.specs.Fits.{all_pass, well_test}
use Rattle.lane_code.proofs.checking.operands_well.Given as goal

-- what is still to be tested decides
abbrev pub invariant-loop-operand : goal.invariant-loop-operand
invariant-loop-operand l =
    all_pass (well_test l.c l.end l.place) l.well (drop l.operand-index l.operands)
    ≡ all_pass (well_test l.c l.end l.place) true l.operands
