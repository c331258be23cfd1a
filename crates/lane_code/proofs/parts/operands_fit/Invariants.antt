use Rattle.std.proofs.Common.{◌≡◌, drop, true}
use Rattle.lane_code.specs.Fits.{all_pass, fit_test}
use Rattle.lane_code.specs.Program.{names_of}
use Rattle.lane_code.specs.Parts.{parts_of}
use Rattle.lane_code.proofs.parts.operands_fit.Given as goal

-- what is still to be tested decides
abbrev pub invariant-loop-operand : goal.invariant-loop-operand
invariant-loop-operand l =
    all_pass (fit_test (names_of (parts_of l.parts)) l.c l.end l.place) l.fit (drop l.operand-index l.operands)
    ≡ all_pass (fit_test (names_of (parts_of l.parts)) l.c l.end l.place) true l.operands
